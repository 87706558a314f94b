-- The entry of a virtual allocation table (UDF 2.01 2.2.10), which a reader looks for from the end of a medium.
use Rattle.std.specs.Prelude.{◌≡◌, ℕ, List}
use Rattle.icb.specs.declared.entry.Kind.TheVariants.{Vat}
use Rattle.icb.specs.Entry.{Fields, IsEntry}

-- the block is the entry of a virtual allocation table at this block number
pub record IsVatIcb (block : List ℕ) (number : ℕ) : Type 0 where
  pub fields : Fields
  pub kind : fields.kind ≡ Vat
  pub entry : IsEntry fields number block
