-- Blocks that look like a VAT ICB where they are.
use Rattle.std.specs.Prelude.{ℕ, ◌+◌, ◌*◌, ◌<◌, List, length, take, drop}
use Rattle.limits.specs.declared.TheConstants.{BLOCK_BYTES}
use Rattle.ecma.specs.Descriptor.{padded}
use Rattle.ecma.specs.Blocks.{block_count}
use Rattle.icb.specs.VatIcb.{IsVatIcb}

-- a block of the data, the last one with zeros after it
abbrev pub data_block : List ℕ → ℕ → List ℕ
data_block bytes i = padded (take BLOCK_BYTES (drop (BLOCK_BYTES * i) bytes))

-- some block of data that begins at this block number is a VAT ICB where it would be
pub record Imitates (bytes : List ℕ) (start : ℕ) : Type 0 where
  pub index : ℕ
  pub there : index < block_count (length bytes)
  pub entry : IsVatIcb (data_block bytes index) (start + index)
