-- The tables that are read are those that a medium has.
use Rattle.std.proofs.Common.{◌≡◌, ℕ, ◌-◌, ◌≤◌, inl, inr, List, take, Some, sym, ap, subst, ◌∙◌, arith}
use Rattle.std.specs.Prelude.{slice_get}
use Rattle.std.proofs.lemmas.Option.{same_Some, slice_get_within}
use Rattle.limits.specs.declared.TheConstants.{PARTITION_START}
use Rattle.icb.specs.Entry.{Fields as IcbFields, IsEntry}
use Rattle.durability.specs.Formats.{Table_}
use Rattle.durability.specs.Volume as volumes
use Rattle.durability.proofs.One.{table_one}
use Rattle.udf.specs.Said.{model_table}
use Rattle.udf.specs.Udf.{udf}
use Rattle.udf.specs.Words.{icb_fields, icb_kind_of, icb_place, table_of}
use Rattle.udf.proofs.Formats.{exact}
use Rattle.udf.proofs.Said.{tables_agree}
use Rattle.vat.specs.Table.{Table}
use Rattle.recover.specs.declared.fault.StoreFault.TheVariants.{Damaged}
use Rattle.recover.specs.declared.table.TableEntry.{TableEntry}
use Rattle.recover.specs.Tables.{HasTableAt, IsAtRefused, IsEntryAt, table_data_of, table_fields}
use Rattle.recover.proofs.Refusals.{data_below, entry_is_read, table_is_read, told_table}
use Rattle.recover.proofs.States.{has_table}
use Rattle.recover.proofs.Tables.{fields_are}

module _ (M : List (List ℕ)) (at : ℕ) where
  -- a block at this address is a VAT ICB, on the blocks below it
  pub record IsTableTold (table : Table_) : Type 0 where
    pub block : List ℕ
    pub moment : ℕ
    pub low : PARTITION_START ≤ at
    pub there : slice_get M at ≡ Some block
    pub has : volumes.HasTable udf (take at M) at block table moment

  pub told : (t : Table) → HasTableAt M at t → IsTableTold (model_table t)
  told t h =
      let within = slice_get_within M at h.is_entry.block h.is_entry.there in
      let below = h.below in
      record {
        block = h.is_entry.block;
        moment = h.entry.moment;
        low = omega (arith, below);
        there = h.is_entry.there;
        has = has_table M at h.entry h.is_entry t (omega (arith, within)) below h.is;
      }

  -- what is reported was read
  pub read : (table : Table_) → IsTableTold table → (t : Table) × HasTableAt M at t × (model_table t ≡ table)
  read table is =
      let h = is.has in
      let e : TableEntry = record { moment = h.fields.moment; first = h.first; size = h.fields.size } in
      let none = h.entry.fits.vat (ap icb_kind_of h.kind) in
      let same : icb_fields h.fields ≡ table_fields e =
      fields_are (icb_kind_of h.fields.kind) h.fields.moment h.fields.links h.fields.identity h.fields.size (icb_place h.fields.place) h.first (ap icb_kind_of h.kind) none.0 none.1 (ap icb_place h.place) in
      let entry : IsEntryAt M at e = record { block = is.block; there = is.there; is = subst (λ (f : IcbFields). IsEntry f (at - PARTITION_START) is.block) same h.entry } in
      let within = slice_get_within M at is.block is.there in
      let bytes = told_table M at is.low within e entry is.block table is.moment is.there h in
      let t : Table = table_of bytes.0 table in (
        t,
        record { entry = e; is_entry = entry; below = data_below M at is.low within e entry is.block table is.moment is.there h; is = bytes.1 },
        exact.table (at - PARTITION_START) (table_data_of M e) (model_table t) table (tables_agree t (at - PARTITION_START) (table_data_of M e) bytes.1) bytes,
      )

  -- one table is described
  pub one_told : (s t : Table_) → IsTableTold s → IsTableTold t → s ≡ t
  one_told s t a b =
      let same : b.block ≡ a.block = same_Some b.block a.block (sym b.there ∙ a.there) in
      (table_one udf exact (take at M) at a.block s t a.moment b.moment a.has (subst (λ (x : List ℕ). volumes.HasTable udf (take at M) at x t b.moment) same b.has)).0

  -- and one read
  pub one_read : (t u : Table) → HasTableAt M at t → HasTableAt M at u → model_table t ≡ model_table u
  one_read t u h k = one_told (model_table t) (model_table u) (told t h) (told u k)

  -- a table that is there is not refused
  pub is_read : (t : Table) → HasTableAt M at t → (b c : ℕ) → IsAtRefused M at (Damaged b c) → ⊥
  is_read t h b c refused =
      let is = told t h in
      let within = slice_get_within M at is.block is.there in
      elim refused [
        | inl entry ↦ entry_is_read M at is.low within is.block (model_table t) is.moment is.there is.has b c entry
        | inr table ↦ table_is_read M at is.low within is.block (model_table t) is.moment is.there is.has table.0 table.1 b c table.3
      ]
