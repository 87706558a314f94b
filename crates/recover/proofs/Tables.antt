-- What the readers of a table give, for the reader of a medium.
use Rattle.std.proofs.Common.{◌≡◌, ℕ, ◌+◌, ◌-◌, ◌≤◌, ◌<◌, ◌⊎◌, inl, inr, List, length, Option, Some, None, refl, sym, ap, subst, ◌∙◌, arith, Bor}
use Rattle.std.specs.Prelude.{IfSome, slice_get}
use Rattle.std.proofs.lemmas.Bool.{cases_lt}
use Rattle.std.proofs.lemmas.Option.{same_Some, slice_get_within}
use Rattle.limits.specs.declared.TheConstants.{PARTITION_START}
use Rattle.ecma.specs.FirstFault.{IsFirst, AllHold}
use Rattle.icb.specs.declared.entry.FileEntry.{FileEntry}
use Rattle.icb.specs.declared.entry.Kind.{Kind}
use Rattle.icb.specs.declared.entry.Kind.TheVariants as kinds
use Rattle.icb.specs.declared.entry.Place as source
use Rattle.icb.specs.declared.entry.Place.TheVariants as source_places
use Rattle.icb.specs.Entry.{Fields, FitsPlace, IsEntry, Place, fields_of, place_of}
use Rattle.icb.specs.Entry.Place.{Extent}
use Rattle.icb.specs.VatIcb.{IsVatIcb}
use Rattle.vat.specs.declared.fault.VatFault.{VatFault}
use Rattle.vat.specs.declared.fault.VatFault.TheVariants as vat_faults
use Rattle.vat.specs.Rules.{table_rules, number_of_fault}
use Rattle.vat.specs.Table.{Table, IsTableAt}
use Rattle.recover.specs.declared.fault.StoreFault.TheVariants.{Damaged}
use Rattle.recover.specs.declared.table.TableEntry.{TableEntry}
use Rattle.recover.specs.Tables.{HasDataBelow, HasVatIcb, HasNoneFrom, HasTableAt, IsEntryAt, IsEntryRefused, IsTableRefused, table_data_of}

-- a number below that of a VAT ICB lies below the entry's address
pub below_entry : (previous : Option ℕ) (at : ℕ) → PARTITION_START ≤ at → IfSome previous (λ p. p < at - PARTITION_START) → IfSome previous (λ p. p + PARTITION_START < at)
below_entry None at low h = tt
below_entry (Some p) at low h = omega arith

-- after the last block there is no entry
pub none_after : (M : List (List ℕ)) (n : ℕ) → length M ≤ n → HasNoneFrom M n
none_after M n long at from h = let within : at < length M = slice_get_within M at h.block h.there in omega arith

pub none_above : (M : List (List ℕ)) (n m : ℕ) → n ≤ m → HasNoneFrom M n → HasNoneFrom M m
none_above M n m le none at from h = none at (omega arith) h

none_here : (M : List (List ℕ)) (at : ℕ) (block : List ℕ) → slice_get M at ≡ Some block → (IsVatIcb block (at - PARTITION_START) → ⊥) → HasVatIcb M at → ⊥
none_here M at block there never h = never (subst (λ (b : List ℕ). IsVatIcb b (at - PARTITION_START)) (same_Some h.block block (sym h.there ∙ there)) h.is)

-- a block that is no entry, before those after it
pub none_more : (M : List (List ℕ)) (at : ℕ) (block : List ℕ) → slice_get M at ≡ Some block → (IsVatIcb block (at - PARTITION_START) → ⊥) → HasNoneFrom M (at + 1) → HasNoneFrom M at
none_more M at block there never none other from h =
    elim (cases_lt at other) [
      | inl lt ↦ none other (omega arith) h
      | inr le ↦ none_here M at block there never (subst (HasVatIcb M) (let same : other ≡ at = omega arith in same) h)
    ]

pub fields_are : (k : Kind) (m l u s : ℕ) (p : Place) (first : ℕ) → k ≡ kinds.Vat → l ≡ 0 → u ≡ 0 → p ≡ Extent first
    → ◌≡◌ {A = Fields} (record { kind = k; moment = m; links = l; unique = u; size = s; place = p }) (record { kind = kinds.Vat; moment = m; links = 0; unique = 0; size = s; place = Extent first })
fields_are k m l u s p first a b c d = cc

-- the entry that was read
pub is_entry_at : (M : List (List ℕ)) (at : ℕ) (block : List ℕ) (e : FileEntry) (first : ℕ) → slice_get M at ≡ Some block → IsEntry (fields_of e) (at - PARTITION_START) block
    → e.kind ≡ kinds.Vat → place_of e.place ≡ Extent first → IsEntryAt M at (record { moment = e.moment; first = first; size = e.size })
is_entry_at M at block e first there is kind place =
    let none = is.fits.vat kind in
    record {
      block = block;
      there = there;
      is = subst (λ (f : Fields). IsEntry f (at - PARTITION_START) block) (fields_are e.kind e.moment e.links e.unique e.size (place_of e.place) first kind none.0 none.1 place) is;
    }

-- a block that is no entry at all
pub no_entry : (M : List (List ℕ)) (at : ℕ) (block : List ℕ) → slice_get M at ≡ Some block → ((f : Fields) → IsEntry f (at - PARTITION_START) block → ⊥) → IsEntryRefused M at (Damaged at 78)
no_entry M at block there never = (refl, inl (refl, none_here M at block there (λ v. never v.fields v.entry)))

-- the entry of a node
pub other_entry : (M : List (List ℕ)) (at : ℕ) (block : List ℕ) (e : FileEntry) → slice_get M at ≡ Some block → ((f : Fields) → IsEntry f (at - PARTITION_START) block → fields_of e ≡ f)
    → (e.kind ≡ kinds.Vat → ⊥) → IsEntryRefused M at (Damaged at 78)
other_entry M at block e there only never =
    (refl, inl (refl, none_here M at block there (λ v. never (ap (λ (f : Fields). f.kind) (only v.fields v.entry) ∙ v.kind))))

-- an entry whose data do not lie below it
pub far_entry : (M : List (List ℕ)) (at : ℕ) (e : TableEntry) → IsEntryAt M at e → (HasDataBelow at e → ⊥) → IsEntryRefused M at (Damaged at 72)
far_entry M at e is far = (refl, inr (refl, e, is, far))

-- the decoder's first fault
pub table_refused : (icb : ℕ) (e : TableEntry) (bytes stored : List ℕ) (fault : VatFault) (cause : ℕ) → bytes ≡ stored → cause ≡ number_of_fault fault → (fault ≡ vat_faults.Memory → ⊥)
    → (IsFirst (table_rules icb bytes) fault ⊎ ((fault ≡ vat_faults.Memory) × AllHold (table_rules icb bytes))) → IsTableRefused icb e stored (Damaged (e.first + PARTITION_START) cause)
table_refused icb e bytes stored fault cause same number never told =
    let first : IsFirst (table_rules icb bytes) fault = elim told [ inl first ↦ first | inr memory ↦ absurd (never memory.0) ] in
    (refl, fault, number, subst (λ (b : List ℕ). IsFirst (table_rules icb b) fault) same first)

-- a table that was read, by its entry
pub has_table : (M : List (List ℕ)) (at : ℕ) (e : TableEntry) (t : Table) (bytes : List ℕ) → IsEntryAt M at e → HasDataBelow at e → bytes ≡ table_data_of M e
    → IsTableAt (at - PARTITION_START) t bytes → HasTableAt M at t
has_table M at e t bytes is below same table = record { entry = e; is_entry = is; below = below; is = subst (IsTableAt (at - PARTITION_START) t) same table }

-- bytes that are nowhere, in several extents or inside an entry are a file's
pub nowhere_is_file : (kind : Kind) (size : ℕ) (place : source.Place) → FitsPlace kind size (place_of place) → place ≡ source_places.None → kind ≡ kinds.Vat → ⊥
nowhere_is_file kind size place fits is vat =
    let f = subst (λ (p : source.Place). FitsPlace kind size (place_of p)) is fits in let file = f.0 in cc

pub extents_are_file : (kind : Kind) (size : ℕ) (place : source.Place) (descriptors : Bor (List ℕ)) → FitsPlace kind size (place_of place) → place ≡ source_places.Extents descriptors → kind ≡ kinds.Vat → ⊥
extents_are_file kind size place descriptors fits is vat =
    let f = subst (λ (p : source.Place). FitsPlace kind size (place_of p)) is fits in let file = f.0 in cc

pub inside_is_file : (kind : Kind) (size : ℕ) (place : source.Place) (bytes : Bor (List ℕ)) → FitsPlace kind size (place_of place) → place ≡ source_places.Inside bytes → kind ≡ kinds.Vat → ⊥
inside_is_file kind size place bytes fits is vat =
    let f = subst (λ (p : source.Place). FitsPlace kind size (place_of p)) is fits in let file = f.0 in cc
