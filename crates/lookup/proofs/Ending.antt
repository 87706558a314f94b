-- Where a file ends, by what its entry says.
use Rattle.std.proofs.Common.{◌≡◌, ℕ, zero, suc, ◌+◌, ◌*◌, ◌%◌, ◌<◌, ◌≤◌, ◌^◌, List, [], ◌∷◌, length, take, append-nil, refl, sym, ap, subst, ◌∙◌, arith}
use Rattle.std.specs.Prelude.{min}
use Rattle.std.proofs.Math.Nat.{min-eq_left}
use Rattle.limits.specs.declared.TheConstants.{ENTRY_DESCRIPTORS, FILE_BYTES, GREATEST_FILE, PARTITION_BLOCKS, PARTITION_START}
use Rattle.ecma.specs.Blocks.{block_count}
use Rattle.drive.specs.Journal.{Event, held}
use Rattle.icb.specs.declared.entry.FileEntry.{FileEntry}
use Rattle.icb.specs.declared.entry.Kind.{Kind}
use Rattle.icb.specs.declared.entry.Place as source
use Rattle.icb.specs.declared.entry.Place.TheVariants as places
use Rattle.icb.specs.Entry as icb
use Rattle.icb.specs.Entry.{allocation, flags_of}
use Rattle.icb.specs.Extents.{AreEntryDescriptors, AreExtents, IsExtent, all_descriptors, extent_count, extent_size, long_descriptor, slots}
use Rattle.icb.proofs.DescriptorParts.{listed_all}
use Rattle.icb.proofs.EntryLaws.{descriptor_first}
use Rattle.model.specs.Graph.{Stored}
use Rattle.model.specs.Graph.Body.{Bytes}
use Rattle.durability.specs.Formats.{NodeFields, NodePlace}
use Rattle.durability.specs.Plan.{firsts_of}
use Rattle.durability.specs.Volume.{AreListed, AreWithin, IsWithin, Medium, bytes_in_blocks, bytes_in_extents, descriptors_at, extent, firsts_at}
use Rattle.udf.specs.Udf.{all_firsts, udf}
use Rattle.udf.specs.Words.{icb_fields, icb_place}
use Rattle.recover.specs.Blocks.{medium_bytes_at}
use Rattle.recover.proofs.Listed.{none_listed}
use Rattle.lookup.specs.Ends.{EndsAsPlaced, EndsFile, KnowsExtents}
use Rattle.lookup.specs.Extents.{AreFull, full_size}
use Rattle.lookup.specs.declared.end.FileEnd.{FileEnd}
use Rattle.lookup.proofs.AllDescriptors.{entry_alone}
use Rattle.lookup.proofs.FileBytes.{HasBytes, extent_first, extents_firsts, stored_extent_below, stored_extents}

-- ---- extents that are full

one_is : (size first : ℕ) → 0 < size → size ≤ FILE_BYTES → first + block_count size ≤ PARTITION_BLOCKS → AreExtents 0 size (long_descriptor size first)
one_is size first some few room k lt =
    let zero_is : k ≡ 0 = omega (arith, lt, few) in
    let long : extent_size size k ≡ size = omega (arith, zero_is, few) in
    subst (λ (j : ℕ). IsExtent (0 + 16 * j) (extent_size size k) (long_descriptor size first)) (sym zero_is)
    (subst (λ (n : ℕ). IsExtent 0 n (long_descriptor size first)) (sym long) (first, room, refl))

-- the entry has room for the descriptor of one
one_listed : (size first : ℕ) → 0 < size → size ≤ FILE_BYTES → first + block_count size ≤ PARTITION_BLOCKS → AreEntryDescriptors 0 size (long_descriptor size first)
one_listed size first some few room = (
  0,
  omega (arith, few),
  record {
    extents = λ k lt. one_is size first some few room k (omega (arith, lt, listed_all ENTRY_DESCRIPTORS size (omega (arith, few))));
    leads = λ more. absurd (omega (arith, few, more));
  },
)

-- an entry whose bytes fill extents has their descriptors
pub full_place : (kind : Kind) (size : ℕ) (place : icb.Place) → icb.FitsPlace kind size place → 0 < size → size % FILE_BYTES ≡ 0
    → (flags_of place ≡ 1) × (length (allocation size place) ≡ 16 * slots ENTRY_DESCRIPTORS size) × AreEntryDescriptors 0 size (allocation size place)
full_place kind size icb.Place.Nowhere fits some filled = absurd (omega (arith, fits.1, some))
full_place kind size (icb.Place.Extent first) fits some filled = (refl, omega (arith, fits.0, fits.1), one_listed size first fits.0 fits.1 fits.2)
full_place kind size (icb.Place.Extents descriptors) fits some filled = (refl, fits.2, fits.3)
full_place kind size (icb.Place.Inside bytes) fits some filled = absurd (omega (arith, fits.1, fits.2, filled))

-- ---- the bytes in them

-- one extent has no descriptor block
one_there : (M : Medium) (size : ℕ) (d : List ℕ) → size ≤ FILE_BYTES → AreListed udf M size d
one_there M size d few = none_listed M size d (omega (arith, few))

firsts_one : (M : Medium) (size first : ℕ) → size ≤ FILE_BYTES → first < 2 ^ 32 → firsts_at udf M size (long_descriptor size first) ≡ first ∷ []
firsts_one M size first few fits =
    let d = long_descriptor size first in
    ap all_firsts (sym (entry_alone M size d (omega (arith, few)))) ∙ ap (λ (n : ℕ). n ∷ []) (descriptor_first 0 size first d fits refl)

one_within : (M : Medium) (size first : ℕ) → 0 < size → size ≤ FILE_BYTES → IsWithin M first size → AreWithin M size (first ∷ []) × (bytes_in_extents M size (first ∷ []) ≡ medium_bytes_at M (first + PARTITION_START) size)
one_within M size first some few within =
    let all : min size FILE_BYTES ≡ size = min-eq_left few in (
      (some, subst (λ (n : ℕ). IsWithin M first n) (sym all) within, omega (arith, few)),
      append-nil (bytes_in_blocks (min size FILE_BYTES) (extent M first (min size FILE_BYTES))) ∙ ap (λ (n : ℕ). bytes_in_blocks n (extent M first n)) all,
    )

module _ (at : ℕ) (J : List Event) (s : Stored) (fields : NodeFields) (read : FileEntry) (h : HasBytes (take at (held J)) s fields) (same : icb.fields_of read ≡ icb_fields fields) where
  -- where the bytes of a file are that fill extents
  pub stored_full : (kind : Kind) (p : source.Place) → read.place ≡ p → icb.FitsPlace kind read.size (icb.place_of p) → 0 < read.size → read.size % FILE_BYTES ≡ 0
      → AreListed udf (take at (held J)) read.size (allocation read.size (icb.place_of p))
      × AreWithin (take at (held J)) read.size (firsts_at udf (take at (held J)) read.size (allocation read.size (icb.place_of p)))
      × (s.body ≡ Bytes (bytes_in_extents (take at (held J)) read.size (firsts_at udf (take at (held J)) read.size (allocation read.size (icb.place_of p)))))
  stored_full kind places.None is fits some filled = absurd (omega (arith, fits.1, some))
  stored_full kind (places.Extent first) is fits some filled =
      let M = take at (held J) in
      let there = stored_extent_below at J s fields read h same first is in
      let one = one_within M read.size first fits.0 fits.1 there.0 in
      let firsts = sym (firsts_one M read.size first fits.1 (omega (arith, fits.2))) in (
        one_there M read.size (long_descriptor read.size first) fits.1,
        subst (λ (ns : List ℕ). AreWithin M read.size ns) firsts one.0,
        there.1 ∙ ap Bytes (sym one.1 ∙ ap (λ (ns : List ℕ). bytes_in_extents M read.size ns) firsts),
      )
  stored_full kind (places.Extents descriptors) is fits some filled = stored_extents at J s fields read h same descriptors is
  stored_full kind (places.Inside inside) is fits some filled = absurd (omega (arith, fits.1, fits.2, filled))

bytes_same : (x y : List ℕ) → Bytes x ≡ Bytes y → x ≡ y
bytes_same x y e = cc

-- ---- the end

pub ends_unfilled : (M : Medium) (whole : List ℕ) (end : FileEnd) (size : ℕ) → end.size ≡ size → size ≡ length whole → ((0 < size) × (size % FILE_BYTES ≡ 0) → ⊥) → end.extents ≡ [] → EndsFile M whole end
ends_unfilled M whole end size is long unfilled none = record {
  size = is ∙ long;
  within = λ filled.
      let zero_size = empty filled in
      subst (λ (n : ℕ). AreWithin M n (all_firsts end.extents)) (sym zero_size) (subst (λ (xs : List ℕ). AreWithin M 0 (all_firsts xs)) (sym none) refl);
  bytes = λ filled.
      let zero_size = empty filled in
      let short : length whole ≡ 0 = sym long ∙ (sym is ∙ zero_size) in
      nothing whole short ∙ sym (ap (λ (xs : List ℕ). bytes_in_extents M end.size (all_firsts xs)) none);
}
  where
    empty : end.size % FILE_BYTES ≡ 0 → end.size ≡ 0
    empty filled = go end.size refl
      where
        go : (n : ℕ) → end.size ≡ n → end.size ≡ 0
        go zero e = e
        go (suc n) e = absurd (unfilled (omega (arith, is, e), subst (λ (m : ℕ). m % FILE_BYTES ≡ 0) is filled))

    nothing : (xs : List ℕ) → length xs ≡ 0 → xs ≡ []
    nothing [] e = refl
    nothing (x ∷ xs) e = absurd (omega (arith, e))

pub ends_filled : (M : Medium) (s : Stored) (whole d : List ℕ) (end : FileEnd) (size : ℕ) → end.size ≡ size → end.extents ≡ d → size ≡ length whole → s.body ≡ Bytes whole
    → AreWithin M size (all_firsts d) × (s.body ≡ Bytes (bytes_in_extents M size (all_firsts d))) → EndsFile M whole end
ends_filled M s whole d end size is extents long body stored = record {
  size = is ∙ long;
  within = λ filled. subst (λ (n : ℕ). AreWithin M n (all_firsts end.extents)) (sym is) (subst (λ (xs : List ℕ). AreWithin M size (all_firsts xs)) (sym extents) stored.0);
  bytes = λ filled. bytes_same whole (bytes_in_extents M size (all_firsts d)) (sym body ∙ stored.1) ∙ (λ i. bytes_in_extents M (sym is i) (all_firsts (sym extents i)));
}

-- the extents that were read, by all descriptors
pub firsts_read : (M seen : Medium) (size : ℕ) (d said all : List ℕ) → seen ≡ M → d ≡ said → all ≡ all_descriptors d (descriptors_at udf seen size d) → all_firsts all ≡ firsts_at udf M size said
firsts_read M seen size d said all same is read = ap all_firsts read ∙ (λ i. firsts_at udf (same i) size (is i))

-- where an entry says that bytes are which fill extents
placed_firsts : (M : Medium) (kind : Kind) (size : ℕ) (p : icb.Place) (place : NodePlace) → icb.FitsPlace kind size p → 0 < size → size % FILE_BYTES ≡ 0 → p ≡ icb_place place → firsts_at udf M size (allocation size p) ≡ firsts_of udf M size place
placed_firsts M kind size icb.Place.Nowhere place fits some filled e = absurd (omega (arith, fits.1, some))
placed_firsts M kind size (icb.Place.Extent first) place fits some filled e = firsts_one M size first fits.1 (omega (arith, fits.2)) ∙ extent_first M size place first e
placed_firsts M kind size (icb.Place.Extents descriptors) place fits some filled e = extents_firsts M size place descriptors e
placed_firsts M kind size (icb.Place.Inside bytes) place fits some filled e = absurd (omega (arith, fits.1, fits.2, filled))

pub placed_filled : (M : Medium) (fields : NodeFields) (read : FileEntry) (end : FileEnd) → icb.fields_of read ≡ icb_fields fields → icb.FitsPlace read.kind read.size (icb.place_of read.place) → end.size ≡ read.size
    → all_firsts end.extents ≡ firsts_at udf M read.size (allocation read.size (icb.place_of read.place)) → EndsAsPlaced M fields end
placed_filled M fields read end same fits is firsts = record {
  size = is ∙ ap (λ (f : icb.Fields). f.size) same;
  firsts = λ some filled.
      firsts
      ∙ placed_firsts M read.kind read.size (icb.place_of read.place) fields.place fits (omega (arith, is, some)) (subst (λ (n : ℕ). n % FILE_BYTES ≡ 0) is filled) (ap (λ (f : icb.Fields). f.place) same)
      ∙ ap (λ (n : ℕ). firsts_of udf M n fields.place) (ap (λ (f : icb.Fields). f.size) same);
}

pub placed_unfilled : (M : Medium) (fields : NodeFields) (read : FileEntry) (end : FileEnd) → icb.fields_of read ≡ icb_fields fields → end.size ≡ read.size → ((0 < read.size) × (read.size % FILE_BYTES ≡ 0) → ⊥) → EndsAsPlaced M fields end
placed_unfilled M fields read end same is unfilled = record {
  size = is ∙ ap (λ (f : icb.Fields). f.size) same;
  firsts = λ some filled. absurd (unfilled (omega (arith, is, some), subst (λ (n : ℕ). n % FILE_BYTES ≡ 0) is filled));
}

pub knows_unfilled : (end : FileEnd) (size : ℕ) → end.size ≡ size → size ≤ GREATEST_FILE → ((0 < size) × (size % FILE_BYTES ≡ 0) → ⊥) → end.extents ≡ [] → KnowsExtents end
knows_unfilled end size is limit unfilled none = record {
  limit = omega (arith, is, limit);
  full = λ filled. go size refl is filled;
}
  where
    go : (n : ℕ) → size ≡ n → end.size ≡ size → end.size % FILE_BYTES ≡ 0 → full_size end.extents ≡ end.size
    go zero e is filled = ap full_size none ∙ sym (is ∙ e)
    go (suc n) e is filled = absurd (unfilled (omega (arith, e), subst (λ (m : ℕ). m % FILE_BYTES ≡ 0) is filled))

pub knows_filled : (end : FileEnd) (size : ℕ) (d : List ℕ) → end.size ≡ size → end.extents ≡ d → size ≤ GREATEST_FILE → size % FILE_BYTES ≡ 0 → length d ≡ 16 * extent_count size → KnowsExtents end
knows_filled end size d is extents limit filled long = record {
  limit = omega (arith, is, limit);
  full = λ _. ap full_size extents ∙ (let e : full_size d ≡ size = omega (arith, filled, long) in e) ∙ sym is;
}

-- the extents of bytes that fill them are full
pub are_full : (size : ℕ) (d copy : List ℕ) → copy ≡ d → size ≤ GREATEST_FILE → size % FILE_BYTES ≡ 0 → length d ≡ 16 * extent_count size → AreExtents 0 size d → AreFull copy
are_full size d copy same limit filled long are =
    let full : size ≡ full_size d = omega (arith, filled, long) in
    subst AreFull (sym same) (record { long = omega (arith, long); few = omega (arith, long, limit); are = subst (λ (n : ℕ). AreExtents 0 n d) full are })
