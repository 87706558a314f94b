-- Of several extents: what holds of each holds of the one that ends last, and where that one ends all do.
use Rattle.std.proofs.Common.{◌≡◌, ℕ, zero, suc, ◌+◌, ◌-◌, ◌*◌, ◌<◌, ◌≤◌, nat_lt, nat_eq, min, Bool, true, false, cond, List, [], ◌∷◌, drop, length, Option, Some, None, refl, sym, ap, ◌∙◌, subst, arith}
use Rattle.std.specs.Prelude.{IfSome}
use Rattle.std.specs.Int.{div_ceil}
use Rattle.std.proofs.lemmas.Bool.{eqb-true, eqb-false, ltb-true, ltb-false, lt-ltb, le-ltb}
use Rattle.limits.specs.declared.TheConstants.{BLOCK_BYTES, FILE_BYTES, PARTITION_BLOCKS, PARTITION_START}
use Rattle.ecma.specs.Blocks.{block_count}
use Rattle.ecma.specs.Numbers.{u32_at}
use Rattle.icb.specs.Extents.{IsExtent, extent_count, extent_size, next_number}
use Rattle.icb.proofs.EntryLaws.{descriptor_first}
use Rattle.durability.specs.Volume.{AreWithin, descriptor_blocks}
use Rattle.udf.specs.Udf.{firsts_in}
use Rattle.udf.proofs.Extents.{firsts_from, u32_past}
use Rattle.recover.specs.declared.directory.Extent.{Extent}
use Rattle.recover.specs.Walk.{LiesBelow, blocks_extent, end_of, last_of, later_of}

abbrev pub extent_at : ℕ → ℕ → Extent
extent_at first size = record { first = first; size = size }

-- it is not empty, and begins within the largest partition
abbrev pub FitsExtent : Extent → Type 0
FitsExtent e = (0 < e.size) × (e.first ≤ PARTITION_BLOCKS)

abbrev pub EndsBelow : ℕ → Extent → Type 0
EndsBelow at e = e.first + PARTITION_START + div_ceil e.size BLOCK_BYTES ≤ at

pub ends_below : (at : ℕ) (o : Option Extent) → IfSome o (LiesBelow at) → IfSome o (EndsBelow at)
ends_below at None below = tt
ends_below at (Some e) below = below.below

-- each of the extents of so many bytes
abbrev pub AllExtents : (Extent → Type 0) → ℕ → List ℕ → Type 0
AllExtents P size [] = Unit {0}
AllExtents P size (first ∷ firsts) = P (extent_at first (min size FILE_BYTES)) × AllExtents P (size - FILE_BYTES) firsts

-- the one that ends last stays if the other ends no later
pub later_kept : (last e : Extent) → end_of e ≤ end_of last → later_of (Some last) e ≡ last
later_kept last e le = ap (λ (b : Bool). cond b e last) (le-ltb (end_of last) (end_of e) le)

pub later_new : (last e : Extent) → end_of last < end_of e → later_of (Some last) e ≡ e
later_new last e lt = ap (λ (b : Bool). cond b e last) (lt-ltb (end_of last) (end_of e) lt)

module _ (P : Extent → Type 0) where
  of_two : (b : Bool) (x y : Extent) → P x → P y → P (cond b x y)
  of_two true x y p q = p
  of_two false x y p q = q

  later_keeps : (last : Option Extent) (e : Extent) → IfSome last P → P e → P (later_of last e)
  later_keeps None e p q = q
  later_keeps (Some last) e p q = of_two (nat_lt (end_of last) (end_of e)) e last q p

  pub last_keeps : (last : Option Extent) (size : ℕ) (firsts : List ℕ) → IfSome last P → AllExtents P size firsts → IfSome (last_of last size firsts) P
  last_keeps last size [] p all = p
  last_keeps last size (first ∷ firsts) p all =
      last_keeps (Some (later_of last (extent_at first (min size FILE_BYTES)))) (size - FILE_BYTES) firsts (later_keeps last (extent_at first (min size FILE_BYTES)) p all.0) all.1

  -- one after the other
  pub all_extents : (n size : ℕ) (descriptors : List ℕ) → ((k : ℕ) → k < n → P (extent_at (u32_at (16 * k + 4) descriptors) (extent_size size k))) → AllExtents P size (firsts_in n descriptors)
  all_extents zero size descriptors all = tt
  all_extents (suc n) size descriptors all = (
    subst (λ (m : ℕ). P (extent_at (u32_at 4 descriptors) (min m FILE_BYTES))) (let e : size - FILE_BYTES * 0 ≡ size = omega arith in e) (all 0 (omega arith)),
    all_extents n (size - FILE_BYTES) (drop 16 descriptors) (λ k lt.
        let same : u32_at (16 * (k + 1) + 4) descriptors ≡ u32_at (16 * k + 4) (drop 16 descriptors) =
        ap (λ (i : ℕ). u32_at i descriptors) (let e : 16 * (k + 1) + 4 ≡ 16 + (16 * k + 4) = omega arith in e) ∙ sym (u32_past 16 (16 * k + 4) descriptors) in
        let left : size - FILE_BYTES * (k + 1) ≡ size - FILE_BYTES - FILE_BYTES * k = omega arith in
        subst (λ (first : ℕ). P (extent_at first (extent_size (size - FILE_BYTES) k))) same
        (subst (λ (m : ℕ). P (extent_at (u32_at (16 * (k + 1) + 4) descriptors) (min m FILE_BYTES))) left (all (k + 1) (omega (arith, lt))))),
  )

-- with one extent more, and with none
pub last_more : (last : Option Extent) (size count k : ℕ) (descriptors : List ℕ) → k < count
    → last_of last (size - FILE_BYTES * k) (firsts_in (count - k) (drop (16 * k) descriptors))
    ≡ last_of (Some (later_of last (extent_at (u32_at (16 * k + 4) descriptors) (extent_size size k)))) (size - FILE_BYTES * (k + 1)) (firsts_in (count - (k + 1)) (drop (16 * (k + 1)) descriptors))
last_more last size count k descriptors lt =
    let rest = firsts_in (count - (k + 1)) (drop (16 * (k + 1)) descriptors) in
    let left : size - FILE_BYTES * k - FILE_BYTES ≡ size - FILE_BYTES * (k + 1) = omega arith in
    ap (λ (firsts : List ℕ). last_of last (size - FILE_BYTES * k) firsts) (firsts_from count k descriptors lt)
    ∙ ap (λ (m : ℕ). last_of (Some (later_of last (extent_at (u32_at (16 * k + 4) descriptors) (extent_size size k)))) m rest) left

pub last_none : (last : Option Extent) (size count k : ℕ) (descriptors : List ℕ) → count ≤ k → last_of last size (firsts_in (count - k) (drop (16 * k) descriptors)) ≡ last
last_none last size count k descriptors le = ap (λ (n : ℕ). last_of last size (firsts_in n (drop (16 * k) descriptors))) (let e : count - k ≡ 0 = omega (arith, le) in e)

-- the extent of a descriptor ends in the partition
extent_ends : (size k : ℕ) (descriptors : List ℕ) → IsExtent (0 + 16 * k) size descriptors → u32_at (16 * k + 4) descriptors + block_count size ≤ PARTITION_BLOCKS
extent_ends size k descriptors (first, within, stands) =
    let is : u32_at (16 * k + 4) descriptors ≡ first =
    ap (λ (at : ℕ). u32_at (at + 4) descriptors) (let e : 16 * k ≡ 0 + 16 * k = omega arith in e) ∙ descriptor_first (0 + 16 * k) size first descriptors (omega (arith, within)) stands in
    omega (arith, is, within)

-- the first of the extents of so many bytes
pub first_extents_fit : (n size : ℕ) (descriptors : List ℕ) → n ≤ extent_count size → ((k : ℕ) → k < n → IsExtent (0 + 16 * k) (extent_size size k) descriptors) → AllExtents FitsExtent size (firsts_in n descriptors)
first_extents_fit n size descriptors few all =
    all_extents FitsExtent n size descriptors (λ k lt.
    let ends = extent_ends (extent_size size k) k descriptors (all k lt) in
    (omega (arith, lt, few), omega (arith, ends)))

-- what holds of the extent of the descriptor blocks, if there are some
module _ (P : Extent → Type 0) (size : ℕ) (descriptors : List ℕ) where
  abbrev the_blocks : Extent
  the_blocks = extent_at (next_number descriptors) (BLOCK_BYTES * descriptor_blocks size)

  hold_by : (b : Bool) → nat_eq (descriptor_blocks size) 0 ≡ b → (0 < descriptor_blocks size → P the_blocks) → IfSome (cond b None (Some the_blocks)) P
  hold_by true none p = tt
  hold_by false some p = let ne = eqb-false (descriptor_blocks size) 0 some in p (omega (arith, ne))

  pub blocks_hold : (0 < descriptor_blocks size → P the_blocks) → IfSome (blocks_extent size descriptors) P
  blocks_hold p = hold_by (nat_eq (descriptor_blocks size) 0) refl p

  said_by : (b : Bool) → nat_eq (descriptor_blocks size) 0 ≡ b → IfSome (cond b None (Some the_blocks)) P → 0 < descriptor_blocks size → P the_blocks
  said_by true none p some = absurd (let e = eqb-true (descriptor_blocks size) 0 none in omega (arith, e, some))
  said_by false is p some = p

  pub blocks_said : IfSome (blocks_extent size descriptors) P → 0 < descriptor_blocks size → P the_blocks
  blocks_said p = said_by (nat_eq (descriptor_blocks size) 0) refl p

module _ (at : ℕ) where
  of_later : (b : Bool) (last e : Extent) → nat_lt (end_of last) (end_of e) ≡ b → EndsBelow at (cond b e last) → EndsBelow at last × EndsBelow at e
  of_later true last e is below = (let lt = ltb-true (end_of last) (end_of e) is in omega (arith, lt, below), below)
  of_later false last e is below = (below, (let le = ltb-false (end_of last) (end_of e) is in omega (arith, le, below)))

  later_ends : (last : Option Extent) (e : Extent) → EndsBelow at (later_of last e) → IfSome last (EndsBelow at) × EndsBelow at e
  later_ends None e below = (tt, below)
  later_ends (Some last) e below = of_later (nat_lt (end_of last) (end_of e)) last e refl below

  pub last_ends : (last : Option Extent) (size : ℕ) (firsts : List ℕ) → IfSome (last_of last size firsts) (EndsBelow at) → IfSome last (EndsBelow at) × AllExtents (EndsBelow at) size firsts
  last_ends last size [] below = (below, tt)
  last_ends last size (first ∷ firsts) below =
      let rest = last_ends (Some (later_of last (extent_at first (min size FILE_BYTES)))) (size - FILE_BYTES) firsts below in
      let two = later_ends last (extent_at first (min size FILE_BYTES)) rest.0 in
      (two.0, (two.1, rest.1))

  module _ (M : List (List ℕ)) where
    all_within : at ≤ length M → (size : ℕ) (firsts : List ℕ) → length firsts ≡ extent_count size → AllExtents (EndsBelow at) size firsts → AreWithin M size firsts
    all_within long size [] many all = omega (arith, many)
    all_within long size (first ∷ firsts) many all =
        let below = all.0 in
        (omega (arith, many), omega (arith, below, long), all_within long (size - FILE_BYTES) firsts (omega (arith, many)) all.1)

    pub extents_within : at ≤ length M → (last : Option Extent) (size : ℕ) (firsts : List ℕ) → length firsts ≡ extent_count size → IfSome (last_of last size firsts) (EndsBelow at) → AreWithin M size firsts
    extents_within within last size firsts many below = all_within within size firsts many (last_ends last size firsts below).1

    -- and the other way round
    all_below : length M ≤ at → (size : ℕ) (firsts : List ℕ) → AreWithin M size firsts → AllExtents (EndsBelow at) size firsts
    all_below long size [] within = tt
    all_below long size (first ∷ firsts) (some, within, rest) = (omega (arith, within, long), all_below long (size - FILE_BYTES) firsts rest)

    pub extents_below : length M ≤ at → (last : Option Extent) (size : ℕ) (firsts : List ℕ) → IfSome last (EndsBelow at) → AreWithin M size firsts → IfSome (last_of last size firsts) (EndsBelow at)
    extents_below long last size firsts below within = last_keeps (EndsBelow at) last size firsts below (all_below long size firsts within)
