-- Allocation descriptors at a place in a block, and within the part of the block that they are.
use Rattle.std.proofs.Common.{◌≡◌, ℕ, ◌*◌, ◌+◌, ◌-◌, ◌<◌, ◌≤◌, Bool, cond, List, length, take, drop, sym, ap, subst, ◌∙◌, inl, inr, arith}
use Rattle.std.proofs.lemmas.Bool.{cases_lt, le-leb, lt-leb}
use Rattle.std.proofs.lemmas.List.{drop-take, take-take, drop-drop}
use Rattle.ecma.specs.Field.{IsAt}
use Rattle.icb.specs.Extents.{AreDescriptors, AreEntryDescriptors, extent_count, extent_size, listed, long_descriptor, next_descriptor, slots}

-- what is at a place, and what is there within a part
pub part_at : (at k n : ℕ) (text block : List ℕ) → k + length text ≤ n → IsAt (at + k) text block → IsAt k text (take n (drop at block))
part_at at k n text block room stands =
    let split : take n (drop at block) ≡ take (k + (n - k)) (drop at block) = ap (λ (m : ℕ). take m (drop at block)) (omega (arith, room)) in
    ap (λ (x : List ℕ). take (length text) (drop k x)) split
    ∙ ap (take (length text)) (drop-take k (n - k) (drop at block))
    ∙ take-take (length text) (n - k) (drop k (drop at block)) (omega (arith, room))
    ∙ ap (take (length text)) (drop-drop k at block)
    ∙ stands

pub whole_at : (at k n : ℕ) (text block : List ℕ) → k + length text ≤ n → IsAt k text (take n (drop at block)) → IsAt (at + k) text block
whole_at at k n text block room stands =
    let split : take n (drop at block) ≡ take (k + (n - k)) (drop at block) = ap (λ (m : ℕ). take m (drop at block)) (omega (arith, room)) in
    sym (ap (λ (x : List ℕ). take (length text) (drop k x)) split
    ∙ ap (take (length text)) (drop-take k (n - k) (drop at block))
    ∙ take-take (length text) (n - k) (drop k (drop at block)) (omega (arith, room))
    ∙ ap (take (length text)) (drop-drop k at block))
    ∙ stands

-- all extents have their descriptors in a place with room for them
pub listed_all : (room size : ℕ) → extent_count size ≤ room → listed room size ≡ extent_count size
listed_all room size few = ap (λ (b : Bool). cond b (extent_count size) (room - 1)) (le-leb (extent_count size) room few)

-- one descriptor leads on where there is no room for all
pub listed_some : (room size : ℕ) → room < extent_count size → listed room size ≡ room - 1
listed_some room size more = ap (λ (b : Bool). cond b (extent_count size) (room - 1)) (lt-leb (extent_count size) room more)

-- a descriptor of an extent is one of those in the place
pub listed_within : (room size : ℕ) → listed room size ≤ slots room size
listed_within room size = elim (cases_lt room (extent_count size)) [
  | inl more ↦ omega (arith, listed_some room size more, more)
  | inr few ↦ omega (arith, listed_all room size few, few)
]

-- the descriptors that are at a place in a block are in the part of it
pub descriptors_part : (room at size next : ℕ) (block : List ℕ) → 0 < room → AreDescriptors room at size next block → AreDescriptors room 0 size next (take (16 * slots room size) (drop at block))
descriptors_part room at size next block some are =
    let n = 16 * slots room size in
    let part : List ℕ = take n (drop at block) in
    let same : (k : ℕ) → k ≡ 0 + k = λ k. omega arith in
    record {
      extents = λ k lt.
          let e = are.extents k lt in
          let text : List ℕ = long_descriptor (extent_size size k) e.0 in
          (e.0, e.1, subst (λ (m : ℕ). IsAt m text part) (same (16 * k)) (part_at at (16 * k) n text block (omega (arith, lt, listed_within room size)) e.2));
      leads = λ more. subst (λ (m : ℕ). IsAt m (next_descriptor next) part) (same (16 * (room - 1)))
          (part_at at (16 * (room - 1)) n (next_descriptor next) block (omega (arith, some, more)) (are.leads more));
    }

-- and back
pub descriptors_whole : (room at size next : ℕ) (block : List ℕ) → 0 < room → AreDescriptors room 0 size next (take (16 * slots room size) (drop at block)) → AreDescriptors room at size next block
descriptors_whole room at size next block some are =
    let n = 16 * slots room size in
    let part : List ℕ = take n (drop at block) in
    let same : (k : ℕ) → 0 + k ≡ k = λ k. omega arith in
    record {
      extents = λ k lt.
          let e = are.extents k lt in
          let text : List ℕ = long_descriptor (extent_size size k) e.0 in
          (e.0, e.1, whole_at at (16 * k) n text block (omega (arith, lt, listed_within room size)) (subst (λ (m : ℕ). IsAt m text part) (same (16 * k)) e.2));
      leads = λ more. whole_at at (16 * (room - 1)) n (next_descriptor next) block (omega (arith, some, more))
          (subst (λ (m : ℕ). IsAt m (next_descriptor next) part) (same (16 * (room - 1))) (are.leads more));
    }

-- those of an entry
pub entry_part : (size : ℕ) (block : List ℕ) → AreEntryDescriptors 176 size block → AreEntryDescriptors 0 size (take (16 * slots 117 size) (drop 176 block))
entry_part size block are = (are.0, are.1, descriptors_part 117 176 size are.0 block (omega arith) are.2)

pub entry_whole : (size : ℕ) (block : List ℕ) → AreEntryDescriptors 0 size (take (16 * slots 117 size) (drop 176 block)) → AreEntryDescriptors 176 size block
entry_whole size block are = (are.0, are.1, descriptors_whole 117 176 size are.0 block (omega arith) are.2)
