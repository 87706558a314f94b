-- Bytes in extents and the descriptor blocks of these stay on a medium that goes on, and those of one more extent follow them.
use Rattle.std.proofs.Common.{◌≡◌, ℕ, zero, suc, ◌+◌, ◌*◌, ◌-◌, ◌<◌, ◌≤◌, min, List, [], ◌∷◌, ◌++◌, length, take, drop, refl, sym, ap, subst, ◌∙◌, append_assoc, append-nil, length-append, length-take, length-drop, arith}
use Rattle.std.proofs.Math.Nat.{min-eq_left, min-eq_right}
use Rattle.limits.specs.declared.TheConstants.{FILE_BYTES}
use Rattle.durability.specs.Formats.{Block, Formats}
use Rattle.durability.specs.Volume.{Medium, partition_start, blocks_for, IsWithin, extent, bytes_in_blocks, AreWithin, bytes_in_extents, descriptor_blocks, descriptors_at, AreListed}
use Rattle.durability.specs.Plan.{packed}
use Rattle.durability.proofs.Lists.{part-append}
use Rattle.durability.proofs.Packed.{bytes-packed}

pub extents_stay : (medium more : Medium) (size : ℕ) (firsts : List ℕ) → AreWithin medium size firsts
    → AreWithin (medium ++ more) size firsts × (bytes_in_extents (medium ++ more) size firsts ≡ bytes_in_extents medium size firsts)
extents_stay medium more size [] all = (all, refl)
extents_stay medium more size (first ∷ firsts) all =
    let n = min size FILE_BYTES in
    let tail = extents_stay medium more (size - FILE_BYTES) firsts all.2 in
    let same : extent (medium ++ more) first n ≡ extent medium first n = part-append (first + partition_start) (blocks_for n) medium more all.1 in (
      (all.0, omega (arith, all.1, length-append medium more), tail.0),
      ap (λ (bs : List Block). bytes_in_blocks n bs ++ bytes_in_extents (medium ++ more) (size - FILE_BYTES) firsts) same
          ∙ ap (λ (xs : List ℕ). bytes_in_blocks n (extent medium first n) ++ xs) tail.1,
    )

-- one extent more, where the medium has its bytes and those before it are full
pub one_more : (M : Medium) (first : ℕ) (bytes : List ℕ) → 0 < length bytes → length bytes ≤ FILE_BYTES → IsWithin M first (length bytes) → extent M first (length bytes) ≡ packed bytes
    → (firsts : List ℕ) (size : ℕ) → size ≡ FILE_BYTES * length firsts → AreWithin M size firsts
    → AreWithin M (size + length bytes) (firsts ++ first ∷ []) × (bytes_in_extents M (size + length bytes) (firsts ++ first ∷ []) ≡ bytes_in_extents M size firsts ++ bytes)
one_more M first bytes some few within is [] size e all =
    let sum : size + length bytes ≡ length bytes = omega (arith, e) in
    let n : min (size + length bytes) FILE_BYTES ≡ length bytes = ap (λ (m : ℕ). min m FILE_BYTES) sum ∙ min-eq_left few in (
      (omega (arith, some), subst (λ (m : ℕ). IsWithin M first m) (sym n) within, omega (arith, sum, few)),
      append-nil (bytes_in_blocks (min (size + length bytes) FILE_BYTES) (extent M first (min (size + length bytes) FILE_BYTES)))
          ∙ ap (λ (m : ℕ). bytes_in_blocks m (extent M first m)) n
          ∙ ap (λ (bs : List Block). bytes_in_blocks (length bytes) bs) is
          ∙ bytes-packed bytes,
    )
one_more M first bytes some few within is (f ∷ fs) size e all =
    let more : FILE_BYTES ≤ size = omega (arith, e) in
    let whole : min size FILE_BYTES ≡ FILE_BYTES = min-eq_right more in
    let still : min (size + length bytes) FILE_BYTES ≡ FILE_BYTES = min-eq_right (let h : FILE_BYTES ≤ size + length bytes = omega (arith, more) in h) in
    let same : min (size + length bytes) FILE_BYTES ≡ min size FILE_BYTES = still ∙ sym whole in
    let left : size + length bytes - FILE_BYTES ≡ size - FILE_BYTES + length bytes = omega (arith, more) in
    let rest = one_more M first bytes some few within is fs (size - FILE_BYTES) (omega (arith, e)) all.2 in
    let head = bytes_in_blocks (min size FILE_BYTES) (extent M f (min size FILE_BYTES)) in (
      (
        omega (arith, some),
        subst (λ (m : ℕ). IsWithin M f m) (sym same) all.1,
        subst (λ (m : ℕ). AreWithin M m (fs ++ first ∷ [])) (sym left) rest.0,
      ),
      ap (λ (m : ℕ). bytes_in_blocks m (extent M f m) ++ bytes_in_extents M (size + length bytes - FILE_BYTES) (fs ++ first ∷ [])) same
          ∙ ap (λ (m : ℕ). head ++ bytes_in_extents M m (fs ++ first ∷ [])) left
          ∙ ap (λ (xs : List ℕ). head ++ xs) rest.1
          ∙ sym (append_assoc head (bytes_in_extents M (size - FILE_BYTES) fs) bytes),
    )

-- a part that is there is below the end, or empty
pub part_there : (s c : ℕ) (xs ys : List Block) → length (take c (drop s xs)) ≡ c → take c (drop s (xs ++ ys)) ≡ take c (drop s xs)
part_there s zero xs ys there = refl
part_there s (suc c) xs ys there = part-append s (suc c) xs ys (let long : suc c ≤ length (drop s xs) = omega (arith, there, length-take (suc c) (drop s xs)) in omega (arith, long, length-drop s xs))

module _ (formats : Formats) (M more : Medium) (size : ℕ) (descriptors : List ℕ) where
  pub descriptors_stay : length (descriptors_at formats M size descriptors) ≡ descriptor_blocks size → descriptors_at formats (M ++ more) size descriptors ≡ descriptors_at formats M size descriptors
  descriptors_stay there = part_there (formats.next descriptors + partition_start) (descriptor_blocks size) M more there

  pub listed_more : AreListed formats M size descriptors → AreListed formats (M ++ more) size descriptors
  listed_more listed =
      let same = descriptors_stay listed.there in
      record {
        there = ap (λ (bs : List Block). length bs) same ∙ listed.there;
        are = subst (λ (bs : List Block). formats.HaveDescriptors size (formats.next descriptors) bs) (sym same) listed.are;
      }
