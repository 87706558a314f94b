-- Descriptor blocks that lie below an address are the same on the whole medium.
use Rattle.std.proofs.Common.{◌≡◌, ℕ, ◌+◌, ◌<◌, ◌≤◌, inl, inr, List, length, take, drop, refl, sym, ap, subst, ◌∙◌, arith, take-append-drop}
use Rattle.std.specs.Prelude.{IfSome}
use Rattle.std.proofs.lemmas.Bool.{cases_lt}
use Rattle.limits.specs.declared.TheConstants.{PARTITION_START}
use Rattle.icb.specs.Entry.{Place}
use Rattle.icb.specs.Entry.Place.{Nowhere, Extent as IcbExtent, Extents, Inside}
use Rattle.icb.specs.Extents.{all_descriptors, next_number}
use Rattle.durability.specs.Volume.{AreListed, descriptor_blocks, descriptors_at, firsts_at}
use Rattle.durability.proofs.Extents.{listed_more}
use Rattle.udf.specs.Udf.{all_firsts, udf}
use Rattle.recover.specs.Walk.{HasDescriptors, blocks_extent, extent_in, last_of}
use Rattle.recover.proofs.LastExtent.{EndsBelow, blocks_hold, blocks_said, last_ends}
use Rattle.recover.proofs.Listed.{part_ends}
use Rattle.recover.proofs.Walks.{part_below}

-- they end before the medium does
pub blocks_below : (at : ℕ) (M : List (List ℕ)) → length M ≤ at → (size : ℕ) (descriptors : List ℕ) → AreListed udf M size descriptors → IfSome (blocks_extent size descriptors) (EndsBelow at)
blocks_below at M long size descriptors listed =
    blocks_hold (EndsBelow at) size descriptors (λ some.
    let ends = part_ends (next_number descriptors + PARTITION_START) (descriptor_blocks size) M some listed.there in
    omega (arith, ends, long, some))

module _ (at : ℕ) (M : List (List ℕ)) where
  -- those that the part below has are on the whole
  pub listed_above : (size : ℕ) (place : Place) → HasDescriptors (take at M) size place → HasDescriptors M size place
  listed_above size Nowhere listed = tt
  listed_above size (IcbExtent first) listed = tt
  listed_above size (Extents descriptors) listed =
      subst (λ (N : List (List ℕ)). AreListed udf N size descriptors) (take-append-drop at M) (listed_more udf (take at M) (drop at M) size descriptors listed)
  listed_above size (Inside bytes) listed = tt

  same_part : (s c : ℕ) → (0 < c → s + c ≤ at) → take c (drop s (take at M)) ≡ take c (drop s M)
  same_part s c ends =
      elim (cases_lt 0 c) [
        | inl some ↦ part_below s c at M (ends some)
        | inr none ↦ ap (λ (n : ℕ). take n (drop s (take at M))) (let e : c ≡ 0 = omega (arith, none) in e) ∙ sym (ap (λ (n : ℕ). take n (drop s M)) (let e : c ≡ 0 = omega (arith, none) in e))
      ]

  module _ (size : ℕ) (descriptors : List ℕ) (below : IfSome (blocks_extent size descriptors) (EndsBelow at)) where
    same_descriptors : descriptors_at udf (take at M) size descriptors ≡ descriptors_at udf M size descriptors
    same_descriptors =
        same_part (next_number descriptors + PARTITION_START) (descriptor_blocks size) (λ some.
        let ends = blocks_said (EndsBelow at) size descriptors below some in
        omega (arith, ends))

    same_listed : AreListed udf M size descriptors → AreListed udf (take at M) size descriptors
    same_listed listed = record {
      there = ap (λ (bs : List (List ℕ)). length bs) same_descriptors ∙ listed.there;
      are = subst (λ (bs : List (List ℕ)). udf.HaveDescriptors size (udf.next descriptors) bs) (sym same_descriptors) listed.are;
    }

    same_last : last_of (blocks_extent size descriptors) size (firsts_at udf (take at M) size descriptors) ≡ last_of (blocks_extent size descriptors) size (firsts_at udf M size descriptors)
    same_last = ap (λ (bs : List (List ℕ)). last_of (blocks_extent size descriptors) size (all_firsts (all_descriptors descriptors bs))) same_descriptors

  -- where the one that ends last does so below, on whatever medium it is said
  pub extent_same : (size : ℕ) (place : Place) (N : List (List ℕ)) → IfSome (extent_in N size place) (EndsBelow at) → extent_in (take at M) size place ≡ extent_in M size place
  extent_same size Nowhere N below = refl
  extent_same size (IcbExtent first) N below = refl
  extent_same size (Extents descriptors) N below = same_last size descriptors (last_ends at (blocks_extent size descriptors) size (firsts_at udf N size descriptors) below).0
  extent_same size (Inside bytes) N below = refl

  pub listed_below : (size : ℕ) (place : Place) (N : List (List ℕ)) → IfSome (extent_in N size place) (EndsBelow at) → HasDescriptors M size place → HasDescriptors (take at M) size place
  listed_below size Nowhere N below listed = tt
  listed_below size (IcbExtent first) N below listed = tt
  listed_below size (Extents descriptors) N below listed = same_listed size descriptors (last_ends at (blocks_extent size descriptors) size (firsts_at udf N size descriptors) below).0 listed
  listed_below size (Inside bytes) N below listed = tt
