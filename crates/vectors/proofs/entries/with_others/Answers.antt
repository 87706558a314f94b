use Rattle.std.proofs.Common.{◌≡◌, ℕ, ◌*◌, ◌+◌, ◌<◌, ◌≤◌, ◌++◌, ◌∙◌, List, [], length, take, refl, sym, ap, subst, inl, inr, arith, append-nil, length-append, length-take}
use Rattle.std.proofs.lemmas.Bool.{cases_lt}
use Rattle.std.proofs.lemmas.List.{take_all}
use Rattle.limits.specs.declared.TheConstants.{PARTITION_BLOCKS}
use Rattle.ecma.specs.Blocks.{block_count}
use Rattle.ecma.specs.Field.{IsAt}
use Rattle.icb.specs.Extents.{AreDescriptors, IsExtent, extent_size, listed, long_descriptor, slots}
use Rattle.icb.proofs.DescriptorBlocks.{at_front, at_rest}
use Rattle.icb.proofs.DescriptorParts.{listed_within}
use Rattle.vectors.proofs.entries.with_others.Goals as goal

-- the descriptors of so many extents
abbrev AreSome : ℕ → ℕ → List ℕ → Type 0
AreSome size n all = (length all ≡ 16 * n) × ((k : ℕ) → k < n → IsExtent (0 + 16 * k) (extent_size size k) all)

begun : (size next n : ℕ) (list copy : List ℕ) → length list ≡ 16 * slots 126 size → AreDescriptors 126 0 size next list → n ≡ listed 126 size → copy ≡ take (16 * n) list → AreSome size n copy
begun size next n list copy long are is copied =
    let within : 16 * n ≤ length list = omega (arith, long, is, listed_within 126 size) in
    subst (AreSome size n) (sym copied) (
      omega (arith, length-take (16 * n) list, within),
      λ k lt.
          let e = are.extents k (omega (arith, lt, is)) in
          let text : List ℕ = long_descriptor (extent_size size k) e.0 in
          (e.0, e.1, subst (IsAt (0 + 16 * k) text) (append-nil (take (16 * n) list)) (at_front (0 + 16 * k) (16 * n) text list [] (omega (arith, lt)) within e.2)),
    )

-- one more
more : (size n first : ℕ) (all : List ℕ) → first + block_count (extent_size size n) ≤ PARTITION_BLOCKS → AreSome size n all → AreSome size (n + 1) (all ++ long_descriptor (extent_size size n) first)
more size n first all room (long, are) =
    let text : List ℕ = long_descriptor (extent_size size n) first in (
      length-append all text ∙ omega (arith, long),
      λ k lt. elim (cases_lt k n) [
        | inl less ↦
            let e = are k less in
            let here : List ℕ = long_descriptor (extent_size size k) e.0 in
            (e.0, e.1, subst (λ (xs : List ℕ). IsAt (0 + 16 * k) here (xs ++ text)) (take_all (length all) all (omega arith)) (at_front (0 + 16 * k) (length all) here all text (omega (arith, long, less)) (omega arith) e.2))
        | inr after ↦
            let same : n ≡ k = omega (arith, lt, after) in
            let there : IsAt (length all + 0) text (all ++ text) = at_rest 0 (length all) text all text refl (take_all (length text) text (omega arith)) in
            subst (λ (m : ℕ). IsExtent (0 + 16 * m) (extent_size size m) (all ++ text)) same
            (first, room, subst (λ (at : ℕ). IsAt at text (all ++ text)) (let e : length all + 0 ≡ 0 + 16 * n = omega (arith, long) in e) there)
      ],
    )

pub loop-index-init : goal.loop-index-init
loop-index-init c =
    begun c.args.size c.requires.are.0 c.listed-here.result c.args.list.now c.in_ok-all.all.items c.requires.long c.requires.are.1 c.listed-here.ensures.listed (c.in_ok-all.ensures.items_if_clones_equal (λ x y e. e))

pub loop-index-preserved : goal.loop-index-preserved
loop-index-preserved c =
    let size : c.extent_size.result ≡ extent_size c.args.size c.loop-index.index = c.extent_size.ensures.size in
    let room : 7 + block_count (extent_size c.args.size c.loop-index.index) ≤ PARTITION_BLOCKS = omega (arith, c.extent_size.ensures.limit, size) in
    let one : c.extent_descriptor.result ≡ long_descriptor (extent_size c.args.size c.loop-index.index) 7 = c.extent_descriptor.ensures ∙ ap (λ (n : ℕ). long_descriptor n 7) size in
    subst (AreSome c.args.size (c.loop-index.index + 1)) (sym (c.in_ok-extend_from_slice.ensures.items ∙ ap (λ (xs : List ℕ). c.loop-index.all.items ++ xs) one)) (more c.args.size c.loop-index.index 7 c.loop-index.all.items room c.loop-index.invariant)

pub returns-clause-are : goal.returns-clause-are
returns-clause-are c k lt = c.loop-index.invariant.1 k (omega (arith, lt, c.loop-index-test.false, c.extent_count-index-end.ensures.count))
