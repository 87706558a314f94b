use Rattle.std.proofs.Common.{◌≡◌, ℕ, ◌+◌, ◌*◌, ◌-◌, ◌<◌, refl, sym, subst, below_more, arith}
use Rattle.std.proofs.lemmas.Bool.{both_ways}
use Rattle.ecma.specs.Field.{IsAt}
use Rattle.icb.specs.Extents.{IsExtent, extent_count, extent_size, next_descriptor}
use Rattle.icb.proofs.DescriptorParts.{listed_some}
use Rattle.icb.proofs.rules.are_descriptors.Goals as goal

pub loop-index-preserved : goal.loop-index-preserved
loop-index-preserved c =
    below_more (λ k. IsExtent (c.args.at + 16 * k) (extent_size c.args.size k) c.args.block.now) c.loop-index.index c.loop-index.invariant
    (subst (λ (n : ℕ). IsExtent (c.args.at + 16 * c.loop-index.index) n c.args.block.now) c.extent_size.ensures.size (c.is_extent.ensures.0 c.if-not-is_extent.false))

pub returns-then-not-is_extent : goal.returns-then-not-is_extent
returns-then-not-is_extent c = (
  (λ no. absurd cc),
  (λ all. absurd (both_ways _ c.if-not-is_extent.true (c.is_extent.ensures.1
      (subst (λ (n : ℕ). IsExtent (c.args.at + 16 * c.loop-index.index) n c.args.block.now) (sym c.extent_size.ensures.size)
      (all.extents c.loop-index.index (omega (arith, c.loop-index-test.true, c.listed-count.ensures.listed))))))),
)

pub returns-then-extent_count-room : goal.returns-then-extent_count-room
returns-then-extent_count-room c = (
  (λ _. record {
    extents = λ k lt. c.loop-index.invariant k (omega (arith, lt, c.loop-index-test.false, c.listed-count.ensures.listed));
    leads = λ more. absurd (let no : ⊥ = omega (arith, more, c.extent_count.ensures.count, c.if-extent_count-room.true) in no);
  }),
  (λ _. refl),
)

pub returns : goal.returns
returns c =
    let more : c.args.room < extent_count c.args.size = omega (arith, c.extent_count.ensures.count, c.if-extent_count-room.false) in
    let last : c.args.at + 16 * c.listed-count.result ≡ c.args.at + 16 * (c.args.room - 1) = omega (arith, listed_some c.args.room c.args.size more, c.listed-count.ensures.listed) in (
      (λ yes. record {
        extents = λ k lt. c.loop-index.invariant k (omega (arith, lt, c.loop-index-test.false, c.listed-count.ensures.listed));
        leads = λ _. subst (λ (n : ℕ). IsAt n (next_descriptor c.args.next) c.args.block.now) last (c.is_extent_at.ensures.0 yes);
      }),
      (λ all. c.is_extent_at.ensures.1 (subst (λ (n : ℕ). IsAt n (next_descriptor c.args.next) c.args.block.now) (sym last) (all.leads more))),
    )
