use Rattle.std.proofs.Common.{◌≡◌, ℕ, ◌+◌, sym, subst, ◌∙◌, arith}
use Rattle.std.proofs.lemmas.Bool.{both_ways}
use Rattle.ecma.specs.Field.{IsAt}
use Rattle.ecma.specs.Numbers.{u32_at}
use Rattle.icb.specs.Extents.{long_descriptor}
use Rattle.icb.proofs.EntryLaws.{descriptor_first}
use Rattle.icb.proofs.rules.is_extent.Goals as goal

pub returns-then-not-is_extent_at : goal.returns-then-not-is_extent_at
returns-then-not-is_extent_at c = (
  (λ no. absurd cc),
  (λ e.
      let first : u32_at (c.args.at + 4) c.args.block.now ≡ e.0 = descriptor_first c.args.at c.args.size e.0 c.args.block.now (omega (arith, e.1)) e.2 in
      let stands : IsAt c.args.at (long_descriptor c.args.size c.u32_at-first.result) c.args.block.now =
      subst (λ (n : ℕ). IsAt c.args.at (long_descriptor c.args.size n) c.args.block.now) (sym (c.u32_at-first.ensures ∙ first)) e.2 in
      absurd (both_ways _ c.if-not-is_extent_at.true (c.is_extent_at.ensures.1 stands))),
)
