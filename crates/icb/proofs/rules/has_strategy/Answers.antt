use Rattle.std.proofs.Common.{refl}
use Rattle.std.proofs.lemmas.Bool.{both_ways}
use Rattle.std.specs.Int.{w16, w32, to_le_bytes}
use Rattle.ecma.proofs.InBytes.{both_at, front_at, back_at}
use Rattle.icb.proofs.rules.has_strategy.Goals as goal

pub returns-then-not-is_u32_at : goal.returns-then-not-is_u32_at
returns-then-not-is_u32_at c = (
  (λ no. absurd cc),
  (λ all. absurd (both_ways _ c.if-not-is_u32_at.true (c.is_u32_at.ensures.1 (front_at 20 (to_le_bytes w32 4) (to_le_bytes w16 1) c.args.block.now all)))),
)

pub returns : goal.returns
returns c = (
  (λ yes. both_at 20 24 (to_le_bytes w32 4) (to_le_bytes w16 1) c.args.block.now refl (c.is_u32_at.ensures.0 c.if-not-is_u32_at.false) (c.is_u16_at.ensures.0 yes)),
  (λ all. c.is_u16_at.ensures.1 (back_at 20 24 (to_le_bytes w32 4) (to_le_bytes w16 1) c.args.block.now refl all)),
)
