use Rattle.std.proofs.Common.{◌+◌, refl}
use Rattle.std.proofs.lemmas.Bool.{both_ways}
use Rattle.std.specs.Int.{w64, to_le_bytes}
use Rattle.ecma.proofs.InBytes.{both_at, front_at, back_at}
use Rattle.icb.proofs.rules.are_u64s_at.Goals as goal

pub returns-then-not-is_u64_at : goal.returns-then-not-is_u64_at
returns-then-not-is_u64_at c = (
  (λ no. absurd cc),
  (λ all. absurd (both_ways _ c.if-not-is_u64_at.true (c.is_u64_at.ensures.1 (front_at c.args.at (to_le_bytes w64 c.args.first) (to_le_bytes w64 c.args.second) c.args.block.now all)))),
)

pub returns : goal.returns
returns c = (
  (λ yes. both_at c.args.at (c.args.at + 8) (to_le_bytes w64 c.args.first) (to_le_bytes w64 c.args.second) c.args.block.now refl (c.is_u64_at.ensures.0 c.if-not-is_u64_at.false) (c.is_u64_at-2.ensures.0 yes)),
  (λ all. c.is_u64_at-2.ensures.1 (back_at c.args.at (c.args.at + 8) (to_le_bytes w64 c.args.first) (to_le_bytes w64 c.args.second) c.args.block.now refl all)),
)
