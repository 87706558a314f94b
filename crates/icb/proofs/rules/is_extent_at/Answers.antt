use Rattle.std.proofs.Common.{◌+◌, ◌++◌, arith}
use Rattle.std.proofs.lemmas.Bool.{both_ways}
use Rattle.std.specs.Int.{w32, w64, to_le_bytes}
use Rattle.ecma.proofs.InBytes.{both_at, front_at, back_at}
use Rattle.icb.proofs.rules.is_extent_at.Goals as goal

pub returns-then-not-is_u32_at : goal.returns-then-not-is_u32_at
returns-then-not-is_u32_at c = (
  (λ no. absurd cc),
  (λ all. absurd (both_ways _ c.if-not-is_u32_at.true (c.is_u32_at.ensures.1
      (front_at c.args.at (to_le_bytes w32 c.args.size) (to_le_bytes w32 c.args.first ++ to_le_bytes w64 0) c.args.block.now all)))),
)

pub returns-then-not-is_u32_at-2 : goal.returns-then-not-is_u32_at-2
returns-then-not-is_u32_at-2 c = (
  (λ no. absurd cc),
  (λ all. absurd (both_ways _ c.if-not-is_u32_at-2.true (c.is_u32_at-2.ensures.1 (front_at (c.args.at + 4) (to_le_bytes w32 c.args.first) (to_le_bytes w64 0) c.args.block.now
      (back_at c.args.at (c.args.at + 4) (to_le_bytes w32 c.args.size) (to_le_bytes w32 c.args.first ++ to_le_bytes w64 0) c.args.block.now (omega arith) all))))),
)

pub returns : goal.returns
returns c =
    let size = to_le_bytes w32 c.args.size in
    let first = to_le_bytes w32 c.args.first in
    let zeros = to_le_bytes w64 0 in
    let block = c.args.block.now in (
      (λ yes. both_at c.args.at (c.args.at + 4) size (first ++ zeros) block (omega arith) (c.is_u32_at.ensures.0 c.if-not-is_u32_at.false)
          (both_at (c.args.at + 4) (c.args.at + 8) first zeros block (omega arith) (c.is_u32_at-2.ensures.0 c.if-not-is_u32_at-2.false) (c.is_u64_at.ensures.0 yes))),
      (λ all. c.is_u64_at.ensures.1 (back_at (c.args.at + 4) (c.args.at + 8) first zeros block (omega arith) (back_at c.args.at (c.args.at + 4) size (first ++ zeros) block (omega arith) all))),
    )
