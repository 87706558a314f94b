use Rattle.std.proofs.lemmas.Bool.{both_ways}
use Rattle.icb.proofs.Fields.{stamps_whole, stamps_apart}
use Rattle.icb.proofs.rules.has_stamps.Goals as goal

pub returns-then-not-is_stamp_again : goal.returns-then-not-is_stamp_again
returns-then-not-is_stamp_again c = (
  (λ no. absurd cc),
  (λ all. absurd (both_ways _ c.if-not-is_stamp_again.true (c.is_stamp_again.ensures.1 (stamps_apart c.args.block.now c.told-block all).second))),
)

pub returns-then-not-is_stamp_again-2 : goal.returns-then-not-is_stamp_again-2
returns-then-not-is_stamp_again-2 c = (
  (λ no. absurd cc),
  (λ all. absurd (both_ways _ c.if-not-is_stamp_again-2.true (c.is_stamp_again-2.ensures.1 (stamps_apart c.args.block.now c.told-block all).third))),
)

pub returns-then-not-is_u32_at : goal.returns-then-not-is_u32_at
returns-then-not-is_u32_at c = (
  (λ no. absurd cc),
  (λ all. absurd (both_ways _ c.if-not-is_u32_at.true (c.is_u32_at.ensures.1 (stamps_apart c.args.block.now c.told-block all).once))),
)

pub returns-then-not-are_u64s_at : goal.returns-then-not-are_u64s_at
returns-then-not-are_u64s_at c = (
  (λ no. absurd cc),
  (λ all. absurd (both_ways _ c.if-not-are_u64s_at.true (c.are_u64s_at.ensures.1 (stamps_apart c.args.block.now c.told-block all).attribute))),
)

pub returns-then-not-are_u64s_at-2 : goal.returns-then-not-are_u64s_at-2
returns-then-not-are_u64s_at-2 c = (
  (λ no. absurd cc),
  (λ all. absurd (both_ways _ c.if-not-are_u64s_at-2.true (c.are_u64s_at-2.ensures.1 (stamps_apart c.args.block.now c.told-block all).front))),
)

pub returns : goal.returns
returns c = (
  (λ yes. stamps_whole c.args.block.now c.told-block (record {
    second = c.is_stamp_again.ensures.0 c.if-not-is_stamp_again.false;
    third = c.is_stamp_again-2.ensures.0 c.if-not-is_stamp_again-2.false;
    once = c.is_u32_at.ensures.0 c.if-not-is_u32_at.false;
    attribute = c.are_u64s_at.ensures.0 c.if-not-are_u64s_at.false;
    front = c.are_u64s_at-2.ensures.0 c.if-not-are_u64s_at-2.false;
    back = c.are_u64s_at-3.ensures.0 yes;
  })),
  (λ all. c.are_u64s_at-3.ensures.1 (stamps_apart c.args.block.now c.told-block all).back),
)
