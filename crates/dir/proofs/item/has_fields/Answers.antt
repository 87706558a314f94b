use Rattle.std.proofs.Common.{arith}
use Rattle.std.proofs.lemmas.Bool.{both_ways}
use Rattle.dir.proofs.Heads.{fields_stand, fields_apart}
use Rattle.dir.proofs.item.has_fields.Goals as goal

pub returns-then-not-is_u16_at : goal.returns-then-not-is_u16_at
returns-then-not-is_u16_at c = (
  (λ no. absurd cc),
  (λ all. absurd (both_ways _ c.if-not-is_u16_at.true (c.is_u16_at.ensures.1 (fields_apart c.args.bytes.now all).version))),
)

pub returns-then-not-is_u32_at : goal.returns-then-not-is_u32_at
returns-then-not-is_u32_at c = (
  (λ no. absurd cc),
  (λ all. absurd (both_ways _ c.if-not-is_u32_at.true (c.is_u32_at.ensures.1 (fields_apart c.args.bytes.now all).size))),
)

pub returns-then-not-is_u16_at-2 : goal.returns-then-not-is_u16_at-2
returns-then-not-is_u16_at-2 c = (
  (λ no. absurd cc),
  (λ all. absurd (both_ways _ c.if-not-is_u16_at-2.true (c.is_u16_at-2.ensures.1 (fields_apart c.args.bytes.now all).partition))),
)

pub returns : goal.returns
returns c = (
  (λ yes. fields_stand c.args.bytes.now (λ i. omega (arith, c.type_inv.bytes i)) c.requires (record {
    version = c.is_u16_at.ensures.0 c.if-not-is_u16_at.false;
    size = c.is_u32_at.ensures.0 c.if-not-is_u32_at.false;
    partition = c.is_u16_at-2.ensures.0 c.if-not-is_u16_at-2.false;
    flags = c.is_u16_at-3.ensures.0 yes;
  })),
  (λ all. c.is_u16_at-3.ensures.1 (fields_apart c.args.bytes.now all).flags),
)
