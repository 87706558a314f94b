use Rattle.std.proofs.Common.{refl, arith}
use Rattle.std.proofs.lemmas.Bool.{both_ways}
use Rattle.ecma.proofs.InBytes.{zeros_next, zeros_there, all_zeros}
use Rattle.ecma.proofs.standing.are_zeros.Goals as goal

pub runs-init : goal.runs-init
runs-init c = record { within = omega arith; zeros = refl }

pub runs-preserved : goal.runs-preserved
runs-preserved c = zeros_next c.runs.at 64 c.args.bytes.now (omega arith) c.runs.invariant (c.is_zero_run.ensures.0 c.if-not-is_zero_run.false)

pub words-preserved : goal.words-preserved
words-preserved c = zeros_next c.words.at 8 c.args.bytes.now (omega arith) c.words.invariant (c.is_u64_at.ensures.0 c.if-not-is_u64_at.false)

pub bytes-preserved : goal.bytes-preserved
bytes-preserved c = zeros_next c.bytes.at 1 c.args.bytes.now (omega arith) c.bytes.invariant (c.is_u8_at.ensures.0 c.if-not-is_u8_at.false)

pub returns-then-not-is_zero_run : goal.returns-then-not-is_zero_run
returns-then-not-is_zero_run c = (
  (λ no. absurd cc),
  (λ all. absurd (both_ways _ c.if-not-is_zero_run.true (c.is_zero_run.ensures.1 (zeros_there c.runs.at 64 c.args.bytes.now (omega arith) all)))),
)

pub returns-then-not-is_u64_at : goal.returns-then-not-is_u64_at
returns-then-not-is_u64_at c = (
  (λ no. absurd cc),
  (λ all. absurd (both_ways _ c.if-not-is_u64_at.true (c.is_u64_at.ensures.1 (zeros_there c.words.at 8 c.args.bytes.now (omega arith) all)))),
)

pub returns-then-not-is_u8_at : goal.returns-then-not-is_u8_at
returns-then-not-is_u8_at c = (
  (λ no. absurd cc),
  (λ all. absurd (both_ways _ c.if-not-is_u8_at.true (c.is_u8_at.ensures.1 (zeros_there c.bytes.at 1 c.args.bytes.now (omega arith) all)))),
)

pub returns : goal.returns
returns c = ((λ _. all_zeros c.bytes.at c.args.bytes.now (omega arith) c.bytes.invariant.zeros), (λ _. refl))
