use Rattle.std.proofs.Common.{below_more, sym, ◌∙◌, arith}
use Rattle.std.proofs.lemmas.Grind.{same_number_lists}
use Rattle.volume.proofs.read.first_other.Goals as goal

pub loop-at-init : goal.loop-at-init
loop-at-init c = c.same_front-start.ensures.same

pub returns-then-byte-expected-clause-some : goal.returns-then-byte-expected-clause-some
returns-then-byte-expected-clause-some c = record { there = omega (arith, c.loop-at-test.true, c.told-block); same = c.loop-at.invariant; other = c.if-byte-expected.true }

pub loop-at-preserved : goal.loop-at-preserved
loop-at-preserved c = below_more _ _ c.loop-at.invariant c.if-byte-expected.false

pub returns-clause-none : goal.returns-clause-none
returns-clause-none c =
    same_number_lists c.args.block.now c.args.expected.now (c.told-block ∙ sym c.told-expected) (λ k low. c.loop-at.invariant k (omega (arith, c.loop-at-test.false, c.told-block, low)))
