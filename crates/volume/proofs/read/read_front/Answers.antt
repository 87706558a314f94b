use Rattle.std.proofs.Common.{[], get_or, below_more, refl, ap, subst, inl, inr, arith, Ok}
use Rattle.ecma.proofs.Faults.{no_fault}
use Rattle.volume.specs.declared.front.Front.{Front}
use Rattle.volume.specs.Front.{IsFrontBlock}
use Rattle.volume.specs.Reading.{word_rules}
use Rattle.volume.proofs.ReadingLaws.{front_tells, one_told, some_none}
use Rattle.volume.proofs.read.read_front.Goals as goal

pub returns-in-Err-clause-only : goal.returns-in-Err-clause-only
returns-in-Err-clause-only c = λ f is.
    let blocks = c.args.blocks.now in
    absurd (no_fault (word_rules (get_or blocks 32 []) (get_or blocks 34 [])) c.in-Err.fault c.in-Err.ensures.fault (front_tells f blocks is).rules)

pub returns-in-Err-clause-fault : goal.returns-in-Err-clause-fault
returns-in-Err-clause-fault c = inl c.in-Err.ensures.fault

pub returns-in-Some-clause-only : goal.returns-in-Some-clause-only
returns-in-Some-clause-only c = λ f is.
    let blocks = c.args.blocks.now in
    let same = one_told f c.in-Ok.front (get_or blocks 32 []) (get_or blocks 34 []) (front_tells f blocks is) c.in-Ok.ensures.reports in
    let there = subst (λ (x : Front). IsFrontBlock x.label x.moment x.capacity c.loop-n.n (get_or blocks c.loop-n.n [])) same (is.each c.loop-n.n (omega (arith, c.loop-n-test.true, c.requires))) in
    absurd (some_none c.in-Some.at (c.in-Some.ensures.only there))

pub returns-in-Some-clause-fault : goal.returns-in-Some-clause-fault
returns-in-Some-clause-fault c =
    inr record {
      front = c.in-Ok.front;
      tells = c.in-Ok.ensures.reports;
      n = c.loop-n.n;
      at = c.in-Some.at;
      told = refl;
      there = omega (arith, c.loop-n-test.true, c.requires);
      below = c.loop-n.invariant;
      differs = c.in-Some.ensures.some;
    }

pub first_difference-requires : goal.first_difference-requires
first_difference-requires c = record {
  low = c.in-Ok.ensures.capacity.0;
  high = c.in-Ok.ensures.capacity.1;
  within = omega (arith, c.loop-n-test.true, c.requires);
}

pub loop-n-preserved : goal.loop-n-preserved
loop-n-preserved c = below_more _ _ c.loop-n.invariant c.in_default.ensures.none

pub returns-clause-found : goal.returns-clause-found
returns-clause-found c = record {
  low = c.in-Ok.ensures.capacity.0;
  high = c.in-Ok.ensures.capacity.1;
  count = c.requires;
  each = λ n low. c.loop-n.invariant n (omega (arith, c.loop-n-test.false, c.requires, low));
}

pub returns-clause-only : goal.returns-clause-only
returns-clause-only c = λ f is.
    let blocks = c.args.blocks.now in
    ap (λ (x : Front). Ok x) (one_told c.in-Ok.front f (get_or blocks 32 []) (get_or blocks 34 []) c.in-Ok.ensures.reports (front_tells f blocks is))
