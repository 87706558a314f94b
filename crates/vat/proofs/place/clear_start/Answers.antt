use Rattle.std.proofs.Common.{◌≡◌, ◌+◌, length, subst, inl, inr, arith}
use Rattle.std.proofs.lemmas.Bool.{cases_lt}
use Rattle.ecma.specs.Blocks.{block_count}
use Rattle.vat.specs.Imitation.{Imitates}
use Rattle.vat.proofs.Places.{one_free}
use Rattle.vat.proofs.place.clear_start.Goals as goal

pub loop-start-preserved : goal.loop-start-preserved
loop-start-preserved c k low high = elim (cases_lt k c.loop-start.start) [
  | inl lt ↦ c.loop-start.invariant k low lt
  | inr ge ↦ let e : c.loop-start.start ≡ k = omega arith in subst (Imitates c.args.bytes.now) e (c.imitates.ensures.0 c.if-not-imitates.false)
]

pub returns-clause-clear : goal.returns-clause-clear
returns-clause-clear c here =
    let e : c.args.from + c.div_ceil-blocks.result ≡ c.args.from + block_count (length c.args.bytes.now) = omega (arith, c.div_ceil-blocks.ensures) in
    one_free c.args.bytes.now c.args.from (λ k low high. c.loop-start.invariant k low (omega (arith, c.loop-start-test.false, e))) (subst (Imitates c.args.bytes.now) e here)
