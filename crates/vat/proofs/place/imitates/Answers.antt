use Rattle.std.proofs.Common.{◌+◌, ℕ, List, below_more, subst, refl, sym, arith}
use Rattle.std.proofs.lemmas.Bool.{both_ways}
use Rattle.icb.specs.VatIcb.{IsVatIcb}
use Rattle.ecma.specs.Descriptor.{padded}
use Rattle.vat.proofs.place.imitates.Goals as goal

pub returns-then-is_entry : goal.returns-then-is_entry
returns-then-is_entry c = (
  (λ yes. record {
    index = c.loop-i.i;
    there = omega (arith, c.loop-i-test.true, c.div_ceil-i-end.ensures);
    entry = subst (λ (text : List ℕ). IsVatIcb (padded text) (c.args.start + c.loop-i.i)) c.block_text.ensures.value (c.is_entry.ensures.0 c.if-is_entry.true);
  }),
  (λ imitates. refl),
)

pub loop-i-preserved : goal.loop-i-preserved
loop-i-preserved c =
    below_more _ _ c.loop-i.invariant (λ is. both_ways _ c.if-is_entry.false (c.is_entry.ensures.1 (subst (λ (text : List ℕ). IsVatIcb (padded text) (c.args.start + c.loop-i.i)) (sym c.block_text.ensures.value) is)))

pub returns : goal.returns
returns c =
    ((λ yes. absurd cc), (λ imitates. absurd (c.loop-i.invariant imitates.index (omega (arith, imitates.there, c.loop-i-test.false, c.div_ceil-i-end.ensures)) imitates.entry)))
