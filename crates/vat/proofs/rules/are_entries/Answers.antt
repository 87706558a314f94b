use Rattle.std.proofs.Common.{◌≡◌, ◌<◌, ◌≤◌, length, get_or, refl, sym, ◌∙◌, inl, inr, below_more, arith}
use Rattle.std.specs.Prelude.{◌⊎◌}
use Rattle.vat.specs.Entry.{words, unused}
use Rattle.vat.proofs.Words.{length-words, get_or-words}
use Rattle.vat.proofs.rules.are_entries.Goals as goal

pub loop-i-preserved-then-number-icb : goal.loop-i-preserved-then-number-icb
loop-i-preserved-then-number-icb c =
    let ws = words c.args.text.now in
    let lt : c.loop-i.i < length ws = omega (arith, length-words c.args.text.now, c.loop-i-test.true) in
    let at : get_or ws c.loop-i.i 0 ≡ c.u32_at-number.result = get_or-words c.args.text.now c.loop-i.i lt ∙ sym c.u32_at-number.ensures in
    below_more (λ k. (get_or ws k 0 < c.args.icb) ⊎ ((get_or ws k 0 ≡ unused) × (2 ≤ k))) c.loop-i.i c.loop-i.invariant (inl (omega (arith, at, c.if-number-icb.true)))

pub returns-then-number : goal.returns-then-number
returns-then-number c =
    let ws = words c.args.text.now in
    let lt : c.loop-i.i < length ws = omega (arith, length-words c.args.text.now, c.loop-i-test.true) in
    let at : get_or ws c.loop-i.i 0 ≡ c.u32_at-number.result = get_or-words c.args.text.now c.loop-i.i lt ∙ sym c.u32_at-number.ensures in (
      λ no. absurd cc,
      λ all. elim (all c.loop-i.i lt) [
        | inl below ↦ absurd (omega (arith, at, below, c.if-number-icb.false))
        | inr none ↦ absurd (omega (arith, at, none, c.if-number.true))
      ],
    )

pub returns-then-i-lt2 : goal.returns-then-i-lt2
returns-then-i-lt2 c =
    let ws = words c.args.text.now in
    let lt : c.loop-i.i < length ws = omega (arith, length-words c.args.text.now, c.loop-i-test.true) in
    let at : get_or ws c.loop-i.i 0 ≡ c.u32_at-number.result = get_or-words c.args.text.now c.loop-i.i lt ∙ sym c.u32_at-number.ensures in (
      λ no. absurd cc,
      λ all. elim (all c.loop-i.i lt) [
        | inl below ↦ absurd (omega (arith, at, below, c.if-number-icb.false))
        | inr none ↦ absurd (omega (arith, none, c.if-i-lt2.true))
      ],
    )

pub loop-i-preserved : goal.loop-i-preserved
loop-i-preserved c =
    let ws = words c.args.text.now in
    let lt : c.loop-i.i < length ws = omega (arith, length-words c.args.text.now, c.loop-i-test.true) in
    let at : get_or ws c.loop-i.i 0 ≡ c.u32_at-number.result = get_or-words c.args.text.now c.loop-i.i lt ∙ sym c.u32_at-number.ensures in
    below_more (λ k. (get_or ws k 0 < c.args.icb) ⊎ ((get_or ws k 0 ≡ unused) × (2 ≤ k))) c.loop-i.i c.loop-i.invariant (inr (omega (arith, at, c.if-number.false), omega (arith, c.if-i-lt2.false)))

pub returns : goal.returns
returns c = (λ _ i lt. c.loop-i.invariant i (omega (arith, lt, length-words c.args.text.now, c.loop-i-test.false)), λ _. refl)
