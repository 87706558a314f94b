use Rattle.std.proofs.Common.{◌≡◌, ℕ, ◌<◌, length, get_or, sym, ap, ◌∙◌, arith}
use Rattle.std.specs.Prelude.{not, ◌==◌}
use Rattle.std.proofs.lemmas.List.{take_all}
use Rattle.std.proofs.lemmas.List.Sums.{count_by_more_no, count_by_more_yes}
use Rattle.vat.specs.Entry.{words, unused}
use Rattle.vat.specs.Rules.{used_of}
use Rattle.vat.proofs.Words.{length-words, get_or-words, counts, counts_not}
use Rattle.vat.proofs.rules.used.Goals as goal
use Rattle.vat.proofs.rules.used.Goals.{then-u32_at, else-u32_at}

pub loop-i-preserved : goal.loop-i-preserved
loop-i-preserved c =
    let ws = words c.args.text.now in
    let lt : c.loop-i.i < length ws = omega (arith, length-words c.args.text.now, c.loop-i-test.true) in
    let at : get_or ws c.loop-i.i 0 ≡ c.u32_at.result = get_or-words c.args.text.now c.loop-i.i lt ∙ sym c.u32_at.ensures in
    elim c.if-u32_at.branch [
      | then-u32_at w ↦
          let more = count_by_more_yes (λ (n : ℕ). not (n == unused)) ws c.loop-i.i 0 lt (counts (get_or ws c.loop-i.i 0) (omega (arith, at, w.if-u32_at.true))) in
          record { count = omega (arith, w.used-is, more, c.loop-i.invariant.count); bound = omega (arith, w.used-is, c.loop-i.invariant.bound) }
      | else-u32_at w ↦
          let more = count_by_more_no (λ (n : ℕ). not (n == unused)) ws c.loop-i.i 0 lt (counts_not (get_or ws c.loop-i.i 0) (omega (arith, at, w.if-u32_at.false))) in
          record { count = omega (arith, w.used-is, more, c.loop-i.invariant.count); bound = omega (arith, w.used-is, c.loop-i.invariant.bound) }
    ]

pub returns : goal.returns
returns c =
    let ws = words c.args.text.now in
    record { count = c.loop-i.invariant.count ∙ ap used_of (take_all c.loop-i.i ws (omega (arith, length-words c.args.text.now, c.loop-i-test.false))) }
