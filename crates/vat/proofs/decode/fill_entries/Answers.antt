use Rattle.std.proofs.Common.{◌≡◌, ℕ, ◌<◌, List, [], ◌∷◌, ◌++◌, length, take, get_or, map, Option, sym, ap, ◌∙◌, arith}
use Rattle.std.proofs.lemmas.List.{take_all, take_more, take_more_set, map_push}
use Rattle.vat.specs.Entry.{number_entry, words}
use Rattle.vat.proofs.Words.{length-words, get_or-words}
use Rattle.vat.proofs.decode.fill_entries.Goals as goal

pub loop-i-preserved : goal.loop-i-preserved
loop-i-preserved c =
    let ws = words c.args.text.now in
    let i = c.loop-i.i in
    let lt : i < length ws = omega (arith, length-words c.args.text.now, c.loop-i-test.true, c.requires) in
    let room : i < length c.loop-i.entries = omega arith in
    let at : get_or ws i 0 ≡ c.u32_at.result = get_or-words c.args.text.now i lt ∙ sym c.u32_at.ensures in
    take_more_set c.loop-i.entries i c.entry.result room
    ∙ ap (λ (x : List (Option ℕ)). x ++ c.entry.result ∷ []) c.loop-i.invariant
    ∙ ap (λ (e : Option ℕ). map number_entry (take i ws) ++ e ∷ []) (c.entry.ensures ∙ ap number_entry (sym at))
    ∙ sym (map_push number_entry (take i ws) (get_or ws i 0))
    ∙ sym (ap (map number_entry) (take_more ws i 0 lt))

pub returns : goal.returns
returns c =
    sym (take_all c.loop-i.i c.loop-i.entries (omega arith))
    ∙ c.loop-i.invariant
    ∙ ap (map number_entry) (take_all c.loop-i.i (words c.args.text.now) (omega (arith, length-words c.args.text.now, c.loop-i-test.false, c.requires)))
