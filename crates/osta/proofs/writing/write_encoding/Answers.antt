use Rattle.std.proofs.Common.{◌<◌, length, ap, sym, ◌∙◌, arith}
use Rattle.std.specs.Str.{chars}
use Rattle.std.proofs.lemmas.Bool.{eqb-true, eqb-false}
use Rattle.std.proofs.lemmas.List.{nil_from_length}
use Rattle.osta.proofs.Spellings.{length-spelling_narrow, length-spelling_wide}
use Rattle.osta.proofs.Texts.{compressed-nil, some_characters}
use Rattle.osta.proofs.writing.write_encoding.Goals as goal

pub returns-then-is_empty : goal.returns-then-is_empty
returns-then-is_empty c =
    let empty = compressed-nil c.args.text.now (eqb-true _ _ (sym c.is_empty.ensures ∙ c.if-is_empty.true)) in
    nil_from_length c.args.into.now (c.requires.room ∙ ap length empty) ∙ sym empty

pub write_narrow-requires-clause-room : goal.write_narrow-requires-clause-room
write_narrow-requires-clause-room c =
    let apart = eqb-false (length c.args.text.now) 0 (sym c.is_empty.ensures ∙ c.if-is_empty.false) in
    let some : 0 < length (chars c.args.text.now) = some_characters c.args.text.now c.utf8.text (omega (arith, apart)) in
    c.requires.room ∙ length-spelling_narrow (chars c.args.text.now) some (sym c.is_narrow.ensures ∙ c.if-is_narrow.true)

pub write_wide-requires-clause-room : goal.write_wide-requires-clause-room
write_wide-requires-clause-room c =
    let apart = eqb-false (length c.args.text.now) 0 (sym c.is_empty.ensures ∙ c.if-is_empty.false) in
    let some : 0 < length (chars c.args.text.now) = some_characters c.args.text.now c.utf8.text (omega (arith, apart)) in
    c.requires.room ∙ length-spelling_wide (chars c.args.text.now) some (sym c.is_narrow.ensures ∙ c.if-is_narrow.false)
