use Rattle.std.proofs.Common.{ap, sym, ◌∙◌, subst}
use Rattle.osta.specs.Label.{IsLabelField, dstring_text}
use Rattle.osta.proofs.Names.{label_from, label_field, label_text}
use Rattle.osta.proofs.label.Label.read.Goals as goal

pub invariant_of-result : goal.invariant_of-result
invariant_of-result c =
    let label = label_from c.args.text.now c.utf8.text (sym c.is_empty.ensures ∙ c.if-is_empty.false) (sym c.has_character.ensures ∙ c.if-has_character.false) (sym c.in_ok-dstring_write.ensures.fault) in
    subst IsLabelField (sym c.in_ok-dstring_write.ensures.ok) (label_field c.args.text.now label)

pub returns-clause-label : goal.returns-clause-label
returns-clause-label c =
    let label = label_from c.args.text.now c.utf8.text (sym c.is_empty.ensures ∙ c.if-is_empty.false) (sym c.has_character.ensures ∙ c.if-has_character.false) (sym c.in_ok-dstring_write.ensures.fault) in
    (ap dstring_text c.in_ok-dstring_write.ensures.ok ∙ label_text c.args.text.now label, label)
