use Rattle.vat.proofs.Labels.{label_there}
use Rattle.vat.proofs.rules.has_label.Goals as goal

pub returns : goal.returns
returns c = label_there c.of.result c.args.bytes.now c.label_field.result.now c.is_some.result c.label_field.ensures c.is_some.ensures c.of.ensures.some c.of.ensures.only
