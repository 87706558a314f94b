use Rattle.std.proofs.Common.{ap, ◌∙◌}
use Rattle.osta.specs.Compressed.{compressed}
use Rattle.osta.specs.Dstring.{field_of}
use Rattle.osta.proofs.Names.{field_spelling}
use Rattle.osta.proofs.label.Label.dstring_128.Goals as goal

pub returns-clause-value : goal.returns-clause-value
returns-clause-value c = c.put_spelling.ensures ∙ ap (field_of 128) (c.spelling_of.ensures ∙ (field_spelling c.self.inside.field c.self.invariant ∙ ap compressed c.self.view_is))
