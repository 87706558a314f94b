use Rattle.std.proofs.Common.{ℕ, List, ap, ◌∙◌}
use Rattle.osta.specs.FirstFault.{first_text_fault}
use Rattle.osta.specs.Compressed.{spelling_faults}
use Rattle.osta.proofs.Names.{field_faultless}
use Rattle.osta.proofs.label.Label.text.Goals as goal

pub expand_checked-requires : goal.expand_checked-requires
expand_checked-requires c = ap (λ (xs : List ℕ). first_text_fault (spelling_faults xs)) c.spelling_of.ensures ∙ field_faultless c.self.inside.field c.self.invariant
