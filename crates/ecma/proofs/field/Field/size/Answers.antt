use Rattle.std.proofs.Common.{length, sym, ap, ◌∙◌}
use Rattle.ecma.specs.Field.{spelled}
use Rattle.ecma.specs.declared.field.Field.{Field}
use Rattle.ecma.proofs.Entities.{length-entity_id}
use Rattle.ecma.proofs.field.Field.size.Goals as goal

pub returns-in-EntityId : goal.returns-in-EntityId
returns-in-EntityId c = sym (ap (λ (field : Field). length (spelled field)) c.in-EntityId.is ∙ length-entity_id c.in-EntityId.field-0)
