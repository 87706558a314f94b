use Rattle.ecma.proofs.Entities.{entity_spelled}
use Rattle.ecma.proofs.entity.EntityId.to_bytes.Goals as goal

pub returns : goal.returns
returns c =
    entity_spelled c.args.self.identifier c.args.self.suffix c.copy_from_slice.new.self c.copy_from_slice-2.new.self
    c.copy_from_slice.ensures.len c.copy_from_slice-2.ensures.len c.copy_from_slice.ensures.after c.copy_from_slice-2.ensures.after
