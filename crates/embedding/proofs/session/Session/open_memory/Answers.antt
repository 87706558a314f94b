use Rattle.std.proofs.Common.{inl, inr, refl}
use Rattle.embedding.specs.declared.medium.Medium.TheVariants.{Memory}
use Rattle.embedding.proofs.Beginning.{turned}
use Rattle.embedding.proofs.session.Session.open_memory.Goals as goal

pub returns-in-Ok : goal.returns-in-Ok
returns-in-Ok c = inr (
  c.in-Ok.drive,
  c.in-Ok.ensures.made,
  turned (Memory c.in-Ok.drive) c.turn_to.result c.args.self.now c.turn_to.new.self c.turn_to.ensures.opened c.turn_to.ensures.refused,
)

pub returns-in-Err : goal.returns-in-Err
returns-in-Err c = inl (c.in-Err.fault, refl, c.in-Err.ensures.refused, refl)
