use Rattle.std.proofs.Common.{Some, refl}
use Rattle.engine.specs.Situation.{situation_on}
use Rattle.engine.proofs.Lending.{holds_opened, holds_closed}
use Rattle.engine.proofs.engine.Engine.open.Goals as goal

pub returns-in-Ok-clause-open : goal.returns-in-Ok-clause-open
returns-in-Ok-clause-open g c = (c.in-Ok.store, (refl, c.in-Ok.ensures.open))

pub returns-in-Ok-clause-holds : goal.returns-in-Ok-clause-holds
returns-in-Ok-clause-holds g c volume S honest at =
    holds_opened volume S _ (situation_on g.D.Drive (Some c.in-Ok.store) c.take_open.new.drive) c.in-Ok.store refl c.in-Ok.ensures.reads.journal c.in-Ok.ensures.reads.capacity at (c.in-Ok.ensures.knows volume S honest at)

pub returns-in-Err-clause-holds : goal.returns-in-Err-clause-holds
returns-in-Err-clause-holds g c volume S honest at =
    holds_closed volume S _ (situation_on g.D.Drive c.take_open.new.self.store c.take_open.new.drive) c.in-Err.ensures.taken c.in-Err.ensures.reads.journal c.in-Err.ensures.reads.capacity at
