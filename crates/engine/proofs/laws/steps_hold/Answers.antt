use Rattle.engine.proofs.Holding.{steps_hold}
use Rattle.engine.proofs.laws.steps_hold.Goals as goal

pub returns : goal.returns
returns c = steps_hold
