use Rattle.recover.proofs.States.{last_stands}
use Rattle.recover.proofs.laws.last_state_stands.Goals as goal

pub returns : goal.returns
returns c = last_stands
