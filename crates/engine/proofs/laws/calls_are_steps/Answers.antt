use Rattle.engine.proofs.Calling.{calls_are_steps, restarts_are_steps}
use Rattle.engine.proofs.laws.calls_are_steps.Goals as goal

pub returns-clause-messages : goal.returns-clause-messages
returns-clause-messages c = calls_are_steps

pub returns-clause-restarts : goal.returns-clause-restarts
returns-clause-restarts c = restarts_are_steps
