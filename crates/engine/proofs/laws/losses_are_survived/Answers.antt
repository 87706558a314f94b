use Rattle.engine.proofs.Lives.{cuts_join}
use Rattle.engine.proofs.Losses.{losses_reach, runs_reach, served_reach}
use Rattle.engine.proofs.laws.losses_are_survived.Goals as goal

pub returns-clause-runs : goal.returns-clause-runs
returns-clause-runs c = runs_reach

pub returns-clause-streams : goal.returns-clause-streams
returns-clause-streams c = served_reach

pub returns-clause-losses : goal.returns-clause-losses
returns-clause-losses c = losses_reach

pub returns-clause-joined : goal.returns-clause-joined
returns-clause-joined c = cuts_join
