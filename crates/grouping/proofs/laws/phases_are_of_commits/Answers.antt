use Rattle.grouping.proofs.Phases.{phases_are_of_commits}
use Rattle.grouping.proofs.laws.phases_are_of_commits.Goals as goal

pub returns : goal.returns
returns c = phases_are_of_commits
