use Rattle.engine.proofs.Running.{runs_are_held, runs_begin, runs_go_on}
use Rattle.engine.proofs.laws.runs_hold.Goals as goal

pub returns-clause-begin : goal.returns-clause-begin
returns-clause-begin c = runs_begin

pub returns-clause-more : goal.returns-clause-more
returns-clause-more c = runs_go_on

pub returns-clause-held : goal.returns-clause-held
returns-clause-held c = runs_are_held
