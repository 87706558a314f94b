use Rattle.programs.proofs.Processes.{processes_are_runs}
use Rattle.programs.proofs.laws.processes_are_runs.Goals as goal

pub returns : goal.returns
returns c = processes_are_runs
