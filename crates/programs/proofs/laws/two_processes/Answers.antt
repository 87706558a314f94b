use Rattle.programs.proofs.InTurn.{two_processes}
use Rattle.programs.proofs.laws.two_processes.Goals as goal

pub returns : goal.returns
returns c = two_processes
