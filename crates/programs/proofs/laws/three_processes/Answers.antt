use Rattle.programs.proofs.InTurn.{three_processes}
use Rattle.programs.proofs.laws.three_processes.Goals as goal

pub returns : goal.returns
returns c = three_processes
