use Rattle.dir.proofs.Once.{laid_directory}
use Rattle.dir.proofs.laws.laid_is_directory.Goals as goal

pub returns : goal.returns
returns c = laid_directory
