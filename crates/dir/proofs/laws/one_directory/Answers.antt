use Rattle.dir.proofs.Once.{directory_once}
use Rattle.dir.proofs.laws.one_directory.Goals as goal

pub returns : goal.returns
returns c = directory_once
