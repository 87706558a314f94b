use Rattle.dir.proofs.Sizes.{few_blocks}
use Rattle.dir.proofs.Short.{directories_short}
use Rattle.dir.proofs.laws.blocks_are_few.Goals as goal

pub returns-clause-sizes : goal.returns-clause-sizes
returns-clause-sizes c = few_blocks

pub returns-clause-directories : goal.returns-clause-directories
returns-clause-directories c = directories_short
