use Rattle.icb.proofs.FileSets.{found_set, only_set}
use Rattle.icb.proofs.set.decode_fsd.Goals as goal

pub returns-clause-found : goal.returns-clause-found
returns-clause-found c = found_set c.args.block.now c.examine_set.result c.told-block c.examine_set.ensures.rules c.examine_set.ensures.describes

pub returns-clause-only : goal.returns-clause-only
returns-clause-only c = only_set c.args.block.now c.examine_set.result c.examine_set.ensures.fault c.examine_set.ensures.describes
