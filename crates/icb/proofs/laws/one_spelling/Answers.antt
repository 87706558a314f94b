use Rattle.icb.proofs.Spellings.{one_block, one_descriptor_block, one_set}
use Rattle.icb.proofs.laws.one_spelling.Goals as goal

pub returns-clause-entry : goal.returns-clause-entry
returns-clause-entry c = one_block

pub returns-clause-set : goal.returns-clause-set
returns-clause-set c = one_set

pub returns-clause-descriptors : goal.returns-clause-descriptors
returns-clause-descriptors c = one_descriptor_block
