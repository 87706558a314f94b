use Rattle.durability.proofs.Writes.{fronts_left, left_more, choices_left}
use Rattle.udf.proofs.laws.torn_images_are_left.Goals as goal

pub returns-clause-fronts : goal.returns-clause-fronts
returns-clause-fronts c = fronts_left

pub returns-clause-fewer : goal.returns-clause-fewer
returns-clause-fewer c = left_more

pub returns-clause-choices : goal.returns-clause-choices
returns-clause-choices c = choices_left
