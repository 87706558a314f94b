use Rattle.durability.proofs.Mediums.{stands_both, past_both}
use Rattle.udf.specs.Udf.{udf}
use Rattle.udf.proofs.laws.blocks_are_appended.Goals as goal

pub returns-clause-recovers : goal.returns-clause-recovers
returns-clause-recovers c = stands_both udf

pub returns-clause-past : goal.returns-clause-past
returns-clause-past c = past_both udf
