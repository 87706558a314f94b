use Rattle.durability.proofs.Planned.{planned_carries}
use Rattle.durability.proofs.Needs.{planned_short}
use Rattle.udf.specs.Udf.{udf, spelled_length}
use Rattle.udf.proofs.Formats.{exact, bounded, distinct, short}
use Rattle.udf.proofs.laws.planned_blocks_carry.Goals as goal

pub returns-clause-carries : goal.returns-clause-carries
returns-clause-carries c = λ capacity volume medium S stands request blocks mark plan. planned_carries udf capacity volume exact distinct medium S stands bounded request blocks mark plan

pub returns-clause-short : goal.returns-clause-short
returns-clause-short c = λ capacity volume medium S stands request blocks mark plan. planned_short udf spelled_length short capacity volume exact bounded distinct medium S stands request blocks mark plan
