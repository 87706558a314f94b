use Rattle.std.proofs.Common.{arith}
use Rattle.durability.proofs.Needs.{planned_short}
use Rattle.durability.proofs.OnJournals.{torn_advances}
use Rattle.durability.proofs.Writes.{writes_short}
use Rattle.durability.proofs.Torn.{part_alike, mark_decides, commit_torn}
use Rattle.udf.specs.Udf.{udf, spelled_length}
use Rattle.udf.proofs.Formats.{exact, bounded, distinct, short}
use Rattle.udf.proofs.laws.torn_commits_move.Goals as goal

pub returns-clause-part : goal.returns-clause-part
returns-clause-part c = λ capacity volume medium S stands request blocks mark plan writes left order is. part_alike udf distinct exact bounded capacity volume medium S stands request blocks mark plan writes left order is

pub returns-clause-last : goal.returns-clause-last
returns-clause-last c = λ capacity volume medium S stands request blocks mark plan. mark_decides udf distinct exact bounded capacity volume medium S stands request blocks mark plan

pub returns-clause-moves : goal.returns-clause-moves
returns-clause-moves c = λ capacity volume medium S stands request blocks mark plan writes left are is. commit_torn udf distinct exact bounded capacity volume medium S stands request blocks mark plan writes left are is

pub returns-clause-short : goal.returns-clause-short
returns-clause-short c = λ capacity volume medium S stands request blocks mark plan writes left are is.
    omega (arith, writes_short blocks mark writes left are is, planned_short udf spelled_length short capacity volume exact bounded distinct medium S stands request blocks mark plan)

pub returns-clause-journal : goal.returns-clause-journal
returns-clause-journal c = λ capacity volume before afterwards S request blocks mark once stands plan writes left are is journal.
    torn_advances udf capacity volume exact bounded distinct before afterwards S request blocks mark once stands plan writes left are is journal
