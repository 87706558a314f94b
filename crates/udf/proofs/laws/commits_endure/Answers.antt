use Rattle.durability.specs.Commit.{need}
use Rattle.durability.proofs.Needs.{planned_short}
use Rattle.durability.proofs.Torn.{endures, answered_endure, torn_runs}
use Rattle.udf.specs.Udf.{udf, spelled_length}
use Rattle.udf.proofs.Formats.{exact, bounded, distinct, short}
use Rattle.udf.proofs.laws.commits_endure.Goals as goal

pub returns-clause-answered : goal.returns-clause-answered
returns-clause-answered c = λ capacity volume answered others medium S before writes left stands whole others_are is.
    answered_endure udf distinct exact bounded capacity volume answered others medium S before writes left stands whole others_are is

pub returns-clause-turns : goal.returns-clause-turns
returns-clause-turns c = λ capacity volume requests medium S done afterwards stands tries. endures udf distinct exact bounded capacity volume requests medium S done afterwards stands tries

pub returns-clause-runs : goal.returns-clause-runs
returns-clause-runs c = λ drive volume S before afterwards deliveries answers committed S' runs stands request blocks mark plan new room writes left are is.
    torn_runs udf distinct exact bounded drive volume (need spelled_length) deliveries S before answers committed afterwards S' runs stands request blocks mark plan new
    (planned_short udf spelled_length short drive volume exact bounded distinct afterwards S' stands request blocks mark plan) room writes left are is
