use Rattle.durability.proofs.OnJournals.{commit_advances}
use Rattle.udf.specs.Udf.{udf}
use Rattle.udf.proofs.Formats.{exact, bounded, distinct}
use Rattle.udf.proofs.laws.commits_advance.Goals as goal

pub returns : goal.returns
returns c = λ capacity volume before afterwards S request blocks mark once stands plan front. commit_advances udf capacity volume exact bounded distinct before afterwards S request blocks mark once stands plan front
