use Rattle.durability.proofs.Torn.{format_part, format_torn}
use Rattle.udf.specs.Udf.{udf}
use Rattle.udf.proofs.Formats.{exact, bounded, distinct}
use Rattle.udf.proofs.laws.torn_formats_stand.Goals as goal

pub returns-clause-part : goal.returns-clause-part
returns-clause-part c = λ capacity volume label moment blocks mark is writes left order cut. format_part udf distinct exact bounded capacity volume label moment blocks mark is writes left order cut

pub returns-clause-recovers : goal.returns-clause-recovers
returns-clause-recovers c = λ capacity volume label moment blocks mark is writes left are cut. format_torn udf distinct exact bounded capacity volume label moment blocks mark is writes left are cut
