use Rattle.durability.proofs.Formatted.{none_before, format_stands}
use Rattle.udf.specs.Udf.{udf}
use Rattle.udf.proofs.Formats.{exact}
use Rattle.udf.proofs.laws.formats_stand.Goals as goal

pub returns-clause-before : goal.returns-clause-before
returns-clause-before c = λ capacity volume label moment blocks mark is. none_before udf capacity volume label moment blocks mark is

pub returns-clause-recovers : goal.returns-clause-recovers
returns-clause-recovers c = λ capacity volume label moment blocks mark is. format_stands udf capacity volume label moment blocks mark is exact
