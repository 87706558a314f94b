use Rattle.udf.proofs.Formats.{distinct}
use Rattle.udf.proofs.laws.formats_are_distinct.Goals as goal

pub returns : goal.returns
returns c = distinct
