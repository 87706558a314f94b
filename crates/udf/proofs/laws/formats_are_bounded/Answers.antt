use Rattle.udf.proofs.Formats.{bounded}
use Rattle.udf.proofs.laws.formats_are_bounded.Goals as goal

pub returns : goal.returns
returns c = bounded
