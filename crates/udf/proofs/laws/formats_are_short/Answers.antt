use Rattle.udf.proofs.Formats.{short}
use Rattle.udf.proofs.laws.formats_are_short.Goals as goal

pub returns : goal.returns
returns c = short
