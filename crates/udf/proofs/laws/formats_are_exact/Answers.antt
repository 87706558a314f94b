use Rattle.udf.proofs.Formats.{exact}
use Rattle.udf.proofs.laws.formats_are_exact.Goals as goal

pub returns : goal.returns
returns c = exact
