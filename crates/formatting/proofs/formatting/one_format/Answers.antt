use Rattle.formatting.proofs.NewVolumes.{one_format}
use Rattle.formatting.proofs.formatting.one_format.Goals as goal

pub returns : goal.returns
returns c = one_format
