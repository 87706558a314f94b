use Rattle.dir.proofs.Sizes.{data_sized}
use Rattle.dir.proofs.laws.data_is_sized.Goals as goal

pub returns : goal.returns
returns c = data_sized
