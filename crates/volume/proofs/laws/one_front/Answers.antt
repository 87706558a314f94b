use Rattle.volume.proofs.FrontLaws.{one_front_block}
use Rattle.volume.proofs.laws.one_front.Goals as goal

pub returns : goal.returns
returns c = one_front_block
