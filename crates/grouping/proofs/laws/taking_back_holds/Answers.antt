use Rattle.grouping.proofs.Back.{taking_back}
use Rattle.grouping.proofs.laws.taking_back_holds.Goals as goal

pub returns : goal.returns
returns c = taking_back
