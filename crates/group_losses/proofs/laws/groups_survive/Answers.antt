use Rattle.group_losses.proofs.Enduring.{group_survives}
use Rattle.group_losses.proofs.laws.groups_survive.Goals as goal

pub returns : goal.returns
returns c = group_survives
