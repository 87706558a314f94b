use Rattle.volume.proofs.Begins.{front_is_no_entry}
use Rattle.volume.proofs.laws.front_is_no_entry.Goals as goal

pub returns : goal.returns
returns c = front_is_no_entry
