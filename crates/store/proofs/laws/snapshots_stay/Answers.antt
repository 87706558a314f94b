use Rattle.store.proofs.Snapshots.{snapshots_stay}
use Rattle.store.proofs.laws.snapshots_stay.Goals as goal

pub returns : goal.returns
returns c = snapshots_stay
