use Rattle.icb.proofs.VatIcbs.{one_entry}
use Rattle.icb.proofs.laws.one_entry.Goals as goal

pub returns : goal.returns
returns c = one_entry
