use Rattle.request.proofs.FrameLaws.{taking}
use Rattle.request.proofs.laws.taking_goes_on.Goals as goal

pub returns : goal.returns
returns c = λ bytes messages message reader after h t. taking messages bytes reader after message h t
