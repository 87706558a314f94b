use Rattle.request.proofs.FrameLaws.{feeding}
use Rattle.request.proofs.laws.feeding_goes_on.Goals as goal

pub returns : goal.returns
returns c = λ bytes piece messages reader h. feeding messages bytes piece reader h
