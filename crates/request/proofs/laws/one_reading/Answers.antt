use Rattle.request.proofs.FrameLaws.{one_reading}
use Rattle.request.proofs.laws.one_reading.Goals as goal

pub returns : goal.returns
returns c = λ bytes messages others reader other h k.
    one_reading messages others bytes reader other h.messages_are h.idle k.messages_are k.idle
