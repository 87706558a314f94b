use Rattle.programs.proofs.Framing.{frames_are_messages}
use Rattle.programs.proofs.laws.frames_are_messages.Goals as goal

pub returns : goal.returns
returns c = frames_are_messages
