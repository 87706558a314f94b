use Rattle.settling.proofs.Giving.{gives_first}
use Rattle.settling.proofs.file.GatheringFileDrive.give.Goals as goal

pub returns-then-not-is_due-clause-begun : goal.returns-then-not-is_due-clause-begun
returns-then-not-is_due-clause-begun c = gives_first _ _ _ _ c.note_begun.ensures.begun
