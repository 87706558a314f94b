use Rattle.programs.proofs.Telling.{says_none, says_unconnected}
use Rattle.programs.proofs.daemons.tell_once.Goals as goal

pub returns-then-is_told : goal.returns-then-is_told
returns-then-is_told g c = says_none _

pub returns : goal.returns
returns g c = says_unconnected _ _ c.report.ensures.describes
