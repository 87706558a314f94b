use Rattle.model.proofs.Sessions.{each_once, never_new}
use Rattle.model.proofs.Kept.{repeat_kept}
use Rattle.model.proofs.Records.{sessions_fresh, sessions_after, due_is}
use Rattle.model.proofs.sessions_stay.Goals as goal

pub returns-clause-start : goal.returns-clause-start
returns-clause-start c moment = sessions_fresh moment

pub returns-clause-runs : goal.returns-clause-runs
returns-clause-runs c state requests clients new has = sessions_after state requests clients new has

pub returns-clause-once : goal.returns-clause-once
returns-clause-once c state requests new = each_once state requests new

pub returns-clause-never_again : goal.returns-clause-never_again
returns-clause-never_again c state request requests new again = never_new state request requests new again

pub returns-clause-kept : goal.returns-clause-kept
returns-clause-kept c state request requests new few = repeat_kept state request requests new few

pub returns-clause-due : goal.returns-clause-due
returns-clause-due c state client number has = due_is state client number has
