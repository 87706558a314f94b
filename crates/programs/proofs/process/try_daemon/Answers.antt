use Rattle.programs.proofs.Telling.{told_refusal}
use Rattle.programs.proofs.process.try_daemon.Goals as goal

pub returns-clause-reports : goal.returns-clause-reports
returns-clause-reports g c least = told_refusal _ _ _ _ _ _ (c.daemon_on.ensures.reports least)
