use Rattle.std.proofs.Common.{codes}
use Rattle.programs.proofs.Telling.{told_early, told_refused}
use Rattle.programs.proofs.process.run_command.Goals as goal

pub returns-in-Err-clause-reports : goal.returns-in-Err-clause-reports
returns-in-Err-clause-reports g c = told_refused (codes "udfburn") c.report.result c.in-Err.fault _ _ _ c.in-Err.ensures.unreported c.report.ensures.status c.report.ensures.describes

pub returns-in-Err-clause-early : goal.returns-in-Err-clause-early
returns-in-Err-clause-early g c = told_early (codes "udfburn") c.report.result c.in-Err.fault _ _ _ c.in-Err.ensures.refused c.in-Err.ensures.unreported c.report.ensures.status c.report.ensures.describes
