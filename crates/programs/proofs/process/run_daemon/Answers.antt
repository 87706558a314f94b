use Rattle.std.proofs.Common.{codes, inl}
use Rattle.programs.proofs.Telling.{refused_not, told_early}
use Rattle.programs.proofs.process.run_daemon.Goals as goal

pub returns-in-Err-clause-reports : goal.returns-in-Err-clause-reports
returns-in-Err-clause-reports g c least = inl (c.in-Err.ensures.unopened, told_early (codes "udfburnd") c.report.result c.in-Err.fault _ _ _ c.in-Err.ensures.refused c.in-Err.ensures.unreported c.report.ensures.status c.report.ensures.describes)

pub returns-in-Err-clause-described : goal.returns-in-Err-clause-described
returns-in-Err-clause-described g c done = refused_not c.report.result c.in-Err.fault c.report.ensures.status done
