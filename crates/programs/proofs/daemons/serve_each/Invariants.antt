use Rattle.std.proofs.Common.{None, ◌-◌, ◌^◌}
use Rattle.engine.specs.Situation.{IsReady, seen_on, situation_on}
use Rattle.programs.specs.FaultLines.{said_on}
use Rattle.programs.specs.Listening.{heard_on}
use Rattle.programs.specs.Refusals.{ReportsFaults}
use Rattle.programs.proofs.Hearing.{Hearing}
use Rattle.programs.proofs.daemons.serve_each.Given as goal

abbrev pub invariant-loop-left : goal.invariant-loop-left
invariant-loop-left g l = record {
  hears : Hearing l.fn.connections l.left l.tries (heard_on g.L.Listener l.fn.listener) (heard_on g.L.Listener l.listener) (situation_on g.D.Drive None l.fn.drive) (g.D.Drive.gathering l.fn.drive)
      (seen_on g.D.Drive l.engine l.drive) (g.D.Drive.gathering l.drive);
  ready : IsReady (seen_on g.D.Drive l.engine l.drive);
  said : ReportsFaults (said_on g.E.Write l.fn.errors) (said_on g.E.Write l.errors);
}

abbrev pub decreases-loop-left : goal.decreases-loop-left
decreases-loop-left g l = 2 ^ 64 - 1 - l.tries
