use Rattle.std.proofs.Common.{rules}
use Rattle.programs.specs.FaultLines.{said_on}
use Rattle.programs.proofs.Hearing.{hearing_missed, hearing_more, hearing_new}
use Rattle.programs.proofs.Telling.{says_left, says_more, says_none}
use Rattle.programs.proofs.daemons.serve_each.Goals as goal

pub loop-left-init : goal.loop-left-init
loop-left-init g c =
    record { hears = hearing_new _ _ _ _ _ _ _ _ _ c.new-engine.ensures; ready = search rules; said = says_none _ }

pub loop-left-preserved-in_default : goal.loop-left-preserved-in_default
loop-left-preserved-in_default g c = record {
  hears = hearing_missed _ _ _ _ _ _ _ _ _ _ c.loop-left.invariant.hears c.in_default.ensures.none c.in_default.ensures.ended c.in_default.ensures.missed c.in_default.ensures.failed;
  ready = c.loop-left.invariant.ready;
  said = says_more _ (said_on g.E.Write c.loop-left.errors) _ c.loop-left.invariant.said c.tell_once.ensures;
}

pub loop-left-preserved : goal.loop-left-preserved
loop-left-preserved g c = record {
  hears = hearing_more c.serve_one-served.result _ _ _ _ _ _ _ _ _ _ _ _ _ _ _ c.loop-left.invariant.hears c.in-Ok.ensures.given c.in-Ok.ensures.ended c.in-Ok.ensures.found c.in-Ok.ensures.failed (c.serve_one-served.ensures.ends c.in-Ok.ensures.blank) (search rules);
  ready = c.serve_one-served.ensures.ready;
  said = says_left c.serve_one-served.result _ _ _ _ _ (said_on g.E.Write c.loop-left.errors) _ c.serve_one-served.ensures.left c.loop-left.invariant.said c.report.ensures.describes;
}
