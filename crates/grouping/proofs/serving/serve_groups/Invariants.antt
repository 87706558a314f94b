use Rattle.std.proofs.Common.{◌≡◌, ◌<◌, ◌≤◌, ℕ, List, Some}
use Rattle.request.specs.Frames.{IsIdle}
use Rattle.grouping.specs.Groups.{MaySettle}
use Rattle.engine.specs.Situation.{IsReady, seen_on}
use Rattle.grouping.specs.Streams.{ServingGroups}
use Rattle.grouping.proofs.serving.serve_groups.Given as goal

abbrev pub invariant-loop : goal.invariant-loop
invariant-loop g l = record {
  serving : ServingGroups l.frames
      (seen_on g.D.Drive l.fn.engine l.fn.drive) (g.D.Drive.gathering l.fn.drive)
      (seen_on g.D.Drive l.engine l.drive) (g.D.Drive.gathering l.drive)
      (g.R.Read.remaining l.fn.reader.stream) (g.R.Read.remaining l.reader.stream) (g.W.Write.contents l.fn.writer) (g.W.Write.contents l.writer);
  idle : IsIdle l.frames;
  goes : (waiting : List ℕ) × (l.frames ≡ Some waiting);
  some : 0 < l.room;
  fits : l.room ≤ l.fn.most;
  unfailed : l.reader.failures ≡ l.fn.reader.failures;
  ready : IsReady (seen_on g.D.Drive l.engine l.drive);
  lent : MaySettle g.D.Drive 0 l.fn.drive l.drive;
}
