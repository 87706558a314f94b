use Rattle.std.proofs.Common.{Some}
use Rattle.grouping.specs.Groups.{MaySettle}
use Rattle.engine.specs.Situation.{IsReady, seen_on}
use Rattle.engine.proofs.Messages.{left_of}
use Rattle.grouping.specs.Streams.{Grouping}
use Rattle.grouping.proofs.held.answer_groups_held.Given as goal

abbrev pub invariant-loop-alloc : goal.invariant-loop-alloc
invariant-loop-alloc g l = record {
  grouping : Grouping l.fn.frames l.frames
      (seen_on g.D.Drive l.fn.engine l.fn.drive) (g.D.Drive.gathering l.fn.drive)
      (seen_on g.D.Drive l.engine l.drive) (g.D.Drive.gathering l.drive)
      (Some l.fn.answers.items) (Some l.answers.items);
  ready : IsReady (seen_on g.D.Drive l.engine l.drive);
  lent : MaySettle g.D.Drive 0 l.fn.drive l.drive;
}

abbrev pub decreases-loop-alloc : goal.decreases-loop-alloc
decreases-loop-alloc g l = left_of l.frames
