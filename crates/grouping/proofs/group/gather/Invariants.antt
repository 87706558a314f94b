use Rattle.std.specs.Prelude.{Some}
use Rattle.drive.specs.Reads.{ReadsAndWrites}
use Rattle.engine.specs.Situation.{AddsBlocks, seen_on}
use Rattle.engine.proofs.Messages.{left_of}
use Rattle.grouping.specs.Groups.{CarriedOut}
use Rattle.grouping.proofs.group.gather.Given as goal

abbrev pub invariant-loop-message : goal.invariant-loop-message
invariant-loop-message g l = record {
  going : CarriedOut l.fn.frames l.frames
      (seen_on g.D.Drive l.fn.engine l.fn.drive)
      (seen_on g.D.Drive l.engine l.drive)
      (Some l.fn.answers.items) (Some l.answers.items) l.marks.items;
  follows : AddsBlocks (seen_on g.D.Drive l.fn.engine l.fn.drive) (seen_on g.D.Drive l.engine l.drive);
  lent : ReadsAndWrites g.D.Drive 0 l.fn.drive l.drive;
}

abbrev pub decreases-loop-message : goal.decreases-loop-message
decreases-loop-message g l = left_of l.frames
