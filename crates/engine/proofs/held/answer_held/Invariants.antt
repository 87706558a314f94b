use Rattle.std.specs.Prelude.{Some}
use Rattle.drive.specs.Reads.{ReadsAndWrites}
use Rattle.engine.specs.Situation.{IsReady, seen_on}
use Rattle.engine.specs.Served.{Answering}
use Rattle.engine.proofs.Messages.{left_of}
use Rattle.engine.proofs.held.answer_held.Given as goal

abbrev pub invariant-loop-message : goal.invariant-loop-message
invariant-loop-message g l = record {
  answering : Answering l.fn.frames l.frames
      (seen_on g.D.Drive l.fn.engine l.fn.drive)
      (seen_on g.D.Drive l.engine l.drive)
      (Some l.fn.answers.items) (Some l.answers.items);
  ready : IsReady (seen_on g.D.Drive l.engine l.drive);
  lent : ReadsAndWrites g.D.Drive 0 l.fn.drive l.drive;
}

abbrev pub decreases-loop-message : goal.decreases-loop-message
decreases-loop-message g l = left_of l.frames
