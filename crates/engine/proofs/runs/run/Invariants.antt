use Rattle.std.proofs.Common.{◌≤◌, None, length, take, vec_len}
use Rattle.std.specs.Vec.{vec_capacity}
use Rattle.drive.specs.Reads.{ReadsAndWrites}
use Rattle.engine.specs.Situation.{IsReady, seen_on, situation_on}
use Rattle.engine.specs.Delivered.{AllDelivered}
use Rattle.engine.proofs.runs.run.Given as goal

abbrev pub invariant-loop-delivery : goal.invariant-loop-delivery
invariant-loop-delivery g l = record {
  delivered : AllDelivered (take l.delivery-index l.deliveries)
      (situation_on g.D.Drive None l.fn.drive)
      l.answers.items
      (seen_on g.D.Drive l.engine l.drive);
  ready : IsReady (seen_on g.D.Drive l.engine l.drive);
  lent : ReadsAndWrites g.D.Drive 0 l.fn.drive l.drive;
  room : length l.deliveries ≤ vec_capacity l.answers;
  count : vec_len l.answers ≤ l.delivery-index;
}
