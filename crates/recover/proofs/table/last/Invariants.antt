use Rattle.std.proofs.Common.{◌≤◌, IsTrue}
use Rattle.drive.specs.Journal.{held, next_of}
use Rattle.drive.specs.Reads.{ReadsOnly}
use Rattle.recover.specs.Tables.{HasNoneFrom}
use Rattle.recover.proofs.table.last.Given as goal

abbrev pub invariant-loop-left : goal.invariant-loop-left
invariant-loop-left g l = record {
  unseen : IsTrue (g.D.Drive.honest l.drive) → HasNoneFrom (held (g.D.Drive.journal l.fn.drive)) l.left;
  within : l.left ≤ next_of (g.D.Drive.journal l.fn.drive);
  reads : ReadsOnly g.D.Drive 0 l.fn.drive l.drive;
}

abbrev pub decreases-loop-left : goal.decreases-loop-left
decreases-loop-left g l = l.left
