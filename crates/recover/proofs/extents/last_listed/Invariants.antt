use Rattle.std.proofs.Common.{◌≡◌, IsTrue}
use Rattle.std.specs.Prelude.{IfSome}
use Rattle.drive.specs.Journal.{held}
use Rattle.drive.specs.Reads.{ReadsOnly}
use Rattle.recover.specs.Walk.{last_listed}
use Rattle.recover.proofs.LastExtent.{FitsExtent}
use Rattle.recover.proofs.Listed.{AreFrom, last_from}
use Rattle.recover.proofs.extents.last_listed.Given as goal

-- the blocks are as they should be if those that are left are, and the last of all is that of the extents that are left
abbrev pub invariant-loop-index : goal.invariant-loop-index
invariant-loop-index g l = record {
  are : IsTrue (g.D.Drive.honest l.drive) → AreFrom (held (g.D.Drive.journal l.fn.drive)) l.size l.descriptors l.index → AreFrom (held (g.D.Drive.journal l.fn.drive)) l.size l.descriptors 0;
  ends : IsTrue (g.D.Drive.honest l.drive) → last_from (held (g.D.Drive.journal l.fn.drive)) l.size l.descriptors l.last l.index ≡ last_listed (held (g.D.Drive.journal l.fn.drive)) l.size l.descriptors;
  fits : IfSome l.last FitsExtent;
  reads : ReadsOnly g.D.Drive 0 l.fn.drive l.drive;
}
