use Rattle.std.proofs.Common.{◌≡◌, ◌-◌, ◌≤◌, IsTrue}
use Rattle.std.specs.Prelude.{All}
use Rattle.drive.specs.Journal.{held}
use Rattle.drive.specs.Reads.{ReadsOnly}
use Rattle.dir.specs.Directory.{IsDirectory}
use Rattle.udf.specs.Udf.{IsBlock}
use Rattle.recover.specs.ReadCache.{IsKnown}
use Rattle.recover.specs.Nodes.{data_of}
use Rattle.recover.specs.Seen.{AreSeen}
use Rattle.recover.specs.Walk.{Begun, nodes_of}
use Rattle.recover.proofs.walk.Walk.+visit.Given as goal

abbrev pub invariant-loop-index : goal.invariant-loop-index
invariant-loop-index g l = record {
  begun : IsTrue (g.D.Drive.honest l.drive) → Begun (nodes_of (g.D.Drive.journal l.fn.drive) l.fn.self) l.fn.self l.self l.node l.dir.entries.entries l.index;
  at : l.self.at ≡ l.fn.self.at;
  entries : l.self.entries.now ≡ l.fn.self.entries.now;
  next_unique : l.self.next_unique ≡ l.fn.self.next_unique;
  more : l.fn.self.directories ≤ l.self.directories;
  counted : 1 ≤ l.self.directories;
  known : IsTrue (g.D.Drive.honest l.drive) → IsKnown (held (g.D.Drive.journal l.drive)) l.known;
  are : IsTrue (g.D.Drive.honest l.drive) → All IsBlock (data_of (held (g.D.Drive.journal l.fn.drive)) l.extent);
  is : IsTrue (g.D.Drive.honest l.drive) → IsDirectory l.dir.parent l.dir.entries.entries l.extent.first l.extent.size (data_of (held (g.D.Drive.journal l.fn.drive)) l.extent);
  seen : IsTrue (g.D.Drive.honest l.drive) → AreSeen (held (g.D.Drive.journal l.fn.drive)) l.dir.entries.entries l.files;
  reads : ReadsOnly g.D.Drive 0 l.fn.drive l.drive;
}

abbrev pub decreases-loop-index : goal.decreases-loop-index
decreases-loop-index g l = l.count - l.index

abbrev pub decreases-visit : goal.decreases-visit
decreases-visit g l = 17 - l.node.now.depth
