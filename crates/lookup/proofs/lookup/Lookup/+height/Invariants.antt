use Rattle.std.proofs.Common.{◌≤◌, IsTrue}
use Rattle.model.specs.Tree.{Path, Tree}
use Rattle.lookup.specs.Heights.{IsHeightSoFar}
use Rattle.lookup.specs.Lookups.{Looks, SeesDirectory}
use Rattle.lookup.proofs.lookup.Lookup.+height.Given as goal

abbrev pub decreases-height : goal.decreases-height
decreases-height g l = l.left

-- the names so far
abbrev pub invariant-loop-index : goal.invariant-loop-index
invariant-loop-index g l = record {
  bound : l.most ≤ l.left;
  still : IsTrue (g.D.Drive.honest l.self.drive.now) → IsTrue (g.D.Drive.honest l.initial.self.drive.now);
  looks : Looks g.D.Drive 0 l.fn.self l.self;
  height : (tree : Tree) (path : Path) → SeesDirectory g.D.Drive l.fn.self l.self tree path l.address → IsHeightSoFar tree path l.left l.content.dir.entries.entries l.index l.most;
}
