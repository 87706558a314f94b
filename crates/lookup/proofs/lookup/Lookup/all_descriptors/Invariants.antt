use Rattle.std.proofs.Common.{IsTrue}
use Rattle.lookup.specs.Lookups.{Looks, below_seen}
use Rattle.lookup.proofs.AllDescriptors.{Gathers}
use Rattle.lookup.proofs.lookup.Lookup.all_descriptors.Given as goal

-- the descriptors of the blocks so far
abbrev pub invariant-loop-number : goal.invariant-loop-number
invariant-loop-number g l = record {
  looks : Looks g.D.Drive 0 l.fn.self l.self;
  gathers : Gathers (IsTrue (g.D.Drive.honest l.self.drive.now)) (below_seen g.D.Drive l.fn.self) l.size l.first l.number l.descriptors l.all.items;
}
