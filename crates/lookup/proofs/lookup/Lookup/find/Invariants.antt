use Rattle.std.proofs.Common.{take}
use Rattle.model.specs.Tree.{Tree}
use Rattle.lookup.specs.Lookups.{Looks, Sees, graph_seen}
use Rattle.lookup.specs.Shows.{IsNodeAt}
use Rattle.lookup.proofs.lookup.Lookup.find.Given as goal

-- the node so far is what the names so far lead to
abbrev pub invariant-loop-name : goal.invariant-loop-name
invariant-loop-name g l = record {
  looks : Looks g.D.Drive 0 l.fn.self l.self;
  found : (tree : Tree) → Sees g.D.Drive l.fn.self l.self tree → IsNodeAt (graph_seen g.D.Drive l.fn.self) (take l.name-index l.names) l.node;
}
