use Rattle.std.proofs.Common.{subst, refl, Option, inl}
use Rattle.model.specs.Tree.{Path}
use Rattle.recover.specs.declared.node.Node.{Node}
use Rattle.lookup.specs.Lookups.{graph_seen}
use Rattle.lookup.specs.Shows.{IsFound}
use Rattle.lookup.proofs.lookup.Lookup.node.Goals as goal

pub returns-in-Some-clause-found : goal.returns-in-Some-clause-found
returns-in-Some-clause-found g c tree s =
    let graph = graph_seen g.D.Drive c.args.self.now in
    let found = subst (λ (names : Path). IsFound graph tree names c.in_ok-node.field-0) c.names.ensures.names (c.in_ok-node.ensures.found tree s).0 in
    subst (λ (o : Option Node). IsFound graph tree c.args.path.now o) c.in-Some.is found

pub returns-in-None-clause-missing : goal.returns-in-None-clause-missing
returns-in-None-clause-missing g c tree s =
    let graph = graph_seen g.D.Drive c.args.self.now in
    let found = subst (λ (names : Path). IsFound graph tree names c.in_ok-node.field-0) c.names.ensures.names (c.in_ok-node.ensures.found tree s).0 in
    inl (refl, subst (λ (o : Option Node). IsFound graph tree c.args.path.now o) c.in-None.is found)
