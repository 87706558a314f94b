use Rattle.std.proofs.Common.{◌∙◌, sym, ap, subst, Option, Some}
use Rattle.model.specs.Tree.{found_directory}
use Rattle.recover.specs.declared.node.Node.{Node}
use Rattle.lookup.specs.Lookups.{graph_seen}
use Rattle.lookup.specs.Shows.{IsFound}
use Rattle.lookup.proofs.Looking.{failed}
use Rattle.lookup.proofs.Walks.{no_directory}
use Rattle.lookup.proofs.lookup.Lookup.find_directory.Goals as goal

pub returns-in_err-node-clause-found : goal.returns-in_err-node-clause-found
returns-in_err-node-clause-found g c tree s = failed c.from_residual.result _ _ _ c.from_residual.ensures.1 (c.in_err-node.ensures.found tree s).1

pub returns-in_default-clause-found : goal.returns-in_default-clause-found
returns-in_default-clause-found g c tree s =
    (ap found_directory (subst (λ (o : Option Node). IsFound (graph_seen g.D.Drive c.args.self.now) tree c.args.names.now o) c.in_default.is (c.in_ok-node.ensures.found tree s).0), tt)

pub returns-then-not-is_directory-clause-found : goal.returns-then-not-is_directory-clause-found
returns-then-not-is_directory-clause-found g c tree s =
    let J = g.D.Drive.journal c.args.self.now.drive.now in
    let found = subst (λ (o : Option Node). IsFound (graph_seen g.D.Drive c.args.self.now) tree c.args.names.now o) c.in-Some.is (c.in_ok-node.ensures.found tree s).0 in
    (no_directory c.args.self.now.nodes.vat_icb_address c.args.self.now.nodes.numbers.now J tree s.tree s.makes c.args.names.now (Some c.in-Some.node) found (sym c.is_directory.ensures ∙ c.if-not-is_directory.true), tt)

pub returns-clause-found : goal.returns-clause-found
returns-clause-found g c tree s =
    ((subst (λ (o : Option Node). IsFound (graph_seen g.D.Drive c.args.self.now) tree c.args.names.now o) c.in-Some.is (c.in_ok-node.ensures.found tree s).0, sym c.is_directory.ensures ∙ c.if-not-is_directory.false), tt)
