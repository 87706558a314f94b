use Rattle.std.proofs.Common.{◌∙◌, sym, subst, refl, Option, take, ◌++◌, ◌∷◌, []}
use Rattle.std.proofs.lemmas.List.{take_all}
use Rattle.model.specs.Tree.{Path}
use Rattle.recover.specs.declared.node.Node.{Node}
use Rattle.lookup.specs.Lookups.{graph_seen}
use Rattle.lookup.specs.Shows.{IsFound, IsNodeAt}
use Rattle.lookup.proofs.Looking.{directory_later, failed, found_seen, looks_failed, looks_none, looks_then, sees_before, sees_next}
use Rattle.lookup.proofs.Walks.{file_at, next_none, next_some, root_at}
use Rattle.lookup.proofs.lookup.Lookup.find.Goals as goal

pub loop-name-init : goal.loop-name-init
loop-name-init g c = record {
  looks = looks_none;
  found = λ tree s. root_at c.args.self.now.nodes.vat_icb_address c.args.self.now.nodes.numbers.now (g.D.Drive.journal c.args.self.now.drive.now) tree s.tree s.makes c.args.names.now s.root;
}

pub returns-then-not-is_directory-clause-found : goal.returns-then-not-is_directory-clause-found
returns-then-not-is_directory-clause-found g c tree s =
    (file_at c.args.self.now.nodes.vat_icb_address c.args.self.now.nodes.numbers.now (g.D.Drive.journal c.args.self.now.drive.now) tree s.tree s.makes c.args.names.now c.loop-name.name-index c.name-item.result c.loop-name.node c.loop-name-test.true c.name-item.is (c.loop-name.invariant.found tree s) (sym c.is_directory.ensures ∙ c.if-not-is_directory.true), tt)

pub returns-in_err-child-clause-looks : goal.returns-in_err-child-clause-looks
returns-in_err-child-clause-looks g c = looks_failed c.from_residual.result _ c.from_residual.ensures.1 (looks_then c.loop-name.invariant.looks c.in_err-child.ensures.looks)

pub returns-in_err-child-clause-found : goal.returns-in_err-child-clause-found
returns-in_err-child-clause-found g c tree s =
    let p = c.loop-name.invariant.looks in
    let q = c.in_err-child.ensures.looks in
    let here = c.loop-name.invariant.found tree (sees_before c.args.self.now tree q s) in
    let directory = directory_later p (record { node = c.loop-name.node; there = here; directory = sym c.is_directory.ensures ∙ c.if-not-is_directory.false; address_is = refl }) in
    failed c.from_residual.result _ _ _ c.from_residual.ensures.1 (c.in_err-child.ensures.found tree (take c.loop-name.name-index c.args.names.now) (sees_next tree p q s, directory)).1

pub returns-in-None-clause-looks : goal.returns-in-None-clause-looks
returns-in-None-clause-looks g c = looks_then c.loop-name.invariant.looks c.in_ok-child.ensures.looks

pub returns-in-None-clause-found : goal.returns-in-None-clause-found
returns-in-None-clause-found g c tree s =
    let p = c.loop-name.invariant.looks in
    let q = c.in_ok-child.ensures.looks in
    let front = take c.loop-name.name-index c.args.names.now in
    let here = c.loop-name.invariant.found tree (sees_before c.args.self.now tree q s) in
    let directory = directory_later p (record { node = c.loop-name.node; there = here; directory = sym c.is_directory.ensures ∙ c.if-not-is_directory.false; address_is = refl }) in
    let found = found_seen tree (front ++ c.name-item.result ∷ []) c.in_ok-child.field-0 p (c.in_ok-child.ensures.found tree front (sees_next tree p q s, directory)).0 in
    let none = subst (λ (o : Option Node). IsFound (graph_seen g.D.Drive c.args.self.now) tree (front ++ c.name-item.result ∷ []) o) c.in-None.is found in
    (next_none c.args.self.now.nodes.vat_icb_address c.args.self.now.nodes.numbers.now (g.D.Drive.journal c.args.self.now.drive.now) tree s.tree s.makes c.args.names.now c.loop-name.name-index c.name-item.result c.loop-name-test.true c.name-item.is none, tt)

pub loop-name-preserved : goal.loop-name-preserved
loop-name-preserved g c =
    let p = c.loop-name.invariant.looks in
    let q = c.in_ok-child.ensures.looks in
    record {
      looks = looks_then p q;
      found = λ tree s.
          let front = take c.loop-name.name-index c.args.names.now in
          let here = c.loop-name.invariant.found tree (sees_before c.args.self.now tree q s) in
          let directory = directory_later p (record { node = c.loop-name.node; there = here; directory = sym c.is_directory.ensures ∙ c.if-not-is_directory.false; address_is = refl }) in
          let found = found_seen tree (front ++ c.name-item.result ∷ []) c.in_ok-child.field-0 p (c.in_ok-child.ensures.found tree front (sees_next tree p q s, directory)).0 in
          let there = subst (λ (o : Option Node). IsFound (graph_seen g.D.Drive c.args.self.now) tree (front ++ c.name-item.result ∷ []) o) c.in-Some.is found in
          next_some c.args.self.now.nodes.vat_icb_address c.args.self.now.nodes.numbers.now (g.D.Drive.journal c.args.self.now.drive.now) tree s.tree s.makes c.args.names.now c.loop-name.name-index c.name-item.result c.in-Some.child c.loop-name-test.true c.name-item.is there;
    }

pub returns-clause-found : goal.returns-clause-found
returns-clause-found g c tree s =
    (subst (λ (p : Path). IsNodeAt (graph_seen g.D.Drive c.args.self.now) p c.loop-name.node) (take_all c.loop-name.name-index c.args.names.now c.loop-name-test.false) (c.loop-name.invariant.found tree s), tt)
