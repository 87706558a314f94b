use Rattle.std.proofs.Common.{◌≡◌, ◌∙◌, [], ◌∷◌, ◌++◌, Bool, if◌then◌else◌, List, None, Option, Some, refl, sym, ap, subst}
use Rattle.std.specs.FinMap.{get}
use Rattle.model.specs.Operation.Operation.{Remove}
use Rattle.model.specs.Tree.{Path}
use Rattle.request.specs.declared.answer.Code.TheVariants as code
use Rattle.recover.specs.declared.node.Node.{Node}
use Rattle.lookup.specs.Lookups.{free_seen, graph_seen}
use Rattle.lookup.specs.Shows.{IsFound, IsFoundDirectory, IsNodeAt}
use Rattle.lookup.proofs.Finding.{child_between, directory_between, one_seen, opened_between, stored_between}
use Rattle.lookup.proofs.Heights.{distinct_opened}
use Rattle.lookup.proofs.Looking.{directory_later, failed, looks_failed, looks_none, looks_then, sees_before, sees_next, sound, sound_before}
use Rattle.planning.specs.declared.change.Change.{Change}
use Rattle.planning.specs.declared.change.NewDirectory.{NewDirectory}
use Rattle.planning.proofs.Removing.{nothing_under, remove_missing, remove_there, removes}
use Rattle.planning.proofs.Replacing.{refuses}
use Rattle.planning.proofs.before.StateBefore.remove.Goals as goal

pub returns-in_err-parent-clause-does : goal.returns-in_err-parent-clause-does
returns-in_err-parent-clause-does g c tree identity s = failed c.from_residual.result _ _ _ c.from_residual.ensures.1 (c.in_err-parent.ensures.found tree s).1

pub returns-in_default-2-clause-does : goal.returns-in_default-2-clause-does
returns-in_default-2-clause-does g c tree identity s =
    let a = c.args.self.now.lookup in
    let graph = graph_seen g.D.Drive a in
    let path = c.args.names.now in
    let above = c.in-Some.above.now in
    let split = c.in-Some.ensures.cases.0 in
    let none = subst (λ (o : Option Node). IsFoundDirectory graph tree above o) c.in_default-2.is (c.in_ok-parent.ensures.found tree s).0 in (
      refuses graph (free_seen a) tree (Remove path) c.args.moment identity 1 code.NotFound c.refused-in_default-2.result c.refused-in_default-2.ensures refl
          (remove_missing path above c.in-Some.name.now split tree (nothing_under path above c.in-Some.name.now split tree s.tree none)),
      tt,
    )

pub returns-in_err-node-clause-does : goal.returns-in_err-node-clause-does
returns-in_err-node-clause-does g c tree identity s =
    let a = c.args.self.now.lookup in
    let above = c.in-Some.above.now in
    let p = c.in_ok-parent.ensures.looks in
    let q = c.in_err-node.ensures.looks in
    let up = subst (λ (o : Option Node). IsFoundDirectory (graph_seen g.D.Drive a) tree above o) c.in-Some-2.is (c.in_ok-parent.ensures.found tree (sees_before a tree q s)).0 in
    let directory = directory_later p (record { node = c.in-Some-2.parent; there = up.0; directory = up.1; address_is = refl }) in
    failed c.from_residual-in_err-node.result _ _ _ c.from_residual-in_err-node.ensures.1 (c.in_err-node.ensures.found tree above (sees_next tree p q s, directory)).1

pub returns-in_err-node-clause-looks : goal.returns-in_err-node-clause-looks
returns-in_err-node-clause-looks g c = looks_failed c.from_residual-in_err-node.result _ c.from_residual-in_err-node.ensures.1 (looks_then c.in_ok-parent.ensures.looks c.in_err-node.ensures.looks)

pub returns-in_default-3-clause-does : goal.returns-in_default-3-clause-does
returns-in_default-3-clause-does g c tree identity s =
    let a = c.args.self.now.lookup in
    let graph = graph_seen g.D.Drive a in
    let path = c.args.names.now in
    let above = c.in-Some.above.now in
    let name = c.in-Some.name.now in
    let split = c.in-Some.ensures.cases.0 in
    let p = c.in_ok-parent.ensures.looks in
    let q = c.in_ok-node.ensures.looks in
    let up = subst (λ (o : Option Node). IsFoundDirectory graph tree above o) c.in-Some-2.is (c.in_ok-parent.ensures.found tree (sees_before a tree q s)).0 in
    let found = child_between tree above c.in-Some-2.parent name c.in_ok-node.field-0 p q looks_none s up.0 up.1 c.in_ok-node.ensures.found in
    let none = subst (λ (o : Option Node). IsFound graph tree (above ++ name ∷ []) o) c.in_default-3.is found in (
      refuses graph (free_seen a) tree (Remove path) c.args.moment identity 1 code.NotFound c.refused-in_default-3.result c.refused-in_default-3.ensures refl
          (remove_missing path above name split tree (subst (λ (p : Path). get tree p ≡ None) (sym split) none)),
      tt,
    )

pub returns-in_default-3-clause-looks : goal.returns-in_default-3-clause-looks
returns-in_default-3-clause-looks g c = looks_then {n = 0} c.in_ok-parent.ensures.looks c.in_ok-node.ensures.looks

pub returns-in_err-has_names-clause-does : goal.returns-in_err-has_names-clause-does
returns-in_err-has_names-clause-does g c tree identity s =
    let a = c.args.self.now.lookup in
    let graph = graph_seen g.D.Drive a in
    let above = c.in-Some.above.now in
    let name = c.in-Some.name.now in
    let q1 = c.in_ok-parent.ensures.looks in
    let q2 = c.in_ok-node.ensures.looks in
    let q3 = c.in_err-has_names.ensures.looks in
    let up = subst (λ (o : Option Node). IsFoundDirectory graph tree above o) c.in-Some-2.is (directory_between tree above c.in_ok-parent.field-0 looks_none q1 (looks_then q2 q3) s c.in_ok-parent.ensures.found) in
    let found = child_between tree above c.in-Some-2.parent name c.in_ok-node.field-0 q1 q2 q3 s up.0 up.1 c.in_ok-node.ensures.found in
    let here = subst (λ (o : Option Node). IsFound graph tree (above ++ name ∷ []) o) c.in-Some-3.is found in
    failed c.from_residual-in_err-has_names.result _ _ _ c.from_residual-in_err-has_names.ensures.1 (stored_between _ (above ++ name ∷ []) c.in-Some-3.node (looks_then q1 q2) q3 (sound s) here c.in_err-has_names.ensures.has).1

pub returns-in_err-has_names-clause-looks : goal.returns-in_err-has_names-clause-looks
returns-in_err-has_names-clause-looks g c =
    looks_failed c.from_residual-in_err-has_names.result _ c.from_residual-in_err-has_names.ensures.1 (looks_then c.in_ok-parent.ensures.looks (looks_then c.in_ok-node.ensures.looks c.in_err-has_names.ensures.looks))

pub returns-then-branch-clause-does : goal.returns-then-branch-clause-does
returns-then-branch-clause-does g c tree identity s =
    let a = c.args.self.now.lookup in
    let graph = graph_seen g.D.Drive a in
    let path = c.args.names.now in
    let above = c.in-Some.above.now in
    let name = c.in-Some.name.now in
    let split = c.in-Some.ensures.cases.0 in
    let q1 = c.in_ok-parent.ensures.looks in
    let q2 = c.in_ok-node.ensures.looks in
    let q3 = c.in_ok-has_names.ensures.looks in
    let up = subst (λ (o : Option Node). IsFoundDirectory graph tree above o) c.in-Some-2.is (directory_between tree above c.in_ok-parent.field-0 looks_none q1 (looks_then {n = 0} q2 q3) s c.in_ok-parent.ensures.found) in
    let found = child_between tree above c.in-Some-2.parent name c.in_ok-node.field-0 q1 q2 q3 s up.0 up.1 c.in_ok-node.ensures.found in
    let here = subst (λ (p : Path). IsNodeAt graph p c.in-Some-3.node) (sym split) (subst (λ (o : Option Node). IsFound graph tree (above ++ name ∷ []) o) c.in-Some-3.is found) in
    let has = (stored_between _ path c.in-Some-3.node (looks_then {n = 0} q1 q2) q3 (sound s) here c.in_ok-has_names.ensures.has).0 in (
      refuses graph (free_seen a) tree (Remove path) c.args.moment identity 4 code.NotEmpty c.refused-then-branch.result c.refused-then-branch.ensures refl
          (remove_there path above name split tree graph (one_seen a) s.tree s.makes c.in-Some-3.node here c.in_ok-has_names.field-0 has ∙ ap (λ (b : Bool). if b then 5 else 0) c.if-branch.true),
      tt,
    )

pub returns-then-branch-clause-looks : goal.returns-then-branch-clause-looks
returns-then-branch-clause-looks g c = looks_then {n = 0} c.in_ok-parent.ensures.looks (looks_then {n = 0} c.in_ok-node.ensures.looks c.in_ok-has_names.ensures.looks)

pub returns-in_err-take_name-clause-does : goal.returns-in_err-take_name-clause-does
returns-in_err-take_name-clause-does g c tree identity s =
    let a = c.args.self.now.lookup in
    let above = c.in-Some.above.now in
    let q1 = c.in_ok-parent.ensures.looks in
    let q2 = c.in_ok-node.ensures.looks in
    let q3 = c.in_ok-has_names.ensures.looks in
    let q4 = c.in_err-take_name.ensures.looks in
    let up = subst (λ (o : Option Node). IsFoundDirectory (graph_seen g.D.Drive a) tree above o) c.in-Some-2.is (directory_between tree above c.in_ok-parent.field-0 looks_none q1 (looks_then q2 (looks_then q3 q4)) s c.in_ok-parent.ensures.found) in
    failed c.from_residual-in_err-take_name.result _ _ _ c.from_residual-in_err-take_name.ensures.1 (opened_between _ above c.in-Some-2.parent (looks_then q1 (looks_then q2 q3)) q4 (sound s) up.0 up.1 c.in_err-take_name.ensures.taken).1

pub returns-in_err-take_name-clause-looks : goal.returns-in_err-take_name-clause-looks
returns-in_err-take_name-clause-looks g c =
    looks_failed c.from_residual-in_err-take_name.result _ c.from_residual-in_err-take_name.ensures.1
    (looks_then c.in_ok-parent.ensures.looks (looks_then c.in_ok-node.ensures.looks (looks_then c.in_ok-has_names.ensures.looks c.in_err-take_name.ensures.looks)))

pub returns-clause-does : goal.returns-clause-does
returns-clause-does g c tree identity s =
    let a = c.args.self.now.lookup in
    let graph = graph_seen g.D.Drive a in
    let one = one_seen a in
    let path = c.args.names.now in
    let above = c.in-Some.above.now in
    let name = c.in-Some.name.now in
    let split = c.in-Some.ensures.cases.0 in
    let parent = c.in-Some-2.parent in
    let node = c.in-Some-3.node in
    let q1 = c.in_ok-parent.ensures.looks in
    let q2 = c.in_ok-node.ensures.looks in
    let q3 = c.in_ok-has_names.ensures.looks in
    let q4 = c.in_ok-take_name.ensures.looks in
    let up = subst (λ (o : Option Node). IsFoundDirectory graph tree above o) c.in-Some-2.is (directory_between tree above c.in_ok-parent.field-0 looks_none q1 (looks_then {n = 0} q2 (looks_then {n = 0} q3 q4)) s c.in_ok-parent.ensures.found) in
    let found = child_between tree above parent name c.in_ok-node.field-0 q1 q2 (looks_then {n = 0} q3 q4) s up.0 up.1 c.in_ok-node.ensures.found in
    let here = subst (λ (p : Path). IsNodeAt graph p node) (sym split) (subst (λ (o : Option Node). IsFound graph tree (above ++ name ∷ []) o) c.in-Some-3.is found) in
    let has = (stored_between _ path node (looks_then {n = 0} q1 q2) q3 (sound_before q4 (sound s)) here c.in_ok-has_names.ensures.has).0 in
    let zero_code = remove_there path above name split tree graph one s.tree s.makes node here c.in_ok-has_names.field-0 has ∙ ap (λ (b : Bool). if b then 5 else 0) c.if-branch.false in
    let taken = (opened_between _ above parent (looks_then {n = 0} q1 (looks_then {n = 0} q2 q3)) q4 (sound s) up.0 up.1 c.in_ok-take_name.ensures.taken).0 in
    let distinct = distinct_opened graph tree one s.tree s.makes above parent up.0 taken.placed taken.content taken.shown in
    let done = c.new-change.ensures in
    let d = taken.written.0 in
    let is = taken.written.2 in
    let same = c.in_ok-take_name.ensures.same in
    let before = c.take_name.new.change in
    let change : Change = record { code = before.code; file = before.file; directories = before.directories; made = before.made; removed = Some node } in
    let items = taken.written.1 ∙ ap (λ (ds : List NewDirectory). ds ++ d ∷ []) done.directories in (
      removes graph one (free_seen a) c.args.moment identity path above name split tree s.tree s.makes parent up.0 taken.placed taken.content taken.shown distinct node here change d zero_code
          (same.code ∙ done.code) (same.made ∙ done.made) refl (same.file ∙ done.file) items is.address is.unique is.moment_is is.parent is.entries_are,
      tt,
    )

pub returns-clause-looks : goal.returns-clause-looks
returns-clause-looks g c = looks_then {n = 0} c.in_ok-parent.ensures.looks (looks_then {n = 0} c.in_ok-node.ensures.looks (looks_then {n = 0} c.in_ok-has_names.ensures.looks c.in_ok-take_name.ensures.looks))
