use Rattle.std.proofs.Common.{◌≡◌, ◌∙◌, ℕ, ◌++◌, [], ◌∷◌, true, false, is_some, sym, ap, subst, refl, Option, Some, None}
use Rattle.std.specs.FinMap.{get}
use Rattle.std.proofs.lemmas.Bool.{false≢true}
use Rattle.model.specs.Graph.{Graph}
use Rattle.model.specs.Operation.{moves_too_deep}
use Rattle.model.specs.Operation.Operation.{Rename}
use Rattle.model.specs.Tree.{Path, Tree}
use Rattle.request.specs.declared.answer.Code.TheVariants as code
use Rattle.recover.specs.declared.node.Node.{Node}
use Rattle.udf.specs.Said.{names_directory}
use Rattle.lookup.specs.Lookups.{Looks, Sees, free_seen, graph_seen}
use Rattle.lookup.specs.Shows.{IsFound, IsFoundDirectory, IsNodeAt}
use Rattle.lookup.proofs.Finding.{child_between, directory_between, one_seen}
use Rattle.lookup.proofs.Heights.{has_at}
use Rattle.lookup.proofs.Looking.{directory_later, failed, graph_same, looks_failed, looks_none, looks_then, node_later, sees_before, sees_next}
use Rattle.lookup.proofs.Walks.{directory_stored}
use Rattle.planning.specs.Moves.{IsMoveWithin, IsBetween}
use Rattle.planning.proofs.Moving.{goes_into, rename_missing, rename_into, rename_nowhere, rename_exists, rename_deep, rename_beside, rename_elsewhere, same_path, same_address}
use Rattle.planning.proofs.Replacing.{change_seen, refuses}
use Rattle.planning.proofs.Removing.{nothing_under}
use Rattle.planning.proofs.before.StateBefore.rename.Given.{Over}
use Rattle.planning.proofs.before.StateBefore.rename.Goals.{In-Some-2, In-Some-3, In-Some-4, In_ok-there, In_ok-deep}
use Rattle.planning.proofs.before.StateBefore.rename.Goals as goal

no_node : (o : Option Node) → is_some o ≡ false → o ≡ None
no_node None e = refl
no_node (Some node) e = absurd (false≢true (sym e))

some_node : (o : Option Node) → is_some o ≡ true → (node : Node) × (o ≡ Some node)
some_node None e = absurd (false≢true e)
some_node (Some node) e = (node, refl)

-- ---- what was found, where these calls were followed by others

source_there : (g : Over) (c : In-Some-2 g) {n : ℕ} {z : _} → Looks g.D.Drive n c.find_directory.new.self z → (tree : Tree) → Sees g.D.Drive c.args.self.now.lookup z tree
    → IsNodeAt (graph_seen g.D.Drive c.args.self.now.lookup) c.in-Some.above.now c.in-Some-2.source_dir × (names_directory c.in-Some-2.source_dir.kind ≡ true)
source_there g c r tree s =
    subst (λ (o : Option Node). IsFoundDirectory (graph_seen g.D.Drive c.args.self.now.lookup) tree c.in-Some.above.now o) c.in-Some-2.is
    (directory_between tree c.in-Some.above.now c.in_ok-source_dir.field-0 looks_none c.in_ok-source_dir.ensures.looks r s c.in_ok-source_dir.ensures.found)

node_there : (g : Over) (c : In-Some-3 g) {n : ℕ} {z : _} → Looks g.D.Drive n c.child.new.self z → (tree : Tree) → Sees g.D.Drive c.args.self.now.lookup z tree
    → IsNodeAt (graph_seen g.D.Drive c.args.self.now.lookup) c.in-Some.above.now c.in-Some-2.source_dir × (names_directory c.in-Some-2.source_dir.kind ≡ true)
    → IsNodeAt (graph_seen g.D.Drive c.args.self.now.lookup) c.args.from.now c.in-Some-3.node
node_there g c r tree s source =
    let graph = graph_seen g.D.Drive c.args.self.now.lookup in
    let above = c.in-Some.above.now in
    let name = c.in-Some.old_name.now in
    let found = child_between tree above c.in-Some-2.source_dir name c.in_ok-node.field-0 c.in_ok-source_dir.ensures.looks c.in_ok-node.ensures.looks r s source.0 source.1 c.in_ok-node.ensures.found in
    subst (λ (p : Path). IsNodeAt graph p c.in-Some-3.node) (sym c.in-Some.ensures.cases.0) (subst (λ (o : Option Node). IsFound graph tree (above ++ name ∷ []) o) c.in-Some-3.is found)

target_there : (g : Over) (c : In-Some-4 g) {n : ℕ} {z : _} → Looks g.D.Drive n c.find_directory-2.new.self z → (tree : Tree) → Sees g.D.Drive c.args.self.now.lookup z tree
    → IsNodeAt (graph_seen g.D.Drive c.args.self.now.lookup) c.in-Some-split_last.beyond.now c.in-Some-4.target_dir × (names_directory c.in-Some-4.target_dir.kind ≡ true)
target_there g c r tree s =
    let p = looks_then {n = 0} c.in_ok-source_dir.ensures.looks c.in_ok-node.ensures.looks in
    subst (λ (o : Option Node). IsFoundDirectory (graph_seen g.D.Drive c.args.self.now.lookup) tree c.in-Some-split_last.beyond.now o) c.in-Some-4.is
    (directory_between tree c.in-Some-split_last.beyond.now c.in_ok-target_dir.field-0 p c.in_ok-target_dir.ensures.looks r s c.in_ok-target_dir.ensures.found)

new_there : (g : Over) (c : In_ok-there g) {n : ℕ} {z : _} → Looks g.D.Drive n c.child-2.new.self z → (tree : Tree) → Sees g.D.Drive c.args.self.now.lookup z tree
    → IsNodeAt (graph_seen g.D.Drive c.args.self.now.lookup) c.in-Some-split_last.beyond.now c.in-Some-4.target_dir × (names_directory c.in-Some-4.target_dir.kind ≡ true)
    → IsFound (graph_seen g.D.Drive c.args.self.now.lookup) tree c.args.to.now c.in_ok-there.there
new_there g c r tree s target =
    let graph = graph_seen g.D.Drive c.args.self.now.lookup in
    let p = looks_then {n = 0} c.in_ok-source_dir.ensures.looks (looks_then {n = 0} c.in_ok-node.ensures.looks c.in_ok-target_dir.ensures.looks) in
    subst (λ (p : Path). IsFound graph tree p c.in_ok-there.there) (sym c.in-Some-split_last.ensures.cases.0)
    (child_between tree c.in-Some-split_last.beyond.now c.in-Some-4.target_dir c.in-Some-split_last.new_name.now c.in_ok-there.there p c.in_ok-there.ensures.looks r s target.0 target.1 c.in_ok-there.ensures.found)

deep_there : (g : Over) (c : In_ok-deep g) {n : ℕ} {z : _} → Looks g.D.Drive n c.is_too_deep.new.self.lookup z → (tree : Tree) → Sees g.D.Drive c.args.self.now.lookup z tree
    → IsNodeAt (graph_seen g.D.Drive c.args.self.now.lookup) c.args.from.now c.in-Some-3.node → moves_too_deep c.args.from.now c.args.to.now tree ≡ c.in_ok-deep.deep
deep_there g c r tree s here =
    let p = looks_then {n = 0} c.in_ok-source_dir.ensures.looks (looks_then {n = 0} c.in_ok-node.ensures.looks (looks_then {n = 0} c.in_ok-target_dir.ensures.looks c.in_ok-there.ensures.looks)) in
    let q = c.in_ok-deep.ensures.looks in
    sym (c.in_ok-deep.ensures.deep tree c.args.from.now c.args.to.now (sees_next tree p q (sees_before c.args.self.now.lookup tree r s), node_later p here) refl refl)

-- ---- each way out

pub returns-in_err-source_dir-clause-does : goal.returns-in_err-source_dir-clause-does
returns-in_err-source_dir-clause-does g c tree identity s = failed c.from_residual.result _ _ _ c.from_residual.ensures.1 (c.in_err-source_dir.ensures.found tree s).1

pub returns-in_default-2-clause-does : goal.returns-in_default-2-clause-does
returns-in_default-2-clause-does g c tree identity s =
    let a = c.args.self.now.lookup in
    let graph = graph_seen g.D.Drive a in
    let from_is = c.in-Some.ensures.cases.0 in
    let to_is = c.in-Some-split_last.ensures.cases.0 in
    let none = subst (λ (o : Option Node). IsFoundDirectory graph tree c.in-Some.above.now o) c.in_default-2.is (c.in_ok-source_dir.ensures.found tree s).0 in (
      refuses graph (free_seen a) tree (Rename c.args.from.now c.args.to.now) c.args.moment identity 1 code.NotFound c.refused-in_default-2.result c.refused-in_default-2.ensures refl
          (rename_missing c.args.from.now c.args.to.now c.in-Some.above.now c.in-Some-split_last.beyond.now c.in-Some.old_name.now c.in-Some-split_last.new_name.now from_is to_is tree (nothing_under c.args.from.now c.in-Some.above.now c.in-Some.old_name.now from_is tree s.tree none)),
      tt,
    )

pub returns-in_err-node-clause-does : goal.returns-in_err-node-clause-does
returns-in_err-node-clause-does g c tree identity s =
    let p = c.in_ok-source_dir.ensures.looks in
    let q = c.in_err-node.ensures.looks in
    let source = source_there g (goal.at.returns-in_err-node-clause-does g c).In-Some-2 q tree s in
    let directory = directory_later p (record { node = c.in-Some-2.source_dir; there = source.0; directory = source.1; address_is = refl }) in
    failed c.from_residual-in_err-node.result _ _ _ c.from_residual-in_err-node.ensures.1 (c.in_err-node.ensures.found tree c.in-Some.above.now (sees_next tree p q s, directory)).1

pub returns-in_err-node-clause-looks : goal.returns-in_err-node-clause-looks
returns-in_err-node-clause-looks g c = looks_failed c.from_residual-in_err-node.result _ c.from_residual-in_err-node.ensures.1 (looks_then c.in_ok-source_dir.ensures.looks c.in_err-node.ensures.looks)

pub returns-in_default-3-clause-does : goal.returns-in_default-3-clause-does
returns-in_default-3-clause-does g c tree identity s =
    let a = c.args.self.now.lookup in
    let graph = graph_seen g.D.Drive a in
    let above = c.in-Some.above.now in
    let name = c.in-Some.old_name.now in
    let from_is = c.in-Some.ensures.cases.0 in
    let to_is = c.in-Some-split_last.ensures.cases.0 in
    let p = c.in_ok-source_dir.ensures.looks in
    let q = c.in_ok-node.ensures.looks in
    let source = source_there g (goal.at.returns-in_default-3-clause-does g c).In-Some-2 q tree s in
    let found = child_between tree above c.in-Some-2.source_dir name c.in_ok-node.field-0 p q looks_none s source.0 source.1 c.in_ok-node.ensures.found in
    let none = subst (λ (p : Path). get tree p ≡ None) (sym from_is) (subst (λ (o : Option Node). IsFound graph tree (above ++ name ∷ []) o) c.in_default-3.is found) in (
      refuses graph (free_seen a) tree (Rename c.args.from.now c.args.to.now) c.args.moment identity 1 code.NotFound c.refused-in_default-3.result c.refused-in_default-3.ensures refl
          (rename_missing c.args.from.now c.args.to.now above c.in-Some-split_last.beyond.now name c.in-Some-split_last.new_name.now from_is to_is tree none),
      tt,
    )

pub returns-in_default-3-clause-looks : goal.returns-in_default-3-clause-looks
returns-in_default-3-clause-looks g c = looks_then {n = 0} c.in_ok-source_dir.ensures.looks c.in_ok-node.ensures.looks

pub returns-then-is_below-clause-does : goal.returns-then-is_below-clause-does
returns-then-is_below-clause-does g c tree identity s =
    let a = c.args.self.now.lookup in
    let graph = graph_seen g.D.Drive a in
    let at = goal.at.returns-then-is_below-clause-does g c in
    let here = node_there g at.In-Some-3 looks_none tree s (source_there g at.In-Some-2 c.in_ok-node.ensures.looks tree s) in
    let has = has_at graph tree (one_seen a) s.tree s.makes c.args.from.now c.in-Some-3.node here in (
      refuses graph (free_seen a) tree (Rename c.args.from.now c.args.to.now) c.args.moment identity 5 code.IntoItself c.refused-then-is_below.result c.refused-then-is_below.ensures refl
          (rename_into c.args.from.now c.args.to.now c.in-Some.above.now c.in-Some-split_last.beyond.now c.in-Some.old_name.now c.in-Some-split_last.new_name.now c.in-Some.ensures.cases.0 c.in-Some-split_last.ensures.cases.0 tree has (sym c.is_below.ensures ∙ c.if-is_below.true)),
      tt,
    )

pub returns-then-is_below-clause-looks : goal.returns-then-is_below-clause-looks
returns-then-is_below-clause-looks g c = looks_then {n = 0} c.in_ok-source_dir.ensures.looks c.in_ok-node.ensures.looks

pub returns-in_err-target_dir-clause-does : goal.returns-in_err-target_dir-clause-does
returns-in_err-target_dir-clause-does g c tree identity s =
    let p = looks_then c.in_ok-source_dir.ensures.looks c.in_ok-node.ensures.looks in
    failed c.from_residual-in_err-target_dir.result _ _ _ c.from_residual-in_err-target_dir.ensures.1 (c.in_err-target_dir.ensures.found tree (sees_next tree p c.in_err-target_dir.ensures.looks s)).1

pub returns-in_err-target_dir-clause-looks : goal.returns-in_err-target_dir-clause-looks
returns-in_err-target_dir-clause-looks g c =
    looks_failed c.from_residual-in_err-target_dir.result _ c.from_residual-in_err-target_dir.ensures.1 (looks_then c.in_ok-source_dir.ensures.looks (looks_then c.in_ok-node.ensures.looks c.in_err-target_dir.ensures.looks))

pub returns-in_default-4-clause-does : goal.returns-in_default-4-clause-does
returns-in_default-4-clause-does g c tree identity s =
    let a = c.args.self.now.lookup in
    let graph = graph_seen g.D.Drive a in
    let beyond = c.in-Some-split_last.beyond.now in
    let at = goal.at.returns-in_default-4-clause-does g c in
    let q2 = c.in_ok-node.ensures.looks in
    let q3 = c.in_ok-target_dir.ensures.looks in
    let here = node_there g at.In-Some-3 q3 tree s (source_there g at.In-Some-2 (looks_then {n = 0} q2 q3) tree s) in
    let has = has_at graph tree (one_seen a) s.tree s.makes c.args.from.now c.in-Some-3.node here in
    let apart : goes_into c.args.from.now c.args.to.now ≡ false = sym c.is_below.ensures ∙ c.if-is_below.false in
    let none = subst (λ (o : Option Node). IsFoundDirectory graph tree beyond o) c.in_default-4.is
    (directory_between tree beyond c.in_ok-target_dir.field-0 (looks_then {n = 0} c.in_ok-source_dir.ensures.looks q2) q3 looks_none s c.in_ok-target_dir.ensures.found) in (
      refuses graph (free_seen a) tree (Rename c.args.from.now c.args.to.now) c.args.moment identity 0 code.NoParent c.refused-in_default-4.result c.refused-in_default-4.ensures refl
          (rename_nowhere c.args.from.now c.args.to.now c.in-Some.above.now beyond c.in-Some.old_name.now c.in-Some-split_last.new_name.now c.in-Some.ensures.cases.0 c.in-Some-split_last.ensures.cases.0 tree has apart none),
      tt,
    )

pub returns-in_default-4-clause-looks : goal.returns-in_default-4-clause-looks
returns-in_default-4-clause-looks g c = looks_then {n = 0} c.in_ok-source_dir.ensures.looks (looks_then {n = 0} c.in_ok-node.ensures.looks c.in_ok-target_dir.ensures.looks)

pub returns-in_err-there-clause-does : goal.returns-in_err-there-clause-does
returns-in_err-there-clause-does g c tree identity s =
    let p = looks_then c.in_ok-source_dir.ensures.looks (looks_then c.in_ok-node.ensures.looks c.in_ok-target_dir.ensures.looks) in
    let q = c.in_err-there.ensures.looks in
    let target = target_there g (goal.at.returns-in_err-there-clause-does g c).In-Some-4 q tree s in
    let directory = directory_later p (record { node = c.in-Some-4.target_dir; there = target.0; directory = target.1; address_is = refl }) in
    failed c.from_residual-in_err-there.result _ _ _ c.from_residual-in_err-there.ensures.1 (c.in_err-there.ensures.found tree c.in-Some-split_last.beyond.now (sees_next tree p q s, directory)).1

pub returns-in_err-there-clause-looks : goal.returns-in_err-there-clause-looks
returns-in_err-there-clause-looks g c =
    looks_failed c.from_residual-in_err-there.result _ c.from_residual-in_err-there.ensures.1
    (looks_then c.in_ok-source_dir.ensures.looks (looks_then c.in_ok-node.ensures.looks (looks_then c.in_ok-target_dir.ensures.looks c.in_err-there.ensures.looks)))

pub returns-then-is_some-clause-does : goal.returns-then-is_some-clause-does
returns-then-is_some-clause-does g c tree identity s =
    let a = c.args.self.now.lookup in
    let graph = graph_seen g.D.Drive a in
    let at = goal.at.returns-then-is_some-clause-does g c in
    let q4 = c.in_ok-there.ensures.looks in
    let q3 = looks_then {n = 0} c.in_ok-target_dir.ensures.looks q4 in
    let q2 = looks_then {n = 0} c.in_ok-node.ensures.looks q3 in
    let here = node_there g at.In-Some-3 q3 tree s (source_there g at.In-Some-2 q2 tree s) in
    let has = has_at graph tree (one_seen a) s.tree s.makes c.args.from.now c.in-Some-3.node here in
    let apart : goes_into c.args.from.now c.args.to.now ≡ false = sym c.is_below.ensures ∙ c.if-is_below.false in
    let target = target_there g at.In-Some-4 q4 tree s in
    let directory = directory_stored graph tree (one_seen a) s.tree s.makes c.in-Some-split_last.beyond.now c.in-Some-4.target_dir target.0 ∙ target.1 in
    let other = some_node c.in_ok-there.there (sym c.is_some.ensures ∙ c.if-is_some.true) in
    let taken = subst (λ (o : Option Node). IsFound graph tree c.args.to.now o) other.1 (new_there g at.In_ok-there looks_none tree s target) in (
      refuses graph (free_seen a) tree (Rename c.args.from.now c.args.to.now) c.args.moment identity 2 code.Exists c.refused-then-is_some.result c.refused-then-is_some.ensures refl
          (rename_exists c.args.from.now c.args.to.now c.in-Some.above.now c.in-Some-split_last.beyond.now c.in-Some.old_name.now c.in-Some-split_last.new_name.now c.in-Some.ensures.cases.0 c.in-Some-split_last.ensures.cases.0 tree has apart directory
          (has_at graph tree (one_seen a) s.tree s.makes c.args.to.now other.0 taken)),
      tt,
    )

pub returns-then-is_some-clause-looks : goal.returns-then-is_some-clause-looks
returns-then-is_some-clause-looks g c = looks_then {n = 0} c.in_ok-source_dir.ensures.looks (looks_then {n = 0} c.in_ok-node.ensures.looks (looks_then {n = 0} c.in_ok-target_dir.ensures.looks c.in_ok-there.ensures.looks))

pub returns-in_err-deep-clause-does : goal.returns-in_err-deep-clause-does
returns-in_err-deep-clause-does g c tree identity s =
    let at = goal.at.returns-in_err-deep-clause-does g c in
    let q5 = c.in_err-deep.ensures.looks in
    let q3 = looks_then c.in_ok-target_dir.ensures.looks (looks_then c.in_ok-there.ensures.looks q5) in
    let p = looks_then c.in_ok-source_dir.ensures.looks (looks_then c.in_ok-node.ensures.looks (looks_then c.in_ok-target_dir.ensures.looks c.in_ok-there.ensures.looks)) in
    let here = node_there g at.In-Some-3 q3 tree s (source_there g at.In-Some-2 (looks_then c.in_ok-node.ensures.looks q3) tree s) in
    failed c.from_residual-in_err-deep.result _ _ _ c.from_residual-in_err-deep.ensures.1 (c.in_err-deep.ensures.short tree c.args.from.now (sees_next tree p q5 s, node_later p here))

pub returns-in_err-deep-clause-looks : goal.returns-in_err-deep-clause-looks
returns-in_err-deep-clause-looks g c =
    looks_failed c.from_residual-in_err-deep.result _ c.from_residual-in_err-deep.ensures.1
    (looks_then c.in_ok-source_dir.ensures.looks (looks_then c.in_ok-node.ensures.looks (looks_then c.in_ok-target_dir.ensures.looks (looks_then c.in_ok-there.ensures.looks c.in_err-deep.ensures.looks))))

pub returns-then-deep-clause-does : goal.returns-then-deep-clause-does
returns-then-deep-clause-does g c tree identity s =
    let a = c.args.self.now.lookup in
    let graph = graph_seen g.D.Drive a in
    let at = goal.at.returns-then-deep-clause-does g c in
    let q5 = c.in_ok-deep.ensures.looks in
    let q4 = looks_then {n = 0} c.in_ok-there.ensures.looks q5 in
    let q3 = looks_then {n = 0} c.in_ok-target_dir.ensures.looks q4 in
    let q2 = looks_then {n = 0} c.in_ok-node.ensures.looks q3 in
    let here = node_there g at.In-Some-3 q3 tree s (source_there g at.In-Some-2 q2 tree s) in
    let has = has_at graph tree (one_seen a) s.tree s.makes c.args.from.now c.in-Some-3.node here in
    let apart : goes_into c.args.from.now c.args.to.now ≡ false = sym c.is_below.ensures ∙ c.if-is_below.false in
    let target = target_there g at.In-Some-4 q4 tree s in
    let directory = directory_stored graph tree (one_seen a) s.tree s.makes c.in-Some-split_last.beyond.now c.in-Some-4.target_dir target.0 ∙ target.1 in
    let none = subst (λ (o : Option Node). IsFound graph tree c.args.to.now o) (no_node c.in_ok-there.there (sym c.is_some.ensures ∙ c.if-is_some.false)) (new_there g at.In_ok-there q5 tree s target) in
    let deep = deep_there g at.In_ok-deep looks_none tree s here ∙ c.if-deep.true in (
      refuses graph (free_seen a) tree (Rename c.args.from.now c.args.to.now) c.args.moment identity 7 code.TooDeep c.refused-then-deep.result c.refused-then-deep.ensures refl
          (rename_deep c.args.from.now c.args.to.now c.in-Some.above.now c.in-Some-split_last.beyond.now c.in-Some.old_name.now c.in-Some-split_last.new_name.now c.in-Some.ensures.cases.0 c.in-Some-split_last.ensures.cases.0 tree has apart directory none deep),
      tt,
    )

pub returns-then-deep-clause-looks : goal.returns-then-deep-clause-looks
returns-then-deep-clause-looks g c =
    looks_then {n = 0} c.in_ok-source_dir.ensures.looks (looks_then {n = 0} c.in_ok-node.ensures.looks (looks_then {n = 0} c.in_ok-target_dir.ensures.looks (looks_then {n = 0} c.in_ok-there.ensures.looks c.in_ok-deep.ensures.looks)))

pub returns-then-source_dir-target_dir-clause-does : goal.returns-then-source_dir-target_dir-clause-does
returns-then-source_dir-target_dir-clause-does g c tree identity s =
    let a = c.args.self.now.lookup in
    let graph = graph_seen g.D.Drive a in
    let at = goal.at.returns-then-source_dir-target_dir-clause-does g c in
    let q6 = c.rename_within.ensures.looks in
    let q5 = looks_then c.in_ok-deep.ensures.looks q6 in
    let q4 = looks_then c.in_ok-there.ensures.looks q5 in
    let q3 = looks_then c.in_ok-target_dir.ensures.looks q4 in
    let q2 = looks_then c.in_ok-node.ensures.looks q3 in
    let p = looks_then c.in_ok-source_dir.ensures.looks (looks_then c.in_ok-node.ensures.looks (looks_then c.in_ok-target_dir.ensures.looks (looks_then c.in_ok-there.ensures.looks c.in_ok-deep.ensures.looks))) in
    let from_is = c.in-Some.ensures.cases.0 in
    let to_is = c.in-Some-split_last.ensures.cases.0 in
    let source = source_there g at.In-Some-2 q2 tree s in
    let here = node_there g at.In-Some-3 q3 tree s source in
    let has = has_at graph tree (one_seen a) s.tree s.makes c.args.from.now c.in-Some-3.node here in
    let apart : goes_into c.args.from.now c.args.to.now ≡ false = sym c.is_below.ensures ∙ c.if-is_below.false in
    let target = target_there g at.In-Some-4 q4 tree s in
    let directory = directory_stored graph tree (one_seen a) s.tree s.makes c.in-Some-split_last.beyond.now c.in-Some-4.target_dir target.0 ∙ target.1 in
    let none = subst (λ (o : Option Node). IsFound graph tree c.args.to.now o) (no_node c.in_ok-there.there (sym c.is_some.ensures ∙ c.if-is_some.false)) (new_there g at.In_ok-there q5 tree s target) in
    let deep = deep_there g at.In_ok-deep q6 tree s here ∙ c.if-deep.false in
    let same = same_path graph tree (one_seen a) s.tree s.makes c.in-Some.above.now c.in-Some-split_last.beyond.now c.in-Some-2.source_dir c.in-Some-4.target_dir source.0 target.0 c.if-source_dir-target_dir.true in
    let w : IsMoveWithin graph tree c.args.from.now c.args.to.now c.in-Some-2.source_dir c.in-Some.old_name.now c.in-Some-split_last.new_name.now = record {
      above = c.in-Some.above.now;
      from_is = from_is;
      to_is = to_is ∙ ap (λ (p : Path). p ++ c.in-Some-split_last.new_name.now ∷ []) (sym same);
      here = has;
      new_there = none;
      parent_at = source.0;
      directory = source.1;
      code_is = rename_beside c.args.from.now c.args.to.now c.in-Some.above.now c.in-Some-split_last.beyond.now c.in-Some.old_name.now c.in-Some-split_last.new_name.now from_is to_is tree has apart directory none deep same;
    } in
    let w5 = subst (λ (G : Graph). IsMoveWithin G tree c.args.from.now c.args.to.now c.in-Some-2.source_dir c.in-Some.old_name.now c.in-Some-split_last.new_name.now) (sym (graph_same p)) w in
    change_seen p c.rename_within.result tree (Rename c.args.from.now c.args.to.now) c.args.moment identity (c.rename_within.ensures.does tree c.args.from.now c.args.to.now identity (sees_next tree p q6 s) w5)

pub returns-then-source_dir-target_dir-clause-looks : goal.returns-then-source_dir-target_dir-clause-looks
returns-then-source_dir-target_dir-clause-looks g c =
    looks_then c.in_ok-source_dir.ensures.looks (looks_then c.in_ok-node.ensures.looks (looks_then c.in_ok-target_dir.ensures.looks (looks_then c.in_ok-there.ensures.looks (looks_then c.in_ok-deep.ensures.looks c.rename_within.ensures.looks))))

pub returns-clause-does : goal.returns-clause-does
returns-clause-does g c tree identity s =
    let a = c.args.self.now.lookup in
    let graph = graph_seen g.D.Drive a in
    let at = goal.at.returns-clause-does g c in
    let q6 = c.move_to.ensures.looks in
    let q5 = looks_then c.in_ok-deep.ensures.looks q6 in
    let q4 = looks_then c.in_ok-there.ensures.looks q5 in
    let q3 = looks_then c.in_ok-target_dir.ensures.looks q4 in
    let q2 = looks_then c.in_ok-node.ensures.looks q3 in
    let p = looks_then c.in_ok-source_dir.ensures.looks (looks_then c.in_ok-node.ensures.looks (looks_then c.in_ok-target_dir.ensures.looks (looks_then c.in_ok-there.ensures.looks c.in_ok-deep.ensures.looks))) in
    let from_is = c.in-Some.ensures.cases.0 in
    let to_is = c.in-Some-split_last.ensures.cases.0 in
    let source = source_there g at.In-Some-2 q2 tree s in
    let here = node_there g at.In-Some-3 q3 tree s source in
    let has = has_at graph tree (one_seen a) s.tree s.makes c.args.from.now c.in-Some-3.node here in
    let apart : goes_into c.args.from.now c.args.to.now ≡ false = sym c.is_below.ensures ∙ c.if-is_below.false in
    let target = target_there g at.In-Some-4 q4 tree s in
    let directory = directory_stored graph tree (one_seen a) s.tree s.makes c.in-Some-split_last.beyond.now c.in-Some-4.target_dir target.0 ∙ target.1 in
    let none = subst (λ (o : Option Node). IsFound graph tree c.args.to.now o) (no_node c.in_ok-there.there (sym c.is_some.ensures ∙ c.if-is_some.false)) (new_there g at.In_ok-there q5 tree s target) in
    let deep = deep_there g at.In_ok-deep q6 tree s here ∙ c.if-deep.false in
    let other = λ (same : c.in-Some.above.now ≡ c.in-Some-split_last.beyond.now). c.if-source_dir-target_dir.false (same_address graph tree (one_seen a) s.tree s.makes c.in-Some.above.now c.in-Some-split_last.beyond.now c.in-Some-2.source_dir c.in-Some-4.target_dir source.0 target.0 same) in
    let b : IsBetween graph tree c.args.from.now c.args.to.now c.in-Some-3.node c.in-Some-2.source_dir c.in-Some-4.target_dir c.in-Some.old_name.now c.in-Some-split_last.new_name.now = record {
      above = c.in-Some.above.now;
      beyond = c.in-Some-split_last.beyond.now;
      from_is = from_is;
      to_is = to_is;
      elsewhere = other;
      node_at = here;
      new_there = none;
      loses_at = source.0;
      loses_directory = source.1;
      gains_at = target.0;
      gains_directory = target.1;
      code_is = rename_elsewhere c.args.from.now c.args.to.now c.in-Some.above.now c.in-Some-split_last.beyond.now c.in-Some.old_name.now c.in-Some-split_last.new_name.now from_is to_is tree has apart directory none deep other;
    } in
    let b5 = subst (λ (G : Graph). IsBetween G tree c.args.from.now c.args.to.now c.in-Some-3.node c.in-Some-2.source_dir c.in-Some-4.target_dir c.in-Some.old_name.now c.in-Some-split_last.new_name.now) (sym (graph_same p)) b in
    change_seen p c.move_to.result tree (Rename c.args.from.now c.args.to.now) c.args.moment identity (c.move_to.ensures.does tree c.args.from.now c.args.to.now identity (sees_next tree p q6 s) b5)

pub returns-clause-looks : goal.returns-clause-looks
returns-clause-looks g c =
    looks_then c.in_ok-source_dir.ensures.looks (looks_then c.in_ok-node.ensures.looks (looks_then c.in_ok-target_dir.ensures.looks (looks_then c.in_ok-there.ensures.looks (looks_then c.in_ok-deep.ensures.looks c.move_to.ensures.looks))))
