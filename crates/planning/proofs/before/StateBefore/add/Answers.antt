use Rattle.std.proofs.Common.{rules, ◌≡◌, ◌∙◌, ℕ, ◌∷◌, [], not, Bool, true, false, List, Option, None, inr, refl, sym, ap, subst, is_some, length}
use denote.Enum.Bare.{same_true, true_same}
use Rattle.std.specs.Prelude.{nat_eq}
use Rattle.std.specs.Map.{lookup}
use Rattle.std.specs.FinMap.{len}
use Rattle.std.specs.Cmp.Lexicographic.{pointwise}
use Rattle.std.proofs.lemmas.Bool.{true≢false, le-ltb}
use Rattle.dir.specs.declared.entry.Entry.{Entry}
use Rattle.drive.specs.Journal.{held}
use Rattle.durability.specs.Plan.{Writing}
use Rattle.model.specs.Change.{new_body}
use Rattle.model.specs.Graph.{as_stored}
use Rattle.request.specs.Numbers.{code_number}
use Rattle.request.specs.contracts.answer.Code.{the_type}
use Rattle.request.specs.declared.answer.Code.TheVariants as code
use Rattle.table_update.specs.NextTable.{made_by}
use Rattle.recover.specs.declared.node.Node.{Node}
use Rattle.lookup.specs.Lookups.{free_seen, graph_seen}
use Rattle.lookup.specs.Shows.{IsFoundDirectory}
use Rattle.lookup.proofs.Finding.{one_seen, opened_between}
use Rattle.lookup.proofs.Looking.{free_same, lies_back, looks_failed, looks_keep, looks_short, looks_then, refused_by, sees_before, sees_kept, sound}
use Rattle.planning.specs.Changes.{addition, code_by_names, content_of_thing}
use Rattle.planning.proofs.Adding.{add_deep, add_nowhere, add_root, add_there, adds, put_last, unlisted_yet}
use Rattle.planning.proofs.Replacing.{refuses, refuses_other}
use Rattle.planning.proofs.before.StateBefore.add.Goals as goal

not_no : (b : Bool) → not b ≡ false → b ≡ true
not_no true e = refl
not_no false e = sym e

pub returns-in_err-placed-clause-short : goal.returns-in_err-placed-clause-short
returns-in_err-placed-clause-short g c tree s =
    let a = c.args.self.now.lookup in
    let p = c.in_ok-parent.ensures.looks in
    let q = c.in_err-placed.ensures.looks in
    let here = subst (λ (o : Option Node). IsFoundDirectory (graph_seen g.D.Drive a) tree c.in-Some.above.now o) c.in-Some-2.is (c.in_ok-parent.ensures.found tree (sees_before a tree q s)).0 in
    refused_by c.from_residual-in_err-placed.result _ _ c.from_residual-in_err-placed.ensures.1 (opened_between _ c.in-Some.above.now c.in-Some-2.parent p q (sound s) here.0 here.1 c.in_err-placed.ensures.opened).1

pub returns-in_err-placed-clause-looks : goal.returns-in_err-placed-clause-looks
returns-in_err-placed-clause-looks g c = looks_failed c.from_residual-in_err-placed.result _ c.from_residual-in_err-placed.ensures.1 (looks_then c.in_ok-parent.ensures.looks c.in_err-placed.ensures.looks)

pub returns-then-ne-clause-does : goal.returns-then-ne-clause-does
returns-then-ne-clause-does g c tree s few =
    let a = c.args.self.now.lookup in
    let graph = graph_seen g.D.Drive a in
    let above = c.in-Some.above.now in
    let p = c.in_ok-parent.ensures.looks in
    let q = c.in_ok-placed.ensures.looks in
    let s2 = sees_kept a tree c.keep.ensures s in
    let here = subst (λ (o : Option Node). IsFoundDirectory graph tree above o) c.in-Some-2.is (c.in_ok-parent.ensures.found tree (sees_before a tree q s2)).0 in
    let shown = (opened_between _ above c.in-Some-2.parent p q (sound s2) here.0 here.1 c.in_ok-placed.ensures.opened).0 in
    let listed = c.in_ok-placed.content.dir.entries.entries in
    let code_is = add_there c.args.names.now above c.in-Some.name.now c.in-Some.ensures.cases.0 c.args.thing tree graph (one_seen a) s.tree s.makes c.in-Some-2.parent here.0 here.1 c.in_ok-placed.placed c.in_ok-placed.content shown
    (le-ltb 16 (length c.args.names.now) c.if-names-gt-PATH_NAMES.false) in
    let same = c.code_of_addition-code.ensures.code ∙ (ap (λ (n : ℕ). code_by_names (is_some (lookup (pointwise nat_eq c.in-Some.name.now) listed)) (length listed) n) few ∙ sym code_is) in
    refuses_other graph (free_seen a) tree (addition c.args.names.now c.args.thing) c.args.moment c.args.self.now.next_unique c.code_of_addition-code.result c.refused-then-ne.result c.refused-then-ne.ensures
    (λ done. true≢false (sym c.if-ne.true ∙ (c.ne.ensures ∙ ap not (true_same the_type _ _ done)))) same

pub returns-then-ne-clause-looks : goal.returns-then-ne-clause-looks
returns-then-ne-clause-looks g c =
    let p = c.in_ok-parent.ensures.looks in
    let q = c.in_ok-placed.ensures.looks in
    looks_keep (looks_then {n = 0} p q) c.keep.ensures (lies_back p q c.in_ok-placed.ensures.lies)

pub returns-in_err-kind-clause-short : goal.returns-in_err-kind-clause-short
returns-in_err-kind-clause-short g c tree s = refused_by c.from_residual-in_err-kind.result _ _ c.from_residual-in_err-kind.ensures.1 (inr c.in_err-kind.ensures.memory)

pub returns-in_err-kind-clause-looks : goal.returns-in_err-kind-clause-looks
returns-in_err-kind-clause-looks g c = looks_short c.from_residual-in_err-kind.result _ c.from_residual-in_err-kind.ensures.1 c.in_err-kind.ensures.device (looks_then {n = 0} c.in_ok-parent.ensures.looks c.in_ok-placed.ensures.looks)

pub returns-in_err-put_name-clause-short : goal.returns-in_err-put_name-clause-short
returns-in_err-put_name-clause-short g c tree s = refused_by c.from_residual-in_err-put_name.result _ _ c.from_residual-in_err-put_name.ensures.1 (inr c.in_err-put_name.ensures.memory)

pub returns-in_err-put_name-clause-looks : goal.returns-in_err-put_name-clause-looks
returns-in_err-put_name-clause-looks g c = looks_short c.from_residual-in_err-put_name.result _ c.from_residual-in_err-put_name.ensures.1 c.in_err-put_name.ensures.device (looks_then {n = 0} c.in_ok-parent.ensures.looks c.in_ok-placed.ensures.looks)

pub returns-clause-does : goal.returns-clause-does
returns-clause-does g c tree s few =
    let a = c.args.self.now.lookup in
    let graph = graph_seen g.D.Drive a in
    let path = c.args.names.now in
    let above = c.in-Some.above.now in
    let name = c.in-Some.name.now in
    let what = c.args.thing in
    let moment = c.args.moment in
    let identity = c.args.self.now.next_unique in
    let parent = c.in-Some-2.parent in
    let content = c.in_ok-placed.content in
    let p = c.in_ok-parent.ensures.looks in
    let q = c.in_ok-placed.ensures.looks in
    let here = subst (λ (o : Option Node). IsFoundDirectory graph tree above o) c.in-Some-2.is (c.in_ok-parent.ensures.found tree (sees_before a tree q s)).0 in
    let shown = (opened_between _ above parent p q (sound s) here.0 here.1 c.in_ok-placed.ensures.opened).0 in
    let listed = content.dir.entries.entries in
    let found = lookup (pointwise nat_eq name) listed in
    let code_there = add_there path above name c.in-Some.ensures.cases.0 what tree graph (one_seen a) s.tree s.makes parent here.0 here.1 c.in_ok-placed.placed content shown
    (le-ltb 16 (length path) c.if-names-gt-PATH_NAMES.false) in
    let done : c.code_of_addition-code.result ≡ code.Done = same_true the_type (search rules) _ _ (not_no _ (sym c.ne.ensures ∙ c.if-ne.false)) in
    let zero_by : code_by_names (is_some found) (length listed) c.args.self.now.node_count ≡ 0 = sym c.code_of_addition-code.ensures.code ∙ ap code_number done in
    let zero_there : code_by_names (is_some found) (length listed) (len tree) ≡ 0 = ap (λ (n : ℕ). code_by_names (is_some found) (length listed) n) (sym few) ∙ zero_by in
    let missing : found ≡ None = unlisted_yet found (length listed) c.args.self.now.node_count zero_by in
    let entry : Entry = record { kind = c.in_ok-kind.kind; virtual_address = c.free_address-address.result; unique = identity } in
    let free_is = c.free_address-address.ensures ∙ free_same (looks_then {n = 0} p q) in
    let node : ℕ → List Writing = λ a. record { address = a; kept = 0; firsts = []; stored = as_stored identity moment (new_body parent.address (content_of_thing what)) } ∷ [] in
    let M = held (g.D.Drive.journal a.drive.now) in
    let first = c.in_ok-kind.ensures.put M c.new-change.ensures.file c.new-change.ensures.directories ∙ ap node free_is in
    let put = c.in_ok-put_name.ensures.put in
    let d = put.0 in
    let is = put.2 in
    let same = c.in_ok-put_name.ensures.same in
    adds graph (free_seen a) moment identity path above name c.in-Some.ensures.cases.0 what tree parent here.0 c.in_ok-placed.placed content shown c.put_new.new.self c.put_name.new.self entry d
    (code_there ∙ zero_there) (same.code ∙ (c.in_ok-kind.ensures.code ∙ c.new-change.ensures.code)) (same.made ∙ (c.in_ok-kind.ensures.made path ∙ ap (λ (a : ℕ). made_by (addition path what) a) free_is))
    (same.removed ∙ (c.in_ok-kind.ensures.removed ∙ c.new-change.ensures.removed)) first (c.in_ok-kind.ensures.kept M c.new-change.ensures.file) same.file put.1 is.address is.unique is.moment_is
    is.parent (is.entries_are ∙ put_last name content entry missing) c.in_ok-kind.ensures.kind free_is refl

pub returns-clause-looks : goal.returns-clause-looks
returns-clause-looks g c = looks_then {n = 0} c.in_ok-parent.ensures.looks c.in_ok-placed.ensures.looks

pub returns-in_default-clause-does : goal.returns-in_default-clause-does
returns-in_default-clause-does g c tree s few =
    let a = c.args.self.now.lookup in
    let root = add_root c.args.names.now c.args.thing tree c.in_default.ensures.cases in
    refuses (graph_seen g.D.Drive a) (free_seen a) tree (addition c.args.names.now c.args.thing) c.args.moment c.args.self.now.next_unique 6 code.Root c.refused.result c.refused.ensures refl root

pub returns-then-names-gt-PATH_NAMES-clause-does : goal.returns-then-names-gt-PATH_NAMES-clause-does
returns-then-names-gt-PATH_NAMES-clause-does g c tree s few =
    let a = c.args.self.now.lookup in
    let deep = add_deep c.args.names.now c.in-Some.above.now c.in-Some.name.now c.in-Some.ensures.cases.0 c.args.thing tree c.if-names-gt-PATH_NAMES.true in
    refuses (graph_seen g.D.Drive a) (free_seen a) tree (addition c.args.names.now c.args.thing) c.args.moment c.args.self.now.next_unique 7 code.TooDeep c.refused-then-names-gt-PATH_NAMES.result c.refused-then-names-gt-PATH_NAMES.ensures refl deep

pub returns-in_default-2-clause-does : goal.returns-in_default-2-clause-does
returns-in_default-2-clause-does g c tree s few =
    let a = c.args.self.now.lookup in
    let above = c.in-Some.above.now in
    let none = subst (λ (o : Option Node). IsFoundDirectory (graph_seen g.D.Drive a) tree above o) c.in_default-2.is (c.in_ok-parent.ensures.found tree s).0 in
    let nowhere = add_nowhere c.args.names.now above c.in-Some.name.now c.in-Some.ensures.cases.0 c.args.thing tree c.if-names-gt-PATH_NAMES.false none in
    refuses (graph_seen g.D.Drive a) (free_seen a) tree (addition c.args.names.now c.args.thing) c.args.moment c.args.self.now.next_unique 0 code.NoParent c.refused-in_default-2.result c.refused-in_default-2.ensures refl nowhere
