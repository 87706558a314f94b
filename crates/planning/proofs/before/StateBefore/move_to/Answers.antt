use Rattle.std.proofs.Common.{◌≡◌, ◌∙◌, ◌++◌, [], ◌∷◌, sym, ap, subst, refl, List, inr, None, arith}
use Rattle.std.specs.FinMap.{get}
use Rattle.model.specs.Operation.Operation.{Rename}
use Rattle.model.specs.Tree.{Path, Has}
use Rattle.request.specs.declared.answer.Code.TheVariants as code
use Rattle.lookup.specs.Lookups.{free_seen, graph_seen}
use Rattle.lookup.proofs.Finding.{one_seen, opened_between, stored_between}
use Rattle.lookup.proofs.Heights.{has_at}
use Rattle.lookup.proofs.Looking.{failed, looks_failed, looks_keep, looks_none, looks_short, looks_then, sees_kept, sound, sound_before}
use Rattle.planning.specs.declared.change.NewDirectory.{NewDirectory}
use Rattle.planning.proofs.Adding.{put_last}
use Rattle.planning.proofs.Moving.{is_listed, not_listed, gained_full, gained_room, moves_between}
use Rattle.planning.proofs.Replacing.{refuses}
use Rattle.planning.proofs.before.StateBefore.move_to.Goals as goal

pub returns-in_err-target-clause-does : goal.returns-in_err-target-clause-does
returns-in_err-target-clause-does g c tree from to identity s b =
    failed c.from_residual.result _ _ _ c.from_residual.ensures.1 (opened_between _ b.beyond c.args.target_dir.0 looks_none c.in_err-target.ensures.looks (sound s) b.gains_at b.gains_directory c.in_err-target.ensures.opened).1

pub returns-then-len-ge-DIRECTORY_NAMES-clause-does : goal.returns-then-len-ge-DIRECTORY_NAMES-clause-does
returns-then-len-ge-DIRECTORY_NAMES-clause-does g c tree from to identity s b =
    let a = c.args.self.now.lookup in
    let graph = graph_seen g.D.Drive a in
    let s1 = sees_kept a tree c.keep.ensures s in
    let shown_gained = (opened_between _ b.beyond c.args.target_dir.0 looks_none c.in_ok-target.ensures.looks (sound s1) b.gains_at b.gains_directory c.in_ok-target.ensures.opened).0 in (
      refuses graph (free_seen a) tree (Rename from to) c.args.moment identity 8 code.DirectoryFull c.refused.result c.refused.ensures refl
          (gained_full graph tree (one_seen a) s.tree s.makes from to c.args.node c.args.source_dir.0 c.args.target_dir.0 c.args.source_dir.1.now c.args.target_dir.1.now b c.in_ok-target.target c.in_ok-target.gaining shown_gained (omega (arith, c.if-len-ge-DIRECTORY_NAMES.true, c.len.ensures.len))),
      tt,
    )

pub returns-then-len-ge-DIRECTORY_NAMES-clause-looks : goal.returns-then-len-ge-DIRECTORY_NAMES-clause-looks
returns-then-len-ge-DIRECTORY_NAMES-clause-looks g c = looks_keep c.in_ok-target.ensures.looks c.keep.ensures c.in_ok-target.ensures.lies.lies

pub returns-in_err-set_parent-clause-does : goal.returns-in_err-set_parent-clause-does
returns-in_err-set_parent-clause-does g c tree from to identity s b =
    let set = c.in_err-set_parent.ensures.set c.new-change.ensures.directories in
    failed c.from_residual-in_err-set_parent.result _ _ _ c.from_residual-in_err-set_parent.ensures.1 (stored_between _ from c.args.node c.in_ok-target.ensures.looks c.in_err-set_parent.ensures.looks (sound s) b.node_at set).1

pub returns-in_err-set_parent-clause-looks : goal.returns-in_err-set_parent-clause-looks
returns-in_err-set_parent-clause-looks g c = looks_failed c.from_residual-in_err-set_parent.result _ c.from_residual-in_err-set_parent.ensures.1 (looks_then c.in_ok-target.ensures.looks c.in_err-set_parent.ensures.looks)

pub returns-in_err-taken-clause-does : goal.returns-in_err-taken-clause-does
returns-in_err-taken-clause-does g c tree from to identity s b =
    let p = looks_then c.in_ok-target.ensures.looks c.in_ok-set_parent.ensures.looks in
    failed c.from_residual-in_err-taken.result _ _ _ c.from_residual-in_err-taken.ensures.1 (opened_between _ b.above c.args.source_dir.0 p c.in_err-taken.ensures.looks (sound s) b.loses_at b.loses_directory c.in_err-taken.ensures.taken).1

pub returns-in_err-taken-clause-looks : goal.returns-in_err-taken-clause-looks
returns-in_err-taken-clause-looks g c =
    looks_failed c.from_residual-in_err-taken.result _ c.from_residual-in_err-taken.ensures.1 (looks_then c.in_ok-target.ensures.looks (looks_then c.in_ok-set_parent.ensures.looks c.in_err-taken.ensures.looks))

pub returns-in_default-clause-does : goal.returns-in_default-clause-does
returns-in_default-clause-does g c tree from to identity s b =
    let a = c.args.self.now.lookup in
    let p = looks_then {n = 0} c.in_ok-target.ensures.looks c.in_ok-set_parent.ensures.looks in
    let taken = (opened_between _ b.above c.args.source_dir.0 p c.in_ok-taken.ensures.looks (sound s) b.loses_at b.loses_directory c.in_ok-taken.ensures.taken).0 in
    let has = subst (λ (p : Path). Has tree p) b.from_is (has_at (graph_seen g.D.Drive a) tree (one_seen a) s.tree s.makes from c.args.node b.node_at) in
    absurd (is_listed (graph_seen g.D.Drive a) tree (one_seen a) s.tree s.makes b.above c.args.source_dir.0 b.loses_at taken.placed taken.content taken.shown c.args.source_dir.1.now has (sym taken.found_is ∙ c.in_default.is))

pub returns-in_default-clause-looks : goal.returns-in_default-clause-looks
returns-in_default-clause-looks g c = rw c.damaged.ensures.failures (looks_then {n = 0} c.in_ok-target.ensures.looks (looks_then {n = 0} c.in_ok-set_parent.ensures.looks c.in_ok-taken.ensures.looks))

pub returns-in_err-put_name-clause-does : goal.returns-in_err-put_name-clause-does
returns-in_err-put_name-clause-does g c tree from to identity s b = failed c.from_residual-in_err-put_name.result _ _ _ c.from_residual-in_err-put_name.ensures.1 (inr c.in_err-put_name.ensures.memory)

pub returns-in_err-put_name-clause-looks : goal.returns-in_err-put_name-clause-looks
returns-in_err-put_name-clause-looks g c =
    looks_short c.from_residual-in_err-put_name.result _ c.from_residual-in_err-put_name.ensures.1 c.in_err-put_name.ensures.device (looks_then {n = 0} c.in_ok-target.ensures.looks (looks_then {n = 0} c.in_ok-set_parent.ensures.looks c.in_ok-taken.ensures.looks))

pub returns-clause-does : goal.returns-clause-does
returns-clause-does g c tree from to identity s b =
    let a = c.args.self.now.lookup in
    let graph = graph_seen g.D.Drive a in
    let one = one_seen a in
    let q1 = c.in_ok-target.ensures.looks in
    let q2 = c.in_ok-set_parent.ensures.looks in
    let q3 = c.in_ok-taken.ensures.looks in
    let shown_gained = (opened_between _ b.beyond c.args.target_dir.0 looks_none q1 (sound_before (looks_then {n = 0} q2 q3) (sound s)) b.gains_at b.gains_directory c.in_ok-target.ensures.opened).0 in
    let taken = (opened_between _ b.above c.args.source_dir.0 (looks_then {n = 0} q1 q2) q3 (sound s) b.loses_at b.loses_directory c.in_ok-taken.ensures.taken).0 in
    let zero_code = gained_room graph tree one s.tree s.makes from to c.args.node c.args.source_dir.0 c.args.target_dir.0 c.args.source_dir.1.now c.args.target_dir.1.now b c.in_ok-target.target c.in_ok-target.gaining shown_gained (omega (arith, c.if-len-ge-DIRECTORY_NAMES.false, c.len.ensures.len)) in
    let none = not_listed graph tree one s.tree s.makes b.beyond c.args.target_dir.0 b.gains_at c.in_ok-target.target c.in_ok-target.gaining shown_gained c.args.target_dir.1.now (subst (λ (p : Path). get tree p ≡ None) b.to_is b.new_there) in
    let turned = (stored_between _ from c.args.node q1 q2 (sound_before q3 (sound s)) b.node_at (c.in_ok-set_parent.ensures.set c.new-change.ensures.directories)).0 b.node_at.identity in
    let before = c.set_parent.new.change.directories.items in
    let l = taken.written.0 in
    let l_is = taken.written.2 in
    let put = c.in_ok-put_name.ensures.put in
    let gd = put.0 in
    let g_is = put.2 in
    let same = c.in_ok-set_parent.ensures.same in
    let later = c.in_ok-taken.ensures.same in
    let last = c.in_ok-put_name.ensures.same in (
      moves_between graph tree one s.tree s.makes (free_seen a) c.args.moment identity from to c.args.node c.args.source_dir.0 c.args.target_dir.0 c.args.source_dir.1.now c.args.target_dir.1.now b zero_code
          taken.placed c.in_ok-target.target taken.content c.in_ok-target.gaining taken.shown shown_gained c.in-Some.entry (sym taken.found_is ∙ c.in-Some.is) c.put_name.new.self before l gd turned
          (last.code ∙ (later.code ∙ (same.code ∙ c.new-change.ensures.code))) (last.file ∙ (later.file ∙ (same.file ∙ c.new-change.ensures.file)))
          (last.made ∙ (later.made ∙ (same.made ∙ c.new-change.ensures.made))) (last.removed ∙ (later.removed ∙ (same.removed ∙ c.new-change.ensures.removed)))
          (put.1 ∙ ap (λ (ds : List NewDirectory). ds ++ gd ∷ []) taken.written.1)
          l_is.address l_is.unique l_is.moment_is l_is.parent l_is.entries_are
          g_is.address g_is.unique g_is.moment_is g_is.parent (g_is.entries_are ∙ put_last c.args.target_dir.1.now c.in_ok-target.gaining c.in-Some.entry none),
      tt,
    )

pub returns-clause-looks : goal.returns-clause-looks
returns-clause-looks g c = looks_then {n = 0} c.in_ok-target.ensures.looks (looks_then {n = 0} c.in_ok-set_parent.ensures.looks c.in_ok-taken.ensures.looks)
