use Rattle.std.proofs.Common.{◌≡◌, ◌∙◌, ◌++◌, [], ◌∷◌, sym, ap, subst, List, inr, None}
use Rattle.std.specs.FinMap.{get}
use Rattle.model.specs.Tree.{Path, Has}
use Rattle.lookup.specs.Lookups.{free_seen, graph_seen}
use Rattle.lookup.proofs.Finding.{one_seen, opened_between}
use Rattle.lookup.proofs.Heights.{distinct_opened}
use Rattle.lookup.proofs.Looking.{failed, looks_none, looks_short, sound}
use Rattle.planning.specs.declared.change.NewDirectory.{NewDirectory}
use Rattle.planning.proofs.Moving.{is_listed, not_listed, entries_renamed, renames_within}
use Rattle.planning.proofs.before.StateBefore.rename_within.Goals as goal

pub returns-in_err-content-clause-does : goal.returns-in_err-content-clause-does
returns-in_err-content-clause-does g c tree from to identity s w =
    failed c.from_residual.result _ _ _ c.from_residual.ensures.1 (opened_between _ w.above c.args.parent looks_none c.in_err-content.ensures.looks (sound s) w.parent_at w.directory c.in_err-content.ensures.opened).1

pub returns-in_default-clause-does : goal.returns-in_default-clause-does
returns-in_default-clause-does g c tree from to identity s w =
    let a = c.args.self.now.lookup in
    let graph = graph_seen g.D.Drive a in
    let shown = (opened_between _ w.above c.args.parent looks_none c.in_ok-content.ensures.looks (sound s) w.parent_at w.directory c.in_ok-content.ensures.opened).0 in
    absurd (is_listed graph tree (one_seen a) s.tree s.makes w.above c.args.parent w.parent_at c.in_ok-content.field-0-0 c.in_ok-content.content shown c.args.old_name.now
    (subst (λ (p : Path). Has tree p) w.from_is w.here) (sym c.remove.ensures.described ∙ c.in_default.is))

pub returns-in_default-clause-looks : goal.returns-in_default-clause-looks
returns-in_default-clause-looks g c = rw c.damaged.ensures.failures c.in_ok-content.ensures.looks

pub returns-in_err-put_name-clause-does : goal.returns-in_err-put_name-clause-does
returns-in_err-put_name-clause-does g c tree from to identity s w = failed c.from_residual-in_err-put_name.result _ _ _ c.from_residual-in_err-put_name.ensures.1 (inr c.in_err-put_name.ensures.memory)

pub returns-in_err-put_name-clause-looks : goal.returns-in_err-put_name-clause-looks
returns-in_err-put_name-clause-looks g c = looks_short c.from_residual-in_err-put_name.result _ c.from_residual-in_err-put_name.ensures.1 c.in_err-put_name.ensures.device c.in_ok-content.ensures.looks

pub returns-clause-does : goal.returns-clause-does
returns-clause-does g c tree from to identity s w =
    let a = c.args.self.now.lookup in
    let graph = graph_seen g.D.Drive a in
    let one = one_seen a in
    let placed = c.in_ok-content.field-0-0 in
    let content = c.in_ok-content.content in
    let shown = (opened_between _ w.above c.args.parent looks_none c.in_ok-content.ensures.looks (sound s) w.parent_at w.directory c.in_ok-content.ensures.opened).0 in
    let distinct = distinct_opened graph tree one s.tree s.makes w.above c.args.parent w.parent_at placed content shown in
    let none = not_listed graph tree one s.tree s.makes w.above c.args.parent w.parent_at placed content shown c.args.new_name.now (subst (λ (p : Path). get tree p ≡ None) w.to_is w.new_there) in
    let start = c.new-change.ensures in
    let put = c.in_ok-put_name.ensures.put in
    let d = put.0 in
    let is = put.2 in
    let same = c.in_ok-put_name.ensures.same in
    let listed = entries_renamed c.args.old_name.now c.args.new_name.now content c.remove.new.self d.content.dir.entries.entries c.in-Some.entry distinct none c.remove.ensures.entries is.entries_are in (
      renames_within graph tree one s.tree s.makes (free_seen a) c.args.moment identity from to c.args.parent c.args.old_name.now c.args.new_name.now w placed content shown c.in-Some.entry
          (sym c.remove.ensures.described ∙ c.in-Some.is) c.put_name.new.self d (same.code ∙ start.code) (same.file ∙ start.file) (same.made ∙ start.made) (same.removed ∙ start.removed)
          (put.1 ∙ ap (λ (ds : List NewDirectory). ds ++ d ∷ []) start.directories)
          is.address is.unique is.moment_is (is.parent ∙ c.remove.ensures.parent) listed,
      tt,
    )
