use Rattle.std.proofs.Common.{◌∙◌, sym}
use Rattle.lookup.proofs.Looking.{failed, looks_keep, sound_kept}
use Rattle.planning.proofs.Removing.{has_none, has_some}
use Rattle.planning.proofs.before.StateBefore.has_names.Goals as goal

pub returns-then-not-is_directory-clause-has : goal.returns-then-not-is_directory-clause-has
returns-then-not-is_directory-clause-has g c k s there same = (has_none s.body (sym same ∙ (sym c.is_directory.ensures ∙ c.if-not-is_directory.true)), tt)

pub returns-in_err-placed-clause-has : goal.returns-in_err-placed-clause-has
returns-in_err-placed-clause-has g c k s there same =
    failed c.from_residual.result _ _ _ c.from_residual.ensures.1 (c.in_err-placed.ensures.opened k s there (sym same ∙ (sym c.is_directory.ensures ∙ c.if-not-is_directory.false))).1

pub returns-clause-has : goal.returns-clause-has
returns-clause-has g c k s there same =
    let shown = (c.in_ok-placed.ensures.opened (sound_kept c.keep.ensures k) s there (sym same ∙ (sym c.is_directory.ensures ∙ c.if-not-is_directory.false))).0 in
    (has_some s.body c.in_ok-placed.content.dir.parent c.in_ok-placed.content.dir.entries.entries c.is_empty-has_names.result shown.body c.is_empty-has_names.ensures, tt)

pub returns-clause-looks : goal.returns-clause-looks
returns-clause-looks g c = looks_keep c.in_ok-placed.ensures.looks c.keep.ensures c.in_ok-placed.ensures.lies.lies
