use Rattle.std.proofs.Common.{◌∙◌, ◌++◌, [], ◌∷◌, sym, ap, inr, List, refl}
use Rattle.lookup.specs.declared.content.Content.{Content}
use Rattle.lookup.proofs.Looking.{failed, looks_short}
use Rattle.planning.specs.declared.change.NewDirectory.{NewDirectory}
use Rattle.planning.specs.Writings.{new_directories}
use Rattle.planning.proofs.Moving.{turned_is, turned_none}
use Rattle.planning.proofs.before.StateBefore.set_parent.Goals as goal

pub returns-then-not-is_directory-clause-set : goal.returns-then-not-is_directory-clause-set
returns-then-not-is_directory-clause-set g c none k s there same =
    ((λ unique moved address. ap new_directories none ∙ turned_none s moved c.args.parent (sym same ∙ (sym c.is_directory.ensures ∙ c.if-not-is_directory.true))), tt)

pub returns-in_err-placed-clause-set : goal.returns-in_err-placed-clause-set
returns-in_err-placed-clause-set g c none k s there same =
    failed c.from_residual.result _ _ _ c.from_residual.ensures.1 (c.in_err-placed.ensures.opened k s there (sym same ∙ (sym c.is_directory.ensures ∙ c.if-not-is_directory.false))).1

pub returns-in_err-push-clause-set : goal.returns-in_err-push-clause-set
returns-in_err-push-clause-set g c none k s there same = failed c.from_residual-in_err-push.result _ _ _ c.from_residual-in_err-push.ensures.1 (inr refl)

pub returns-in_err-push-clause-looks : goal.returns-in_err-push-clause-looks
returns-in_err-push-clause-looks g c = looks_short c.from_residual-in_err-push.result _ c.from_residual-in_err-push.ensures.1 refl c.in_ok-placed.ensures.looks

pub returns-clause-set : goal.returns-clause-set
returns-clause-set g c none k s there same =
    let directory = sym same ∙ (sym c.is_directory.ensures ∙ c.if-not-is_directory.false) in
    let shown = (c.in_ok-placed.ensures.opened k s there directory).0 in
    let d = c.written.result in
    let items = c.in_ok-push.ensures.items ∙ ap (λ (ds : List NewDirectory). ds ++ d ∷ []) none in (
      (λ unique moved address. ap new_directories items
          ∙ turned_is s moved c.args.parent c.in_ok-placed.placed c.in_ok-placed.content d shown directory (c.written.ensures.address ∙ sym address) (c.written.ensures.unique ∙ unique) c.written.ensures.moment
          (ap (λ (x : Content). x.dir.parent) c.written.ensures.content) (ap (λ (x : Content). x.dir.entries.entries) c.written.ensures.content)),
      tt,
    )
