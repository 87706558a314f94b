use Rattle.std.proofs.Common.{rules, ◌≡◌, List, Option, Some, inl, inr, refl, sym, ap, subst, ◌∙◌}
use Rattle.std.specs.Prelude.{false, unwrap_or}
use Rattle.drive.specs.Journal.{Event}
use Rattle.recover.specs.declared.fault.StoreFault.{StoreFault}
use Rattle.store.specs.declared.store.Store.{Store as Kept}
use Rattle.engine.specs.Situation.{seen_on}
use Rattle.embedding.specs.declared.told.Status.{Status}
use Rattle.embedding.specs.StatusCalls.{IsStatusRefused}
use Rattle.embedding.specs.Statuses.{TellsStatus}
use Rattle.embedding.proofs.Asking.{had_none, holds_same, if_ok, if_err}
use Rattle.embedding.proofs.questions.opened_status.Goals as goal

pub returns-in-Ok-clause-reported : goal.returns-in-Ok-clause-reported
returns-in-Ok-clause-reported g c =
    let lent = c.unwrap.result.now in let opened = c.in-Ok.ensures.open in
    let is : c.open.new.self.store ≡ Some lent = search rules in
    let same : opened.0 ≡ lent = ap (λ (o : Option Kept). unwrap_or o lent) (sym opened.1.0 ∙ is) in
    if_ok c.status_on.result
    (λ (told : Status) h. (
      lent,
      (is, subst (λ (s : Kept). s.is_stopped ≡ false) same opened.1.1),
      subst (λ (J : List Event). TellsStatus J (g.D.Drive.honest c.status_on.new.drive) lent told) (sym c.status_on.ensures.journal) h,
    ))
    c.status_on.ensures.reported

pub returns-in-Ok-clause-holds : goal.returns-in-Ok-clause-holds
returns-in-Ok-clause-holds g c volume S honest at =
    holds_same volume S (seen_on g.D.Drive c.open.new.self c.open.new.drive) (seen_on g.D.Drive c.open.new.self c.status_on.new.drive) refl c.status_on.ensures.journal c.status_on.ensures.capacity
    (c.open.ensures.holds volume S (c.status_on.ensures.honest honest) at)

pub returns-in-Ok-clause-refused : goal.returns-in-Ok-clause-refused
returns-in-Ok-clause-refused g c =
    let lent = c.unwrap.result.now in let opened = c.in-Ok.ensures.open in
    let is : c.open.new.self.store ≡ Some lent = search rules in
    let same : opened.0 ≡ lent = ap (λ (o : Option Kept). unwrap_or o lent) (sym opened.1.0 ∙ is) in
    if_err c.status_on.result
    (λ (fault : StoreFault) said. inr (
      lent,
      (is, subst (λ (s : Kept). s.is_stopped ≡ false) same opened.1.1),
      λ honest. subst (λ (K : List Event). IsStatusRefused K lent fault) (sym c.status_on.ensures.journal) (said honest),
    ))
    c.status_on.ensures.refused

pub returns-in-Err-clause-refused : goal.returns-in-Err-clause-refused
returns-in-Err-clause-refused g c = inl (
  had_none c.args.engine.now c.open.new.self (λ kept there. (c.in-Err.ensures.stays kept there).0) c.in-Err.ensures.closed,
  λ volume S honest at. c.in-Err.ensures.short volume S honest at,
)
