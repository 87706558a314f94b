use Rattle.std.proofs.Common.{rules, ◌≡◌, List, Option, Some, inl, inr, refl, sym, ap, subst, ◌∙◌}
use Rattle.std.specs.Prelude.{false, unwrap_or, IsTrue}
use Rattle.drive.specs.Journal.{Event}
use Rattle.recover.specs.declared.fault.StoreFault.{StoreFault}
use Rattle.store.specs.declared.store.Store.{Store as Kept}
use Rattle.engine.specs.Situation.{seen_on}
use Rattle.embedding.specs.declared.told.CommitStatus.{CommitStatus}
use Rattle.embedding.specs.Commits.{IsLogRefused, TellsNext}
use Rattle.embedding.proofs.Asking.{had_none, holds_same, if_ok, if_err}
use Rattle.embedding.proofs.Logging.{in_turn}
use Rattle.embedding.proofs.commits.opened_commit.Goals as goal

pub returns-in-Ok-clause-reported : goal.returns-in-Ok-clause-reported
returns-in-Ok-clause-reported g c =
    let lent = c.unwrap.result.now in let opened = c.in-Ok.ensures.open in let J = g.D.Drive.journal c.commit_before.new.drive in
    let is : c.open.new.self.store ≡ Some lent = search rules in
    let same : opened.0 ≡ lent = ap (λ (o : Option Kept). unwrap_or o lent) (sym opened.1.0 ∙ is) in
    if_ok c.commit_before.result
    (λ (told : CommitStatus) said.
    let next : IsTrue (g.D.Drive.honest c.commit_before.new.drive) → TellsNext J lent.vat_icb_address c.args.after told = λ honest.
    subst (λ (K : List Event). TellsNext K lent.vat_icb_address c.args.after told) (sym c.commit_before.ensures.journal) (said honest) in
    record {
      store = lent;
      opened = (is, subst (λ (s : Kept). s.is_stopped ≡ false) same opened.1.1);
      next = next;
      in_turn = λ honest commits history. in_turn J lent.vat_icb_address c.args.after told (next honest) commits history;
    })
    c.commit_before.ensures.reported

pub returns-in-Ok-clause-refused : goal.returns-in-Ok-clause-refused
returns-in-Ok-clause-refused g c =
    let lent = c.unwrap.result.now in let opened = c.in-Ok.ensures.open in
    let is : c.open.new.self.store ≡ Some lent = search rules in
    let same : opened.0 ≡ lent = ap (λ (o : Option Kept). unwrap_or o lent) (sym opened.1.0 ∙ is) in
    if_err c.commit_before.result
    (λ (fault : StoreFault) said. inr (
      lent,
      (is, subst (λ (s : Kept). s.is_stopped ≡ false) same opened.1.1),
      λ honest. subst (λ (K : List Event). IsLogRefused K lent.vat_icb_address c.args.after fault) (sym c.commit_before.ensures.journal) (said honest),
    ))
    c.commit_before.ensures.refused

pub returns-in-Ok-clause-holds : goal.returns-in-Ok-clause-holds
returns-in-Ok-clause-holds g c volume S honest at =
    holds_same volume S (seen_on g.D.Drive c.open.new.self c.open.new.drive) (seen_on g.D.Drive c.open.new.self c.commit_before.new.drive) refl c.commit_before.ensures.journal c.commit_before.ensures.capacity
    (c.open.ensures.holds volume S (c.commit_before.ensures.honest honest) at)

pub returns-in-Err-clause-refused : goal.returns-in-Err-clause-refused
returns-in-Err-clause-refused g c = inl (
  had_none c.args.engine.now c.open.new.self (λ kept there. (c.in-Err.ensures.stays kept there).0) c.in-Err.ensures.closed,
  λ volume S honest at. c.in-Err.ensures.short volume S honest at,
)
