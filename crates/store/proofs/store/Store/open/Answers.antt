use Rattle.std.proofs.Common.{◌<◌, ◌≤◌, ℕ, List, Option, refl, sym, subst, ◌∙◌, arith}
use Rattle.std.specs.Prelude.{IfSome, IsTrue}
use Rattle.std.proofs.lemmas.Result.{err_from_is_err_and}
use Rattle.limits.specs.declared.TheConstants.{PARTITION_START}
use Rattle.drive.specs.Journal.{Event, held, next_of}
use Rattle.recover.specs.Faults.{IsShortage}
use Rattle.recover.specs.declared.fault.StoreFault.{StoreFault}
use Rattle.recover.specs.State.{IsShown, IsStateRefused}
use Rattle.recover.specs.Tables.{IsLastVatIcb}
use Rattle.store.specs.Opened.{IsOpenRefused}
use Rattle.recover.proofs.BelowLemmas.{below_entry}
use Rattle.store.proofs.Opening.{knows_opened, not_read, opened_short, short_opened, shortage_opened}
use Rattle.recover.proofs.States.{last_stands}
use Rattle.store.proofs.store.Store.open.Goals as goal

pub returns-clause-agrees : goal.returns-clause-agrees
returns-clause-agrees g c =
    let sound = c.in_ok-capacity.ensures.sound in
    let within = subst (λ (o : Option ℕ). IfSome o (λ at. (PARTITION_START ≤ at) × (at < next_of (g.D.Drive.journal c.args.drive.now)))) c.in-Some.is c.in_ok-at.ensures.within in
    record {
      keeps = record {
        low = omega (arith, sound.counted.few_commits);
        fits = sound.table.table.fits;
        entries = below_entry c.in-Some.at c.in_ok-capacity.field-0.vat.entries.items within.0 sound.table.entries;
        few_commits = sound.counted.few_commits;
        few_unique = sound.counted.few_unique;
      };
      on = within.1;
      least = sound.low;
      most = sound.high;
      fits = omega (arith, sound.fits, c.last.ensures.reads.capacity);
    }

pub returns-clause-kept : goal.returns-clause-kept
returns-clause-kept g c = c.in_ok-new.ensures.kept (g.D.Drive.journal c.state_at.new.drive)

pub returns-in_err-at-clause-refused : goal.returns-in_err-at-clause-refused
returns-in_err-at-clause-refused g c =
    let p = err_from_is_err_and c.from_residual.result c.from_residual.ensures.1 in
    rw p.1 (λ h. subst (λ (f : StoreFault). IsOpenRefused (g.D.Drive.capacity c.args.drive.now) (held (g.D.Drive.journal c.args.drive.now)) f) (sym (p.2 ∙ c.in_err-at.ensures.device)) tt)

pub returns-in-None-clause-refused : goal.returns-in-None-clause-refused
returns-in-None-clause-refused g c = λ h. subst (λ (o : Option ℕ). IsLastVatIcb (held (g.D.Drive.journal c.args.drive.now)) o) c.in-None.is (c.in_ok-at.ensures.last h)

pub returns-in_err-capacity-clause-refused : goal.returns-in_err-capacity-clause-refused
returns-in_err-capacity-clause-refused g c =
    let p = err_from_is_err_and c.from_residual-in_err-capacity.result c.from_residual-in_err-capacity.ensures.1 in
    let capacity = g.D.Drive.capacity c.args.drive.now in
    let J = g.D.Drive.journal c.args.drive.now in
    let last = λ (h : IsTrue (g.D.Drive.honest c.state_at.new.drive)). subst (λ (o : Option ℕ). IsLastVatIcb (held (g.D.Drive.journal c.args.drive.now)) o) c.in-Some.is (c.in_ok-at.ensures.last (c.state_at.ensures.reads.honest h)) in
    let refused = λ (h : IsTrue (g.D.Drive.honest c.state_at.new.drive)).
    subst (λ (f : StoreFault). IsStateRefused (g.D.Drive.capacity c.args.drive.now) (held (g.D.Drive.journal c.args.drive.now)) c.in-Some.at f) (sym p.2)
    (subst (λ (n : ℕ). IsStateRefused n (held (g.D.Drive.journal c.args.drive.now)) c.in-Some.at c.in_err-capacity.field-0.0) c.last.ensures.reads.capacity
    (subst (λ (K : List Event). IsStateRefused (g.D.Drive.capacity c.last.new.drive) (held K) c.in-Some.at c.in_err-capacity.field-0.0) c.last.ensures.reads.journal (c.in_err-capacity.ensures.refused h))) in
    rw p.1 (λ h. not_read capacity (held J) c.in-Some.at p.0 (last h) (refused h))

pub returns-in_err-new-clause-refused : goal.returns-in_err-new-clause-refused
returns-in_err-new-clause-refused g c =
    let p = err_from_is_err_and c.from_residual-in_err-new.result c.from_residual-in_err-new.ensures.1 in
    rw p.1 (λ h. shortage_opened (g.D.Drive.capacity c.args.drive.now) (held (g.D.Drive.journal c.args.drive.now)) p.0 (subst (λ (f : StoreFault). IsShortage f) (sym p.2) c.in_err-new.ensures.short))

pub returns-in_err-at-clause-opens : goal.returns-in_err-at-clause-opens
returns-in_err-at-clause-opens g c volume S honest once stands =
    opened_short (g.D.Drive.capacity c.args.drive.now) volume (g.D.Drive.journal c.args.drive.now) S c.from_residual.result _ c.from_residual.ensures.0 (returns-in_err-at-clause-refused g c) honest stands

pub returns-in-None-clause-opens : goal.returns-in-None-clause-opens
returns-in-None-clause-opens g c volume S honest once stands =
    short_opened (g.D.Drive.capacity c.args.drive.now) volume (held (g.D.Drive.journal c.args.drive.now)) S _ stands (returns-in-None-clause-refused g c honest)

pub returns-in_err-capacity-clause-opens : goal.returns-in_err-capacity-clause-opens
returns-in_err-capacity-clause-opens g c volume S honest once stands =
    opened_short (g.D.Drive.capacity c.args.drive.now) volume (g.D.Drive.journal c.args.drive.now) S c.from_residual-in_err-capacity.result _ c.from_residual-in_err-capacity.ensures.0 (returns-in_err-capacity-clause-refused g c) honest stands

pub returns-in_err-new-clause-opens : goal.returns-in_err-new-clause-opens
returns-in_err-new-clause-opens g c volume S honest once stands =
    opened_short (g.D.Drive.capacity c.args.drive.now) volume (g.D.Drive.journal c.args.drive.now) S c.from_residual-in_err-new.result _ c.from_residual-in_err-new.ensures.0 (returns-in_err-new-clause-refused g c) honest stands

pub returns-clause-opens : goal.returns-clause-opens
returns-clause-opens g c volume S honest once stands =
    let capacity = g.D.Drive.capacity c.args.drive.now in
    let J = g.D.Drive.journal c.args.drive.now in
    let state = c.in_ok-capacity.field-0 in
    let last = subst (λ (o : Option ℕ). IsLastVatIcb (held (g.D.Drive.journal c.args.drive.now)) o) c.in-Some.is (c.in_ok-at.ensures.last (c.state_at.ensures.reads.honest honest)) in
    let shown =
    subst (λ (n : ℕ). IsShown n (held (g.D.Drive.journal c.args.drive.now)) c.in-Some.at c.in_ok-capacity.field-0) c.last.ensures.reads.capacity
    (subst (λ (K : List Event). IsShown (g.D.Drive.capacity c.last.new.drive) (held K) c.in-Some.at c.in_ok-capacity.field-0) c.last.ensures.reads.journal (c.in_ok-capacity.ensures.shown honest)) in
    (knows_opened capacity volume J S once stands c.in-Some.at state last shown _ refl refl refl (c.in_ok-new.ensures.kept J), refl)

pub returns-clause-recovers : goal.returns-clause-recovers
returns-clause-recovers g c honest once =
    let capacity = g.D.Drive.capacity c.args.drive.now in
    let J = g.D.Drive.journal c.args.drive.now in
    let state = c.in_ok-capacity.field-0 in
    let last = subst (λ (o : Option ℕ). IsLastVatIcb (held (g.D.Drive.journal c.args.drive.now)) o) c.in-Some.is (c.in_ok-at.ensures.last (c.state_at.ensures.reads.honest honest)) in
    let shown =
    subst (λ (n : ℕ). IsShown n (held (g.D.Drive.journal c.args.drive.now)) c.in-Some.at c.in_ok-capacity.field-0) c.last.ensures.reads.capacity
    (subst (λ (K : List Event). IsShown (g.D.Drive.capacity c.last.new.drive) (held K) c.in-Some.at c.in_ok-capacity.field-0) c.last.ensures.reads.journal (c.in_ok-capacity.ensures.shown honest)) in
    (shown.said, knows_opened capacity state.capacity J shown.said once (last_stands capacity (held J) c.in-Some.at state shown last) c.in-Some.at state last shown _ refl refl refl (c.in_ok-new.ensures.kept J))
