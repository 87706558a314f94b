use Rattle.std.proofs.Common.{◌≤◌, ℕ, List, refl, sym, ap, subst, ◌∙◌, arith}
use Rattle.std.proofs.lemmas.Result.{err_from_is_err_and}
use Rattle.drive.proofs.Reading.{reads_then}
use Rattle.drive.specs.Journal.{Event, held}
use Rattle.durability.specs.Formats.{Table_}
use Rattle.vat.specs.Table.{view}
use Rattle.recover.proofs.Told.{one_read}
use Rattle.recover.specs.declared.fault.StoreFault.{StoreFault}
use Rattle.recover.specs.State.{IsStateRefused}
use Rattle.store.specs.Past.{IsPastRefused}
use Rattle.store.proofs.Knowing.{commits}
use Rattle.store.proofs.Pasts.{newest_known, past_shown, state_refused, way_refused}
use Rattle.recover.proofs.BelowLemmas.{below_entry}
use Rattle.store.proofs.store.Store.as_of.Goals as goal

pub invariant_of-result : goal.invariant_of-result
invariant_of-result g c =
    let sound = c.in_ok-vat.ensures.sound in
    record {
      few = sound.table.table.fits.many;
      below = below_entry c.in_ok-at.at c.in_ok-vat.field-0.vat.entries.items c.in_ok-at.ensures.within.0 sound.table.entries;
    }

pub returns-clause-table : goal.returns-clause-table
returns-clause-table g c = λ h.
    let J : List Event = g.D.Drive.journal c.args.drive.now in
    let found = c.in_ok-at.ensures.table (c.state_at.ensures.reads.honest h) in
    let there = rw c.table_of.ensures.reads.journal at (c.in_ok-vat.ensures.table h) in
    let same = one_read (held J) c.in_ok-at.at (view c.in_ok-vat.field-0.vat) (view c.in_ok-at.field-0-1) there found.table in
    record { steps = found.steps; leads = found.leads; table = there; commits_are = ap (λ (t : Table_). t.commits) same ∙ found.commits_are }

pub returns-clause-shown : goal.returns-clause-shown
returns-clause-shown g c = λ h.
    (c.in_ok-vat.field-0, rw c.table_of.ensures.reads.capacity at (rw c.table_of.ensures.reads.journal at (c.in_ok-vat.ensures.shown h)), refl)

pub returns-clause-past : goal.returns-clause-past
returns-clause-past g c volume T h knows =
    let J = g.D.Drive.journal c.args.drive.now in
    let capacity = g.D.Drive.capacity c.args.drive.now in
    let shown = rw c.table_of.ensures.reads.capacity at (rw c.table_of.ensures.reads.journal at (c.in_ok-vat.ensures.shown h)) in
    past_shown capacity volume J T c.args.self.now.vat_icb_address (newest_known capacity volume J T c.args.self.now knows) c.args.commit c.in_ok-at.at c.in_ok-at.field-0-1 (c.in_ok-at.ensures.table (c.state_at.ensures.reads.honest h)) c.in_ok-vat.field-0
    c.in_ok-at.ensures.within.0 c.in_ok-at.ensures.within.1 shown

pub returns-in_err-at-clause-refused : goal.returns-in_err-at-clause-refused
returns-in_err-at-clause-refused g c volume T h knows going =
    let q = err_from_is_err_and c.from_residual.result c.from_residual.ensures.1 in
    let J = g.D.Drive.journal c.args.drive.now in
    let capacity = g.D.Drive.capacity c.args.drive.now in
    let enough : c.args.commit ≤ T.commits = omega (arith, c.if-commit-self.false, commits capacity volume J T c.args.self.now knows) in
    let refused = subst (λ (f : StoreFault). IsPastRefused capacity volume (held J) T.commits c.args.commit f) (sym q.2)
    (way_refused capacity volume J T c.args.self.now.vat_icb_address (newest_known capacity volume J T c.args.self.now knows) c.args.commit enough _ (c.in_err-at.ensures.refused h)) in
    rw q.1 refused

pub returns-in_err-vat-clause-refused : goal.returns-in_err-vat-clause-refused
returns-in_err-vat-clause-refused g c volume T h knows going =
    let q = err_from_is_err_and c.from_residual-in_err-vat.result c.from_residual-in_err-vat.ensures.1 in
    let J = g.D.Drive.journal c.args.drive.now in
    let capacity = g.D.Drive.capacity c.args.drive.now in
    let unread = subst (λ (n : ℕ). IsStateRefused n (held J) c.in_ok-at.at c.in_err-vat.field-0.0) c.table_of.ensures.reads.capacity
    (subst (λ (K : List Event). IsStateRefused (g.D.Drive.capacity c.table_of.new.drive) (held K) c.in_ok-at.at c.in_err-vat.field-0.0) c.table_of.ensures.reads.journal (c.in_err-vat.ensures.refused h)) in
    let refused = subst (λ (f : StoreFault). IsPastRefused capacity volume (held J) T.commits c.args.commit f) (sym q.2)
    (state_refused capacity volume J T c.args.self.now.vat_icb_address (newest_known capacity volume J T c.args.self.now knows) c.args.commit c.in_ok-at.at c.in_ok-at.field-0-1 (c.in_ok-at.ensures.table (c.state_at.ensures.reads.honest h)) _ unread) in
    rw q.1 refused

pub returns-clause-reads : goal.returns-clause-reads
returns-clause-reads g c = reads_then c.in_ok-at.ensures.reads c.in_ok-vat.ensures.reads
