use Rattle.std.proofs.Common.{ℕ, Option, inl, sym, subst, ◌∙◌}
use Rattle.std.specs.Prelude.{IsTrue}
use Rattle.std.proofs.lemmas.Result.{err_from_is_err_and}
use Rattle.drive.specs.Journal.{held}
use Rattle.recover.specs.declared.fault.StoreFault.{StoreFault}
use Rattle.recover.specs.Tables.{IsLastVatIcb}
use Rattle.store.specs.Opened.{IsOpenRefused}
use Rattle.store.specs.Past.{IsCheckRefused}
use Rattle.store.proofs.Checks.{counts, leads_back, not_counted, recovers}
use Rattle.store.proofs.Opening.{some_entry}
use Rattle.store.proofs.history.check_volume.Goals as goal

pub returns-in_err-at-clause-counts : goal.returns-in_err-at-clause-counts
returns-in_err-at-clause-counts g c volume S h stands =
    let q = err_from_is_err_and c.from_residual.result c.from_residual.ensures.1 in
    rw q.1 (subst (λ (f : StoreFault). IsCheckRefused (g.D.Drive.capacity c.args.drive.now) volume (held (g.D.Drive.journal c.args.drive.now)) S.commits f) (sym (q.2 ∙ c.in_err-at.ensures.device)) tt)

pub returns-in_err-at-clause-refused : goal.returns-in_err-at-clause-refused
returns-in_err-at-clause-refused g c =
    let q = err_from_is_err_and c.from_residual.result c.from_residual.ensures.1 in
    rw q.1 (λ h. inl (subst (λ (f : StoreFault). IsOpenRefused (g.D.Drive.capacity c.args.drive.now) (held (g.D.Drive.journal c.args.drive.now)) f) (sym (q.2 ∙ c.in_err-at.ensures.device)) tt))

pub returns-in-None-clause-counts : goal.returns-in-None-clause-counts
returns-in-None-clause-counts g c volume S h stands =
    absurd (some_entry (g.D.Drive.capacity c.args.drive.now) volume (held (g.D.Drive.journal c.args.drive.now)) S stands
    (subst (λ (o : Option ℕ). IsLastVatIcb (held (g.D.Drive.journal c.args.drive.now)) o) c.in-None.is (c.in_ok-at.ensures.last h)))

pub returns-in-None-clause-refused : goal.returns-in-None-clause-refused
returns-in-None-clause-refused g c = λ h. inl (subst (λ (o : Option ℕ). IsLastVatIcb (held (g.D.Drive.journal c.args.drive.now)) o) c.in-None.is (c.in_ok-at.ensures.last h))

pub returns-in-Some-clause-counts : goal.returns-in-Some-clause-counts
returns-in-Some-clause-counts g c volume S h stands =
    counts (g.D.Drive.capacity c.args.drive.now) (g.D.Drive.journal c.args.drive.now) c.in-Some.at (IsTrue (g.D.Drive.honest c.check_states.new.drive)) (λ k. subst (λ (o : Option ℕ). IsLastVatIcb (held (g.D.Drive.journal c.args.drive.now)) o) c.in-Some.is (c.in_ok-at.ensures.last (c.check_states.ensures.reads.honest k))) volume S c.check_states.result
    (rw c.last.ensures.reads.capacity at (rw c.last.ensures.reads.journal at c.check_states.ensures.checked))
    (rw c.last.ensures.reads.capacity at (rw c.last.ensures.reads.journal at c.check_states.ensures.count))
    (rw c.last.ensures.reads.capacity at (rw c.last.ensures.reads.journal at c.check_states.ensures.refused)) h stands

pub returns-in-Some-clause-recovers : goal.returns-in-Some-clause-recovers
returns-in-Some-clause-recovers g c =
    recovers (g.D.Drive.capacity c.args.drive.now) (g.D.Drive.journal c.args.drive.now) c.in-Some.at (IsTrue (g.D.Drive.honest c.check_states.new.drive)) (λ k. subst (λ (o : Option ℕ). IsLastVatIcb (held (g.D.Drive.journal c.args.drive.now)) o) c.in-Some.is (c.in_ok-at.ensures.last (c.check_states.ensures.reads.honest k))) c.check_states.result
    (rw c.last.ensures.reads.capacity at (rw c.last.ensures.reads.journal at c.check_states.ensures.count))

pub returns-in-Some-clause-history : goal.returns-in-Some-clause-history
returns-in-Some-clause-history g c =
    leads_back (g.D.Drive.capacity c.args.drive.now) (g.D.Drive.journal c.args.drive.now) c.in-Some.at (IsTrue (g.D.Drive.honest c.check_states.new.drive)) (λ k. subst (λ (o : Option ℕ). IsLastVatIcb (held (g.D.Drive.journal c.args.drive.now)) o) c.in-Some.is (c.in_ok-at.ensures.last (c.check_states.ensures.reads.honest k))) c.check_states.result
    (rw c.last.ensures.reads.capacity at (rw c.last.ensures.reads.journal at c.check_states.ensures.checked))

pub returns-in-Some-clause-refused : goal.returns-in-Some-clause-refused
returns-in-Some-clause-refused g c =
    not_counted (g.D.Drive.capacity c.args.drive.now) (g.D.Drive.journal c.args.drive.now) c.in-Some.at (IsTrue (g.D.Drive.honest c.check_states.new.drive)) (λ k. subst (λ (o : Option ℕ). IsLastVatIcb (held (g.D.Drive.journal c.args.drive.now)) o) c.in-Some.is (c.in_ok-at.ensures.last (c.check_states.ensures.reads.honest k))) c.check_states.result
    (rw c.last.ensures.reads.capacity at (rw c.last.ensures.reads.journal at c.check_states.ensures.refused))
    (rw c.last.ensures.reads.capacity at (rw c.last.ensures.reads.journal at c.check_states.ensures.newest))
