use Rattle.std.proofs.Common.{ℕ, sym, subst}
use Rattle.std.proofs.lemmas.Result.{err_from_is_err_and}
use Rattle.drive.specs.Journal.{held}
use Rattle.recover.specs.declared.fault.StoreFault.{StoreFault}
use Rattle.store.specs.Past.{AllRecovered, IsCheckRefused}
use Rattle.store.proofs.Checks.{unchecked}
use Rattle.store.proofs.Knowing.{commits}
use Rattle.store.proofs.Pasts.{low_here, newest_known}
use Rattle.store.proofs.Wholes.{whole}
use Rattle.store.proofs.store.Store.check.Goals as goal

pub returns-clause-whole : goal.returns-clause-whole
returns-clause-whole g c volume T h knows =
    let J = g.D.Drive.journal c.args.drive.now in
    let capacity = g.D.Drive.capacity c.args.drive.now in
    let checked = c.in_ok-check_states.ensures.checked h in
    let count = commits capacity volume J T c.args.self.now knows in
    let at = c.args.self.now.vat_icb_address in
    let newest = newest_known capacity volume J T c.args.self.now knows in
    let all = whole capacity volume J T at newest checked.commits (low_here capacity volume J T at newest) checked.history checked.shown in
    (count, subst (λ (n : ℕ). AllRecovered capacity volume (held J) n) (sym count) all)

pub returns-in_err-check_states-clause-refused : goal.returns-in_err-check_states-clause-refused
returns-in_err-check_states-clause-refused g c volume T h knows going =
    let q = err_from_is_err_and c.from_residual.result c.from_residual.ensures.1 in
    let J = g.D.Drive.journal c.args.drive.now in
    let capacity = g.D.Drive.capacity c.args.drive.now in
    let refused = subst (λ (f : StoreFault). IsCheckRefused capacity volume (held J) T.commits f) (sym q.2)
    (unchecked capacity volume J T c.args.self.now.vat_icb_address (newest_known capacity volume J T c.args.self.now knows) _ (c.in_err-check_states.ensures.refused h)) in
    rw q.1 refused
