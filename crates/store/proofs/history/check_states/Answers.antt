use Rattle.std.proofs.Common.{◌≡◌, ◌+◌, ◌<◌, ◌^◌, inl, inr, refl, arith}
use Rattle.std.proofs.lemmas.Result.{err_from_is_err_and}
use Rattle.limits.specs.declared.TheConstants.{PARTITION_START}
use Rattle.drive.proofs.Reading.{reads_then}
use Rattle.drive.specs.Journal.{held}
use Rattle.vat.specs.Table.{view}
use Rattle.store.proofs.Checks.{all_seen, first_seen, first_unseen, link_under, link_unseen, link_within, next_seen, next_unseen}
use Rattle.store.proofs.Histories.{link_below, no_link}
use Rattle.store.proofs.history.check_states.Goals as goal

pub state_sharing-requires-clause-known : goal.state_sharing-requires-clause-known
state_sharing-requires-clause-known g c = λ h. c.new-known.ensures (held (g.D.Drive.journal c.args.drive.now))

pub loop-vat-init : goal.loop-vat-init
loop-vat-init g c = record {
  seen = λ h. first_seen (held (g.D.Drive.journal c.args.drive.now)) (g.D.Drive.capacity c.args.drive.now) c.args.at (view c.in_ok-newest.field-0.vat) (c.in_ok-newest.ensures.table h)
      c.in_ok-newest.field-0 (c.in_ok-newest.ensures.shown h);
  newest = λ h. (c.in_ok-newest.field-0, c.in_ok-newest.ensures.shown h, refl);
  known = c.state_sharing.ensures.reads.known;
  fits = (let fits : c.args.at < 2 ^ 32 = omega arith in fits);
  link = link_within _ c.args.at c.requires.low c.in_ok-newest.ensures.sound.table.previous;
  first = c.in_ok-newest.ensures.sound.table.table.fits.first;
  reads = c.in_ok-newest.ensures.reads.reads;
}

pub loop-vat-preserved : goal.loop-vat-preserved
loop-vat-preserved g c =
    let below = link_below _ _ _ c.in-Some.is c.loop-vat.invariant.link in
    let fewer : c.in_ok-before.field-0.vat.sessions.commits + 1 ≡ c.loop-vat.vat.sessions.commits = omega (arith, c.if-from.false, c.from.ensures, c.from-in-Some.ensures) in record {
      seen = λ h. next_seen (held (g.D.Drive.journal c.args.drive.now)) (g.D.Drive.capacity c.args.drive.now) c.args.at c.in-Some.number (view c.loop-vat.vat) (view c.in_ok-before.field-0.vat)
          (c.loop-vat.invariant.seen (c.state_sharing-in-Some.ensures.reads.reads.honest h)) c.in-Some.is (rw c.loop-vat.invariant.reads.journal at (c.in_ok-before.ensures.table h)) fewer
          c.in_ok-before.field-0 (rw c.loop-vat.invariant.reads.capacity at (rw c.loop-vat.invariant.reads.journal at (c.in_ok-before.ensures.shown h)));
      newest = λ h. c.loop-vat.invariant.newest (c.state_sharing-in-Some.ensures.reads.reads.honest h);
      known = c.state_sharing-in-Some.ensures.reads.known;
      fits = c.loop-vat.invariant.fits;
      link = link_under _ c.in-Some.number c.args.at c.in_ok-before.ensures.sound.table.previous below;
      first = c.in_ok-before.ensures.sound.table.table.fits.first;
      reads = reads_then c.loop-vat.invariant.reads c.in_ok-before.ensures.reads.reads;
    }

pub returns-clause-checked : goal.returns-clause-checked
returns-clause-checked g c = λ h.
    all_seen (held (g.D.Drive.journal c.args.drive.now)) (g.D.Drive.capacity c.args.drive.now) c.args.at (view c.loop-vat.vat) (c.loop-vat.invariant.seen h) (no_link _ c.in_default.not-Some)
    c.loop-vat.invariant.first

pub returns-clause-count : goal.returns-clause-count
returns-clause-count g c = c.loop-vat.invariant.newest

pub returns-in_err-newest-clause-newest : goal.returns-in_err-newest-clause-newest
returns-in_err-newest-clause-newest g c =
    let q = err_from_is_err_and c.from_residual.result c.from_residual.ensures.1 in
    rw (q.1, q.2) (λ h. inl (c.in_err-newest.ensures.refused h))

pub returns-in_err-before-clause-newest : goal.returns-in_err-before-clause-newest
returns-in_err-before-clause-newest g c =
    let q = err_from_is_err_and c.from_residual-in_err-before.result c.from_residual-in_err-before.ensures.1 in
    rw (q.1, q.2) (λ h. let found = c.loop-vat.invariant.newest (c.state_sharing-in-Some.ensures.reads.reads.honest h) in inr (found.0, found.1))

pub returns-then-from-clause-newest : goal.returns-then-from-clause-newest
returns-then-from-clause-newest g c = rw c.damaged.ensures (λ h.
    let found = c.loop-vat.invariant.newest (c.state_sharing-in-Some.ensures.reads.reads.honest h) in inr (found.0, found.1))

pub returns-in_err-newest-clause-refused : goal.returns-in_err-newest-clause-refused
returns-in_err-newest-clause-refused g c =
    let q = err_from_is_err_and c.from_residual.result c.from_residual.ensures.1 in
    rw (q.1, q.2) (λ h. first_unseen (held (g.D.Drive.journal c.args.drive.now)) (g.D.Drive.capacity c.args.drive.now) c.args.at _ (c.in_err-newest.ensures.refused h))

pub returns-in_err-before-clause-refused : goal.returns-in_err-before-clause-refused
returns-in_err-before-clause-refused g c =
    let q = err_from_is_err_and c.from_residual-in_err-before.result c.from_residual-in_err-before.ensures.1 in
    rw (q.1, q.2) (λ h.
    next_unseen (held (g.D.Drive.journal c.args.drive.now)) (g.D.Drive.capacity c.args.drive.now) c.args.at c.in-Some.number (view c.loop-vat.vat)
    (c.loop-vat.invariant.seen (c.state_sharing-in-Some.ensures.reads.reads.honest h)) c.in-Some.is _
    (rw c.loop-vat.invariant.reads.capacity at (rw c.loop-vat.invariant.reads.journal at (c.in_err-before.ensures.refused h))))

pub returns-then-from-clause-refused : goal.returns-then-from-clause-refused
returns-then-from-clause-refused g c = rw c.damaged.ensures (λ h.
    link_unseen (held (g.D.Drive.journal c.args.drive.now)) (g.D.Drive.capacity c.args.drive.now) c.args.at c.in-Some.number (view c.loop-vat.vat) (view c.in_ok-before.field-0.vat)
    (c.loop-vat.invariant.seen (c.state_sharing-in-Some.ensures.reads.reads.honest h)) c.in-Some.is (rw c.loop-vat.invariant.reads.journal at (c.in_ok-before.ensures.table h))
    (λ same. absurd (omega (arith, same, c.if-from.true, c.from.ensures, c.from-in-Some.ensures))) (c.in-Some.number + PARTITION_START) 78)

pub returns-in_err-before-clause-reads : goal.returns-in_err-before-clause-reads
returns-in_err-before-clause-reads g c =
    let q = err_from_is_err_and c.from_residual-in_err-before.result c.from_residual-in_err-before.ensures.1 in
    rw (q.1, q.2) (reads_then c.loop-vat.invariant.reads c.in_err-before.ensures.reads.reads)

pub returns-then-from-clause-reads : goal.returns-then-from-clause-reads
returns-then-from-clause-reads g c = rw c.damaged.ensures (reads_then c.loop-vat.invariant.reads c.in_ok-before.ensures.reads.reads)
