use Rattle.std.proofs.Common.{◌+◌, ◌<◌, ◌^◌, List, subst, arith}
use Rattle.std.proofs.lemmas.Result.{err_from_is_err_and}
use Rattle.limits.specs.declared.TheConstants.{PARTITION_START}
use Rattle.drive.proofs.Reading.{reads_then}
use Rattle.drive.specs.Journal.{Event, held, next_of}
use Rattle.vat.specs.Table.{view}
use Rattle.store.proofs.Histories.{begins, ends, first_within, goes_on, link_below, more_within, next_below, no_link}
use Rattle.recover.specs.Tables.{IsLinkRefused}
use Rattle.store.proofs.Pasts.{newest_known}
use Rattle.store.proofs.Wholes.{history_first, history_known, history_link, left_first, left_next}
use Rattle.store.proofs.store.Store.history.Goals as goal

pub loop-vat-init : goal.loop-vat-init
loop-vat-init g c = record {
  found = λ h. begins (held (g.D.Drive.journal c.args.drive.now)) c.args.self.now.vat_icb_address (view c.in_ok-vat.vat) _ _ _ (c.in_ok-vat.ensures.table h)
      c.new-commits.ensures.items c.of.ensures c.in_ok-push.ensures.items;
  goes = λ h all is. left_first (held (g.D.Drive.journal c.args.drive.now)) c.args.self.now.vat_icb_address (view c.in_ok-vat.vat) (c.in_ok-vat.ensures.table h) all is;
  within = first_within (next_of (g.D.Drive.journal c.args.drive.now)) c.args.self.now.vat_icb_address (view c.in_ok-vat.vat) _ _ _ (omega (arith, c.requires.agrees.keeps.low)) c.requires.agrees.on
      c.new-commits.ensures.items c.of.ensures c.in_ok-push.ensures.items;
  fits = (let fits : c.args.self.now.vat_icb_address < 2 ^ 32 = omega arith in fits);
  link = c.in_ok-vat.ensures.previous;
  first = c.in_ok-vat.ensures.first;
  reads = c.in_ok-vat.ensures.reads;
}

pub linked-requires-clause-fits : goal.linked-requires-clause-fits
linked-requires-clause-fits g c =
    let below = link_below _ _ _ c.in-Some.is c.loop-vat.invariant.link in
    let fits : c.in-Some.number + PARTITION_START < 4294967296 = omega (arith, below, c.loop-vat.invariant.fits) in fits

pub overflow_add-number : goal.overflow_add-number
overflow_add-number g c = omega (arith, link_below _ _ _ c.in-Some.is c.loop-vat.invariant.link, c.loop-vat.invariant.fits)

pub loop-vat-preserved : goal.loop-vat-preserved
loop-vat-preserved g c =
    let below = link_below _ _ _ c.in-Some.is c.loop-vat.invariant.link in record {
      found = λ h. goes_on (held (g.D.Drive.journal c.args.drive.now)) c.args.self.now.vat_icb_address c.in-Some.number (view c.loop-vat.vat) (view c.in_ok-vat-2.vat) _ _ _
          (c.loop-vat.invariant.found (c.linked.ensures.reads.honest h)) c.in-Some.is (rw c.loop-vat.invariant.reads.journal at (c.in_ok-vat-2.ensures.table h))
          c.in_ok-vat-2.ensures.commits c.of-in-Some.ensures c.in_ok-push-2.ensures.items;
      goes = λ h all is. left_next (held (g.D.Drive.journal c.args.drive.now)) c.in-Some.number (view c.loop-vat.vat) (view c.in_ok-vat-2.vat) c.in-Some.is
          (rw c.loop-vat.invariant.reads.journal at (c.in_ok-vat-2.ensures.table h)) (c.loop-vat.invariant.goes (c.linked.ensures.reads.honest h) all is);
      within = more_within (next_of (g.D.Drive.journal c.args.drive.now)) (c.in-Some.number + PARTITION_START) (view c.in_ok-vat-2.vat) _ _ _ c.loop-vat.invariant.within
          (omega arith) (omega (arith, below, c.requires.agrees.on)) c.of-in-Some.ensures c.in_ok-push-2.ensures.items;
      fits = c.loop-vat.invariant.fits;
      link = next_below _ c.in-Some.number _ c.in_ok-vat-2.ensures.previous below;
      first = c.in_ok-vat-2.ensures.first;
      reads = reads_then c.loop-vat.invariant.reads c.in_ok-vat-2.ensures.reads;
    }

pub returns-clause-history : goal.returns-clause-history
returns-clause-history g c = λ h.
    ends (held (g.D.Drive.journal c.args.drive.now)) c.args.self.now.vat_icb_address (view c.loop-vat.vat) c.loop-vat.commits.items (c.loop-vat.invariant.found h)
    (no_link _ c.in_default.not-Some) c.loop-vat.invariant.first

pub returns-clause-all : goal.returns-clause-all
returns-clause-all g c volume T h knows =
    let J = g.D.Drive.journal c.args.drive.now in
    history_known (g.D.Drive.capacity c.args.drive.now) volume J T c.args.self.now.vat_icb_address (newest_known (g.D.Drive.capacity c.args.drive.now) volume J T c.args.self.now knows) c.loop-vat.commits.items
    (ends (held J) c.args.self.now.vat_icb_address (view c.loop-vat.vat) c.loop-vat.commits.items (c.loop-vat.invariant.found h) (no_link _ c.in_default.not-Some) c.loop-vat.invariant.first)

pub returns-in_err-vat-clause-refused : goal.returns-in_err-vat-clause-refused
returns-in_err-vat-clause-refused g c going =
    let q = err_from_is_err_and c.from_residual.result c.from_residual.ensures.1 in
    rw (q.1, q.2) (λ h. history_first (held (g.D.Drive.journal c.args.drive.now)) c.args.self.now.vat_icb_address _ (c.in_err-vat.ensures.refused h))

pub returns-in_err-vat-2-clause-refused : goal.returns-in_err-vat-2-clause-refused
returns-in_err-vat-2-clause-refused g c going =
    let q = err_from_is_err_and c.from_residual-in_err-vat-2.result c.from_residual-in_err-vat-2.ensures.1 in
    rw (q.1, q.2) (λ h.
    let refused = subst (λ (K : List Event). IsLinkRefused (held K) (c.in-Some.number + PARTITION_START) c.loop-vat.vat.sessions.commits c.in_err-vat-2.field-0.0) c.loop-vat.invariant.reads.journal (c.in_err-vat-2.ensures.refused h) in
    history_link (held (g.D.Drive.journal c.args.drive.now)) c.args.self.now.vat_icb_address c.in-Some.number (view c.loop-vat.vat) c.in-Some.is (c.loop-vat.invariant.goes (c.linked.ensures.reads.honest h)) _ refused)
