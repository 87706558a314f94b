use Rattle.std.proofs.Common.{◌+◌, ◌<◌, ◌≤◌, ◌^◌, List, refl, subst, suc, arith}
use Rattle.std.proofs.lemmas.Result.{err_from_is_err_and}
use Rattle.limits.specs.declared.TheConstants.{PARTITION_START}
use Rattle.drive.proofs.Reading.{reads_then}
use Rattle.drive.specs.Journal.{Event, held, next_of}
use Rattle.vat.specs.Table.{view}
use Rattle.durability.specs.Formats.{Table_}
use Rattle.recover.proofs.Told.{one_read}
use Rattle.recover.specs.Tables.{IsLinkRefused}
use Rattle.store.proofs.Histories.{link_below, next_later, no_link, one_before}
use Rattle.store.proofs.Ways.{more_than, way_end, way_first, way_link}
use Rattle.store.proofs.store.Store.table_of.Goals as goal

pub loop-vat-init : goal.loop-vat-init
loop-vat-init g c = record {
  leads = λ h. (0, refl);
  table = c.in_ok-vat.ensures.table;
  more = λ h first there le. subst (λ (t : Table_). c.args.commit ≤ t.commits) (one_read (held (g.D.Drive.journal c.args.drive.now)) c.args.self.now.vat_icb_address first (view c.in_ok-vat.vat) there (c.in_ok-vat.ensures.table h)) le;
  first = c.in_ok-vat.ensures.first;
  low = (let low : PARTITION_START ≤ c.args.self.now.vat_icb_address = omega (arith, c.requires.agrees.keeps.low) in low);
  high = c.requires.agrees.on;
  fits = (let fits : c.args.self.now.vat_icb_address < 2 ^ 32 = omega arith in fits);
  link = c.in_ok-vat.ensures.previous;
  reads = c.in_ok-vat.ensures.reads;
}

pub linked-requires-clause-fits : goal.linked-requires-clause-fits
linked-requires-clause-fits g c =
    let below = link_below _ _ _ c.in-Some.is c.loop-vat.invariant.link in
    let fits : c.in-Some.number + PARTITION_START < 4294967296 = omega (arith, below, c.loop-vat.invariant.fits) in fits

pub overflow_add-at : goal.overflow_add-at
overflow_add-at g c = omega (arith, link_below _ _ _ c.in-Some.is c.loop-vat.invariant.link, c.loop-vat.invariant.fits)

pub loop-vat-preserved : goal.loop-vat-preserved
loop-vat-preserved g c =
    let below = link_below _ _ _ c.in-Some.is c.loop-vat.invariant.link in record {
      leads = λ h.
          let before = c.loop-vat.invariant.leads (c.linked.ensures.reads.honest h) in (
            suc before.0,
            (
              c.loop-vat.at,
              before.1,
              one_before (held (g.D.Drive.journal c.args.drive.now)) c.loop-vat.at c.in-Some.number (view c.loop-vat.vat) (view c.in_ok-vat-2.vat)
                  (c.loop-vat.invariant.table (c.linked.ensures.reads.honest h)) c.in-Some.is (rw c.loop-vat.invariant.reads.journal at (c.in_ok-vat-2.ensures.table h)) c.in_ok-vat-2.ensures.commits,
            ),
          );
      table = λ h. rw c.loop-vat.invariant.reads.journal at (c.in_ok-vat-2.ensures.table h);
      more = λ h first there le.
          let less = more_than c.args.commit c.loop-vat.vat.sessions.commits (c.loop-vat.invariant.more (c.linked.ensures.reads.honest h) first there le) c.loop-vat-test.true in
          omega (arith, less, c.in_ok-vat-2.ensures.commits);
      first = c.in_ok-vat-2.ensures.first;
      low = (let low : PARTITION_START ≤ c.in-Some.number + PARTITION_START = omega arith in low);
      high = (let high : c.in-Some.number + PARTITION_START < next_of (g.D.Drive.journal c.args.drive.now) = omega (arith, below, c.loop-vat.invariant.high) in high);
      fits = (let fits : c.in-Some.number + PARTITION_START < 2 ^ 32 = omega (arith, below, c.loop-vat.invariant.fits) in fits);
      link = next_later _ c.in-Some.number c.in_ok-vat-2.ensures.previous;
      reads = reads_then c.loop-vat.invariant.reads c.in_ok-vat-2.ensures.reads;
    }

pub returns-clause-table : goal.returns-clause-table
returns-clause-table g c = λ h.
    let leads = c.loop-vat.invariant.leads h in
    record { steps = leads.0; leads = leads.1; table = c.loop-vat.invariant.table h; commits_are = c.loop-vat-test.false }

pub returns-in_err-vat-clause-refused : goal.returns-in_err-vat-clause-refused
returns-in_err-vat-clause-refused g c =
    let q = err_from_is_err_and c.from_residual.result c.from_residual.ensures.1 in
    rw (q.1, q.2) (λ h. way_first (held (g.D.Drive.journal c.args.drive.now)) c.args.self.now.vat_icb_address c.args.commit _ (c.in_err-vat.ensures.refused h))

pub returns-in_default-clause-refused : goal.returns-in_default-clause-refused
returns-in_default-clause-refused g c = rw c.damaged.ensures (λ h.
    way_end (held (g.D.Drive.journal c.args.drive.now)) c.args.self.now.vat_icb_address c.args.commit (view c.loop-vat.vat) (no_link _ c.in_default.not-Some) c.loop-vat.invariant.first c.loop-vat-test.true
    (c.loop-vat.invariant.more h) 0 0)

pub returns-in_err-vat-2-clause-refused : goal.returns-in_err-vat-2-clause-refused
returns-in_err-vat-2-clause-refused g c =
    let q = err_from_is_err_and c.from_residual-in_err-vat-2.result c.from_residual-in_err-vat-2.ensures.1 in
    rw (q.1, q.2) (λ h.
    let now = c.linked.ensures.reads.honest h in
    let leads = c.loop-vat.invariant.leads now in
    let refused = subst (λ (K : List Event). IsLinkRefused (held K) (c.in-Some.number + PARTITION_START) c.loop-vat.vat.sessions.commits c.in_err-vat-2.field-0.0) c.loop-vat.invariant.reads.journal (c.in_err-vat-2.ensures.refused h) in
    way_link (held (g.D.Drive.journal c.args.drive.now)) c.args.self.now.vat_icb_address c.args.commit leads.0 c.loop-vat.at c.in-Some.number (view c.loop-vat.vat) leads.1 (c.loop-vat.invariant.table now) c.in-Some.is
    (λ first there le. more_than c.args.commit c.loop-vat.vat.sessions.commits (c.loop-vat.invariant.more now first there le) c.loop-vat-test.true) _ refused)
