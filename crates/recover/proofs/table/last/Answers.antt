use Rattle.std.proofs.Common.{◌-◌, ◌<◌, ◌≤◌, IsTrue, sym, subst, ◌∙◌, arith}
use Rattle.std.proofs.lemmas.Bool.{false≢true}
use Rattle.limits.specs.declared.TheConstants.{PARTITION_START}
use Rattle.drive.specs.Journal.{held, next_of}
use Rattle.drive.proofs.Reading.{reads_then}
use Rattle.recover.proofs.Held.{held_at, length-held}
use Rattle.recover.proofs.Tables.{none_above, none_after, none_more}
use Rattle.recover.proofs.table.last.Goals as goal

pub loop-left-init : goal.loop-left-init
loop-left-init g c = record {
  unseen = λ h. none_after (held (g.D.Drive.journal c.args.drive.now)) c.in-Ok.next (omega (arith, length-held (g.D.Drive.journal c.args.drive.now), c.in-Ok.ensures.next));
  within = (let within : c.in-Ok.next ≤ next_of (g.D.Drive.journal c.args.drive.now) = omega (arith, c.in-Ok.ensures.next) in within);
  reads = record {
    journal = c.next.ensures.journal;
    writes = c.next.ensures.writes;
    capacity = c.next.ensures.capacity;
    failures = λ few. omega (arith, c.in-Ok.ensures.failures);
    misreads = omega (arith, c.next.ensures.misreads);
    honest = subst IsTrue c.next.ensures.honest;
    stays = λ same. subst IsTrue (sym c.next.ensures.honest);
    gathering = c.next.ensures.gathering;
  };
}

pub loop-left-preserved : goal.loop-left-preserved
loop-left-preserved g c = record {
  unseen = λ h.
      let there = rw c.loop-left.invariant.reads.journal at (c.in_ok-block.ensures.read h) in
      let below : c.loop-left.left - 1 < next_of (g.D.Drive.journal c.args.drive.now) = omega arith in
      none_more (held (g.D.Drive.journal c.args.drive.now)) (c.loop-left.left - 1) c.in_ok-block.block (held_at _ _ _ below there)
      (λ is. false≢true (sym c.if-is_vat_icb.false ∙ c.is_vat_icb.ensures.1 is))
      (none_above (held (g.D.Drive.journal c.args.drive.now)) c.loop-left.left _ (omega arith) (c.loop-left.invariant.unseen (c.read_block.ensures.reads.honest h)));
  within = (let within : c.loop-left.left - 1 ≤ next_of (g.D.Drive.journal c.args.drive.now) = omega arith in within);
  reads = reads_then c.loop-left.invariant.reads c.in_ok-block.ensures.reads;
}

pub returns-then-is_vat_icb-clause-last : goal.returns-then-is_vat_icb-clause-last
returns-then-is_vat_icb-clause-last g c = λ h.
    let there = rw c.loop-left.invariant.reads.journal at (c.in_ok-block.ensures.read h) in
    let below : c.loop-left.left - 1 < next_of (g.D.Drive.journal c.args.drive.now) = omega arith in (
      omega arith,
      record { block = c.in_ok-block.block; there = held_at _ _ _ below there; is = c.is_vat_icb.ensures.0 c.if-is_vat_icb.true },
      none_above (held (g.D.Drive.journal c.args.drive.now)) c.loop-left.left _ (omega arith) (c.loop-left.invariant.unseen (c.read_block.ensures.reads.honest h)),
    )

pub returns-clause-last : goal.returns-clause-last
returns-clause-last g c = λ h. none_above (held (g.D.Drive.journal c.args.drive.now)) c.loop-left.left PARTITION_START (omega arith) (c.loop-left.invariant.unseen h)
