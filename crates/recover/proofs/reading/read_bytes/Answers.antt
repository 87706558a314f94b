use Rattle.std.proofs.Common.{◌≡◌, ◌+◌, ◌-◌, ◌*◌, ◌<◌, ◌≤◌, ◌++◌, length, List, ℕ, take, sym, subst, arith, rules}
use Rattle.std.specs.Prelude.{min}
use Rattle.std.proofs.lemmas.Result.{err_from_is_err_and}
use Rattle.limits.specs.declared.TheConstants.{BLOCK_BYTES}
use Rattle.drive.specs.Journal.{held, next_of}
use Rattle.drive.proofs.Reading.{reads_then, reads_none}
use Rattle.recover.proofs.Blocks.{Gathered, bytes_more, gathered_none}
use Rattle.recover.proofs.Held.{held_at}
use Rattle.recover.proofs.reading.read_bytes.Goals as goal

pub loop-i-preserved : goal.loop-i-preserved
loop-i-preserved g c = record {
  size = search rules;
  read = λ h.
      let there = rw c.loop-i.invariant.reads.journal at (c.in_ok-block.ensures.read h) in
      let below : c.args.at + c.loop-i.i < next_of (g.D.Drive.journal c.args.drive.now) = omega arith in
      let long : length c.in_ok-block.block ≡ BLOCK_BYTES = omega arith in
      let inside : BLOCK_BYTES * c.loop-i.i ≤ c.args.size = omega arith in
      let items : c.extend_from_slice.new.self.items ≡ c.loop-i.bytes.items ++ take (min (c.args.size - c.loop-i.i * BLOCK_BYTES) BLOCK_BYTES) c.in_ok-block.block =
      cc (c.in_ok-extend_from_slice.ensures.items, c.min-left.ensures) in
      subst (λ (bytes : List ℕ). Gathered (held (g.D.Drive.journal c.args.drive.now)) c.args.at (c.loop-i.i + 1) c.args.size bytes) (sym items)
      (bytes_more _ _ _ _ _ _ long (held_at _ _ _ below there) inside (c.loop-i.invariant.read (c.read_block.ensures.reads.honest h)));
  reads = reads_then c.loop-i.invariant.reads c.in_ok-block.ensures.reads;
}

pub loop-i-init : goal.loop-i-init
loop-i-init g c = record {
  size = search rules;
  read = λ h. subst (λ (bytes : List ℕ). Gathered (held (g.D.Drive.journal c.args.drive.now)) c.args.at 0 c.args.size bytes) (sym c.in_ok-bytes.ensures.items) (gathered_none _ _ _);
  reads = reads_none _ _;
}

pub returns-in_err-block-clause-reads : goal.returns-in_err-block-clause-reads
returns-in_err-block-clause-reads g c =
    let q = err_from_is_err_and c.from_residual-in_err-block.result c.from_residual-in_err-block.ensures.1 in
    rw (q.1, q.2) (reads_then c.loop-i.invariant.reads c.in_err-block.ensures.reads)

pub returns-in_err-extend_from_slice-clause-reads : goal.returns-in_err-extend_from_slice-clause-reads
returns-in_err-extend_from_slice-clause-reads g c =
    let q = err_from_is_err_and c.from_residual-in_err-extend_from_slice.result c.from_residual-in_err-extend_from_slice.ensures.1 in
    rw (q.1, q.2) (reads_then c.loop-i.invariant.reads c.in_ok-block.ensures.reads)
