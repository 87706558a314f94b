use Rattle.std.proofs.Common.{◌+◌, ◌<◌, arith, rules}
use Rattle.std.proofs.lemmas.List.Elements.{All-push}
use Rattle.std.proofs.lemmas.Result.{err_from_is_err_and}
use Rattle.udf.specs.Udf.{IsBlock}
use Rattle.drive.specs.Journal.{held, next_of}
use Rattle.drive.proofs.Reading.{reads_then}
use Rattle.recover.proofs.Blocks.{blocks_more}
use Rattle.recover.proofs.Held.{held_at}
use Rattle.recover.proofs.reading.read_blocks.Goals as goal

pub loop-i-preserved : goal.loop-i-preserved
loop-i-preserved g c = record {
  blocks = rw c.in_ok-push.ensures.items (All-push IsBlock _ _ c.loop-i.invariant.blocks c.in_ok-block.ensures.block);
  count = search rules;
  read = λ h.
      let there = rw c.loop-i.invariant.reads.journal at (c.in_ok-block.ensures.read h) in
      let below : c.args.at + c.loop-i.i < next_of (g.D.Drive.journal c.args.drive.now) = omega arith in
      let more = blocks_more (held (g.D.Drive.journal c.args.drive.now)) c.args.at c.loop-i.i c.in_ok-block.block (held_at _ _ _ below there) in
      cc (c.in_ok-push.ensures.items, c.loop-i.invariant.read (c.read_block.ensures.reads.honest h), more);
  reads = reads_then c.loop-i.invariant.reads c.in_ok-block.ensures.reads;
}

pub returns-in_err-block-clause-reads : goal.returns-in_err-block-clause-reads
returns-in_err-block-clause-reads g c =
    let q = err_from_is_err_and c.from_residual-in_err-block.result c.from_residual-in_err-block.ensures.1 in
    rw (q.1, q.2) (reads_then c.loop-i.invariant.reads c.in_err-block.ensures.reads)

pub returns-in_err-push-clause-reads : goal.returns-in_err-push-clause-reads
returns-in_err-push-clause-reads g c =
    let q = err_from_is_err_and c.from_residual-in_err-push.result c.from_residual-in_err-push.ensures.1 in
    rw (q.1, q.2) (reads_then c.loop-i.invariant.reads c.in_ok-block.ensures.reads)
