use Rattle.std.proofs.Common.{[]}
use Rattle.std.proofs.lemmas.Result.{err_from_is_err_and}
use Rattle.drive.proofs.Packing.{takes_next, stops_next, stops_before}
use Rattle.drive.proofs.Reading.{writes_then}
use Rattle.drive.proofs.packet.PacketWriter.put_all.Goals as goal

pub returns-in_err-put-clause-err : goal.returns-in_err-put-clause-err
returns-in_err-put-clause-err g c =
    let p = err_from_is_err_and c.from_residual.result c.from_residual.ensures.1 in
    rw p.1 (stops_next c.args.drive.now c.loop-block.drive c.put.new.drive c.args.self.now c.loop-block.self c.loop-block.block-index c.args.blocks.now [] c.loop-block-test.true c.loop-block.invariant.taken (stops_before c.in_err-put.ensures.err))

pub loop-block-preserved : goal.loop-block-preserved
loop-block-preserved g c = record {
  taken = takes_next c.args.drive.now c.loop-block.drive c.put.new.drive c.args.self.now c.loop-block.self c.put.new.self c.loop-block.block-index c.args.blocks.now [] c.loop-block-test.true c.loop-block.invariant.taken c.in_ok-put.ensures.ok;
  writes = writes_then c.loop-block.invariant.writes c.in_ok-put.ensures.writes;
}
