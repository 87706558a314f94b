use Rattle.std.proofs.Common.{false, take}
use Rattle.drive.specs.Reads.{WritesOnly}
use Rattle.drive.specs.Waiting.{TakesBlocks}
use Rattle.drive.proofs.packet.PacketWriter.put_all.Given as goal

-- the blocks so far were taken
abbrev pub invariant-loop-block : goal.invariant-loop-block
invariant-loop-block g l = record {
  taken : TakesBlocks g.D.Drive l.fn.drive l.fn.self (take l.block-index l.blocks) l.drive l.self;
  writes : WritesOnly g.D.Drive false l.fn.drive l.drive;
}
