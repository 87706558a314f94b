use Rattle.std.proofs.Common.{false, take, replicate}
use Rattle.drive.specs.Reads.{WritesOnly}
use Rattle.drive.specs.Waiting.{TakesBlocks}
use Rattle.durability.specs.Plan.{zeros}
use Rattle.planning.proofs.write.Writer.put_zeros.Given as goal

-- so many of the blocks were taken
abbrev pub invariant-loop-i : goal.invariant-loop-i
invariant-loop-i g l = record {
  takes : TakesBlocks g.D.Drive l.fn.drive l.fn.self.packets (take l.i (replicate l.count zeros)) l.drive l.self.packets;
  writes : WritesOnly g.D.Drive false l.fn.drive l.drive;
}
