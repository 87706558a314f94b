use Rattle.std.proofs.Common.{false, take}
use Rattle.drive.specs.Reads.{WritesOnly}
use Rattle.drive.specs.Waiting.{TakesBlocks}
use Rattle.planning.specs.Plan.{directories_list}
use Rattle.planning.proofs.plan.write_directories.Given as goal

-- the directories so far were taken
abbrev pub invariant-loop-placed : goal.invariant-loop-placed
invariant-loop-placed g l = record {
  takes : TakesBlocks g.D.Drive l.fn.drive l.fn.writer.packets (directories_list (take l.placed-index l.directories)) l.drive l.writer.packets;
  writes : WritesOnly g.D.Drive false l.fn.drive l.drive;
}
