use Rattle.std.proofs.Common.{◌≡◌, false, ◌++◌, ℕ, List, length}
use Rattle.drive.specs.Reads.{WritesOnly}
use Rattle.drive.specs.Waiting.{TakesBlocks}
use Rattle.dir.specs.Directory.{directory_blocks}
use Rattle.dir.specs.Laying.{blocks_left}
use Rattle.planning.proofs.write.Writer.put_directory.Given as goal

-- the blocks that are not left were taken
abbrev pub invariant-loop-lay : goal.invariant-loop-lay
invariant-loop-lay g l = record {
  takes : (done : List (List ℕ)) × (directory_blocks l.content.dir l.first ≡ done ++ blocks_left l.lay) × TakesBlocks g.D.Drive l.fn.drive l.fn.self.packets done l.drive l.self.packets;
  writes : WritesOnly g.D.Drive false l.fn.drive l.drive;
}

abbrev pub decreases-loop-lay : goal.decreases-loop-lay
decreases-loop-lay g l = length (blocks_left l.lay)
