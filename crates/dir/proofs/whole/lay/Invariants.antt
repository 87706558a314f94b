use Rattle.std.proofs.Common.{◌≡◌, ◌++◌, length}
use Rattle.std.specs.List.{All}
use Rattle.ecma.specs.Numbers.{u16_at}
use Rattle.dir.specs.Directory.{directory_blocks}
use Rattle.dir.specs.Laying.{blocks_left}
use Rattle.dir.proofs.whole.lay.Given as goal

abbrev pub invariant-loop-lay : goal.invariant-loop-lay
invariant-loop-lay l =
    (directory_blocks l.dir l.first ≡ l.blocks.items ++ blocks_left l.lay) × All (λ block. u16_at 0 block ≡ 257) l.blocks.items

abbrev pub decreases-loop-lay : goal.decreases-loop-lay
decreases-loop-lay l = length (blocks_left l.lay)
