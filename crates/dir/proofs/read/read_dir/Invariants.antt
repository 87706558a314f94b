use Rattle.std.proofs.Common.{◌<◌, ◌^◌, length, take}
use Rattle.std.specs.List.{All, concat}
use Rattle.dir.specs.Directory.{identifiers, IsDirectoryEntry}
use Rattle.dir.proofs.Directories.{IsRead}
use Rattle.dir.proofs.read.read_dir.Given as goal

abbrev pub invariant-loop-fids : goal.invariant-loop-fids
invariant-loop-fids l =
    IsRead (take l.size (concat l.blocks)) l.first (identifiers l.parent l.entries.entries) l.fids
    × (l.parent < 2 ^ 32) × All IsDirectoryEntry l.entries.entries

abbrev pub decreases-loop-fids : goal.decreases-loop-fids
decreases-loop-fids l = length l.fids.data.now
