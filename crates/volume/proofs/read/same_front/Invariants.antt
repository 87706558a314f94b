use Rattle.std.proofs.Common.{◌≡◌, ◌≤◌, ◌-◌, ◌%◌, length}
use Rattle.volume.proofs.Words.{AreSameBelow}
use Rattle.volume.proofs.read.same_front.Given as goal

abbrev pub invariant-words : goal.invariant-words
invariant-words l = record { within : l.at ≤ 2048; whole : l.at % 8 ≡ 0; same : AreSameBelow l.at l.block l.expected }

abbrev pub decreases-words : goal.decreases-words
decreases-words l = length l.block - l.at
