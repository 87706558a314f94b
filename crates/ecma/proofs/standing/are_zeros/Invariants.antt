use Rattle.std.proofs.Common.{length, ◌-◌}
use Rattle.ecma.proofs.InBytes.{AreZerosBelow}
use Rattle.ecma.proofs.standing.are_zeros.Given as goal

abbrev pub invariant-runs : goal.invariant-runs
invariant-runs l = AreZerosBelow l.at l.bytes

abbrev pub decreases-runs : goal.decreases-runs
decreases-runs l = length l.bytes - l.at

abbrev pub invariant-words : goal.invariant-words
invariant-words l = AreZerosBelow l.at l.bytes

abbrev pub decreases-words : goal.decreases-words
decreases-words l = length l.bytes - l.at

abbrev pub invariant-bytes : goal.invariant-bytes
invariant-bytes l = AreZerosBelow l.at l.bytes

abbrev pub decreases-bytes : goal.decreases-bytes
decreases-bytes l = length l.bytes - l.at
