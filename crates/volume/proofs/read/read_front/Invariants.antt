use Rattle.std.proofs.Common.{ℕ, ◌<◌, [], get_or}
use Rattle.volume.specs.Front.{IsFrontBlock}
use Rattle.volume.proofs.read.read_front.Given as goal

abbrev pub invariant-loop-n : goal.invariant-loop-n
invariant-loop-n l = (k : ℕ) → k < l.n → IsFrontBlock l.front.label l.front.moment l.front.capacity k (get_or l.blocks k [])
