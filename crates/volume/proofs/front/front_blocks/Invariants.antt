use Rattle.std.proofs.Common.{◌≡◌, ℕ, ◌<◌, [], length, get_or}
use Rattle.volume.specs.Front.{IsFrontBlock}
use Rattle.volume.proofs.front.front_blocks.Given as goal

abbrev pub invariant-loop-n : goal.invariant-loop-n
invariant-loop-n l = record {
  count : length l.blocks.items ≡ l.n;
  each : (k : ℕ) → k < l.n → IsFrontBlock l.label l.moment l.capacity k (get_or l.blocks.items k []);
}
