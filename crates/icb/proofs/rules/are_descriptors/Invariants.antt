use Rattle.std.proofs.Common.{ℕ, ◌+◌, ◌*◌, ◌<◌}
use Rattle.icb.specs.Extents.{IsExtent, extent_size}
use Rattle.icb.proofs.rules.are_descriptors.Given as goal

abbrev pub invariant-loop-index : goal.invariant-loop-index
invariant-loop-index l = (k : ℕ) → k < l.index → IsExtent (l.at + 16 * k) (extent_size l.size k) l.block
