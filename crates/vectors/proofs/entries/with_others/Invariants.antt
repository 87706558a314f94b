use Rattle.std.proofs.Common.{◌≡◌, ℕ, ◌*◌, ◌+◌, ◌<◌, length}
use Rattle.icb.specs.Extents.{IsExtent, extent_size}
use Rattle.vectors.proofs.entries.with_others.Given as goal

abbrev pub invariant-loop-index : goal.invariant-loop-index
invariant-loop-index l = (length l.all.items ≡ 16 * l.index) × ((k : ℕ) → k < l.index → IsExtent (0 + 16 * k) (extent_size l.size k) l.all.items)
