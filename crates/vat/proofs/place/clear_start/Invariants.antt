use Rattle.std.proofs.Common.{ℕ, ◌≤◌, ◌<◌}
use Rattle.vat.specs.Imitation.{Imitates}
use Rattle.vat.proofs.place.clear_start.Given as goal

abbrev pub invariant-loop-start : goal.invariant-loop-start
invariant-loop-start l = (k : ℕ) → l.from ≤ k → k < l.start → Imitates l.bytes k
