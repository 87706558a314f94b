use Rattle.std.proofs.Common.{◌≡◌, ℕ, ◌<◌, ◌≤◌, get_or}
use Rattle.std.specs.Prelude.{◌⊎◌}
use Rattle.vat.specs.Entry.{words, unused}
use Rattle.vat.proofs.rules.are_entries.Given as goal

abbrev pub invariant-loop-i : goal.invariant-loop-i
invariant-loop-i l = (k : ℕ) → k < l.i → (get_or (words l.text) k 0 < l.icb) ⊎ ((get_or (words l.text) k 0 ≡ unused) × (2 ≤ k))
