use Rattle.std.proofs.Common.{◌≢◌, ℕ, ◌<◌}
use Rattle.ecma.specs.Numbers.{u64_at}
use Rattle.vat.specs.Rules.{record_place}
use Rattle.vat.proofs.rules.has_clients.Given as goal

abbrev pub invariant-loop-j : goal.invariant-loop-j
invariant-loop-j l = (i k : ℕ) → i < k → k < l.j → u64_at (record_place l.bytes i) l.bytes ≢ u64_at (record_place l.bytes k) l.bytes
