use Rattle.std.proofs.Common.{◌≢◌, ℕ, ◌<◌}
use Rattle.ecma.specs.Numbers.{u64_at}
use Rattle.vat.specs.Rules.{record_place}
use Rattle.vat.proofs.rules.is_new_client.Given as goal

abbrev pub invariant-loop-i : goal.invariant-loop-i
invariant-loop-i l = (k : ℕ) → k < l.i → u64_at (record_place l.bytes k) l.bytes ≢ u64_at (record_place l.bytes l.j) l.bytes
