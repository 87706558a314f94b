use Rattle.std.proofs.Common.{ℕ, ◌<◌}
use Rattle.vat.specs.Record.{SpellsRecord}
use Rattle.vat.specs.Rules.{version_at, commits_at, record_text}
use Rattle.vat.proofs.rules.has_records.Given as goal

abbrev pub invariant-loop-i : goal.invariant-loop-i
invariant-loop-i l = (k : ℕ) → k < l.i → SpellsRecord (version_at l.bytes) (commits_at l.bytes) (record_text l.bytes k)
