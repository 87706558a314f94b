use Rattle.std.proofs.Common.{◌≢◌, ℕ, ◌<◌}
use Rattle.std.specs.Prelude.{slice_index_or}
use Rattle.vat.specs.declared.record.Record.{Record}
use Rattle.table_update.proofs.table.place_of.Given as goal

abbrev pub invariant-loop-i : goal.invariant-loop-i
invariant-loop-i l = (k : ℕ) (d : Record) → k < l.i → (slice_index_or l.records k d).client ≢ l.client
