use Rattle.std.proofs.Common.{◌≡◌, ◌*◌, ◌++◌, take, drop}
use Rattle.std.specs.List.{flat_map}
use Rattle.vat.specs.Entry.{entry_bytes}
use Rattle.vat.proofs.encode.write_entries.Given as goal

abbrev pub invariant-loop-entry : goal.invariant-loop-entry
invariant-loop-entry l = record {
  place : l.at ≡ 4 * l.entry-index;
  written : l.into ≡ flat_map entry_bytes (take l.entry-index l.entries) ++ drop l.at l.initial.into;
}
