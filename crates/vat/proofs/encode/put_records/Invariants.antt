use Rattle.std.proofs.Common.{◌≡◌, ◌++◌, take}
use Rattle.std.specs.List.{flat_map}
use Rattle.vat.specs.Record.{record_bytes}
use Rattle.vat.proofs.encode.put_records.Given as goal

abbrev pub invariant-loop-kept : goal.invariant-loop-kept
invariant-loop-kept l = l.out.items ≡ l.initial.out.items ++ flat_map (record_bytes l.version) (take l.kept-index l.records)
