use Rattle.std.proofs.Common.{◌≡◌, ◌*◌, length, take, drop}
use Rattle.std.specs.List.{flat_map, AllByRecursion}
use Rattle.vat.specs.Record.{record_bytes, IsKept}
use Rattle.vat.specs.Rules.{version_at, commits_at, record_size_at}
use Rattle.vat.proofs.decode.read_records.Given as goal

abbrev pub invariant-loop-i : goal.invariant-loop-i
invariant-loop-i l = record {
  count : length l.records.items ≡ l.i;
  kept : AllByRecursion (IsKept (version_at l.bytes) (commits_at l.bytes)) l.records.items;
  whole : flat_map (record_bytes (version_at l.bytes)) l.records.items ≡ take (record_size_at l.bytes * l.i) (drop 196 l.bytes);
}
