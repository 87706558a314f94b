use Rattle.std.proofs.Common.{◌≡◌, ◌*◌, ◌≤◌, length, take}
use Rattle.std.specs.List.{flat_map}
use Rattle.dir.specs.Fronts.{named, plain}
use Rattle.dir.proofs.kept.place.Given as goal

abbrev pub invariant-loop-before : goal.invariant-loop-before
invariant-loop-before l = record {
  start : l.start ≡ length (flat_map plain (take l.before (named l.dir.entries.entries)));
  bound : l.start ≤ 296 * l.before;
}
