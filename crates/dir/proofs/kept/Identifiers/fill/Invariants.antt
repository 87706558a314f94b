use Rattle.std.proofs.Common.{◌≡◌, ◌≤◌}
use Rattle.dir.specs.Fronts.{IsIdentifierPrefix}
use Rattle.dir.proofs.kept.Identifiers.fill.Given as goal

abbrev pub invariant-loop-index : goal.invariant-loop-index
invariant-loop-index l = record {
  front : IsIdentifierPrefix l.self l.dir.entries.entries;
  count : l.self.count ≡ l.index;
  onward : l.fn.self.count ≤ l.self.count;
}
