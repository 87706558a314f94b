use Rattle.std.proofs.Common.{◌≡◌, ◌-◌, ◌≤◌}
use Rattle.std.specs.Prelude.{vec_len}
use Rattle.recover.specs.Seen.{WalksOn}
use Rattle.recover.proofs.walk.Walk.visit_checked.Given as goal

abbrev pub invariant-loop-index : goal.invariant-loop-index
invariant-loop-index l = record {
  visits : WalksOn l.fn.self l.self l.files l.depth l.from l.index;
  on : l.from ≤ l.index;
  at : l.self.at ≡ l.fn.self.at;
  entries : l.self.entries ≡ l.fn.self.entries;
  next_unique : l.self.next_unique ≡ l.fn.self.next_unique;
  directories : l.self.directories ≡ l.fn.self.directories;
}

abbrev pub decreases-loop-index : goal.decreases-loop-index
decreases-loop-index l = vec_len l.files.files - l.index
