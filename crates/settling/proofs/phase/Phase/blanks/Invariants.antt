use Rattle.std.proofs.Common.{◌≡◌, ◌+◌, take}
use Rattle.drive.specs.Journal.{written}
use Rattle.settling.specs.Phases.{blanked}
use Rattle.settling.proofs.phase.Phase.blanks.Given as goal

abbrev pub invariant-loop-block : goal.invariant-loop-block
invariant-loop-block l = record {
  given : l.given.items ≡ blanked l.marks (written l.from (take l.block-index l.blocks));
  at : l.at ≡ l.from + l.block-index;
}
