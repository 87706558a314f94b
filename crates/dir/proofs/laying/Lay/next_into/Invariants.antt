use Rattle.std.proofs.Common.{◌-◌}
use Rattle.dir.specs.Laying.{IsFilled}
use Rattle.dir.proofs.laying.Lay.next_into.Given as goal

abbrev pub invariant-loop-at : goal.invariant-loop-at
invariant-loop-at l = IsFilled l.initial.self l.self l.at l.block

abbrev pub decreases-loop-at : goal.decreases-loop-at
decreases-loop-at l = 2048 - l.at
