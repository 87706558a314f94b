use Rattle.std.proofs.Common.{◌≤◌}
use Rattle.drive.specs.Journal.{next_of}
use Rattle.base_tests.proofs.steps.play.Given as goal

abbrev pub invariant-loop-i : goal.invariant-loop-i
invariant-loop-i g l = l.next ≤ next_of (g.D.Drive.journal l.drive)
