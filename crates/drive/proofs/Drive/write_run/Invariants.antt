use Rattle.std.proofs.Common.{◌≡◌, false, ◌+◌, ◌-◌, ◌≤◌, ◌++◌, length, take}
use Rattle.drive.specs.Journal.{written}
use Rattle.drive.specs.Gathering.{KeepsGathering}
use Rattle.drive.specs.Writes.{SplitsRun}
use Rattle.drive.proofs.Drive.write_run.Given as goal

-- what was written so far is a prefix of the blocks
abbrev pub invariant-loop-done : goal.invariant-loop-done
invariant-loop-done g l = record {
  in_range : l.done ≤ length l.first + length l.second;
  journal : g.Self.Drive.journal l.self ≡ g.Self.Drive.journal l.fn.self ++ written l.at (take l.done (l.first ++ l.second));
  runs : SplitsRun l.at (take l.done (l.first ++ l.second)) false (g.Self.Drive.journal l.fn.self) (g.Self.Drive.writes l.fn.self) (g.Self.Drive.journal l.self) (g.Self.Drive.writes l.self);
  capacity : g.Self.Drive.capacity l.self ≡ g.Self.Drive.capacity l.fn.self;
  failures : g.Self.Drive.failures l.self ≡ g.Self.Drive.failures l.fn.self;
  misreads : g.Self.Drive.misreads l.self ≡ g.Self.Drive.misreads l.fn.self;
  honest : g.Self.Drive.honest l.self ≡ g.Self.Drive.honest l.fn.self;
  gathering : KeepsGathering (g.Self.Drive.gathering l.fn.self) (g.Self.Drive.gathering l.self) (g.Self.Drive.writes l.fn.self) (g.Self.Drive.writes l.self);
}

abbrev pub decreases-loop-done : goal.decreases-loop-done
decreases-loop-done g l = length l.first + length l.second - l.done
