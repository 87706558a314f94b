use Rattle.std.proofs.Common.{◌-◌}
use Rattle.dir.proofs.Runs.{IsRun}
use Rattle.dir.proofs.laying.Lay.put_kept.Given as goal

abbrev pub invariant-loop-next : goal.invariant-loop-next
invariant-loop-next l = IsRun l.fn.self l.start l.fn.block l.at l.next l.kept l.block

abbrev pub decreases-loop-next : goal.decreases-loop-next
decreases-loop-next l = l.self.known - l.next
