use Rattle.std.proofs.Common.{◌≡◌, ◌-◌, ◌≤◌, length}
use Rattle.programs.proofs.sockets.IncomingRead.read.Given as goal

abbrev pub invariant-loop-count : goal.invariant-loop-count
invariant-loop-count g l = record {
  few : l.count ≤ length l.bytes;
  long : length l.bytes ≡ length l.fn.bytes;
}

abbrev pub decreases-loop-count : goal.decreases-loop-count
decreases-loop-count g l = length l.bytes - l.count
