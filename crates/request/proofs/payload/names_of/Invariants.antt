use Rattle.std.proofs.Common.{◌≡◌, ◌-◌, ◌≤◌, length}
use Rattle.request.specs.Reading.{names_at}
use Rattle.request.proofs.NameLoop.{with_front}
use Rattle.request.proofs.payload.names_of.Given as goal

abbrev pub invariant-loop : goal.invariant-loop
invariant-loop l =
    (length l.path ≤ l.counter) × (with_front l.path (names_at (l.count - l.counter) l.rest) ≡ names_at l.count l.bytes)
