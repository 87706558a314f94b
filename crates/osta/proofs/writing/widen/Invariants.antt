use Rattle.std.proofs.Common.{◌≡◌, ◌*◌, take}
use Rattle.std.specs.List.{flat_map}
use Rattle.osta.specs.Compressed.{two_bytes}
use Rattle.osta.proofs.writing.widen.Given as goal

abbrev pub invariant-loop-at : goal.invariant-loop-at
invariant-loop-at l = take (2 * l.at) l.into ≡ flat_map two_bytes (take l.at l.ascii)
