use Rattle.std.proofs.Common.{◌≡◌, ◌+◌, ◌*◌, ◌∷◌, length, take}
use Rattle.std.specs.Str.{chars}
use Rattle.std.specs.List.{flat_map}
use Rattle.osta.specs.Compressed.{two_bytes}
use Rattle.osta.proofs.writing.write_wide.Given as goal

abbrev pub invariant-loop-at : goal.invariant-loop-at
invariant-loop-at l = take (2 * length l.yielded + 1) l.into ≡ 16 ∷ flat_map two_bytes (take (length l.yielded) (chars l.text))
