use Rattle.std.proofs.Common.{◌≡◌, ◌+◌, ◌∷◌, length, take}
use Rattle.std.specs.Str.{chars}
use Rattle.osta.proofs.writing.write_narrow.Given as goal

abbrev pub invariant-loop-at : goal.invariant-loop-at
invariant-loop-at l = take (length l.yielded + 1) l.into ≡ 8 ∷ take (length l.yielded) (chars l.text)
