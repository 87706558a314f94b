-- Lists that grow at their end.
use Rattle.std.specs.Prelude.{◌≡◌, ℕ, List, length, take}

-- the new list begins with the old one
abbrev pub KeepsFront : List ℕ → List ℕ → Type 0
KeepsFront old new = take (length old) new ≡ old
