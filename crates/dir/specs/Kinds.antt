-- File characteristics: ECMA-167 4/14.4.3.
use Rattle.std.specs.Prelude.{◌≡◌, ◌⊎◌, ℕ}

-- of a file, a directory or a parent
abbrev pub IsKind : ℕ → Type 0
IsKind characteristics = (characteristics ≡ 0) ⊎ (characteristics ≡ 2) ⊎ (characteristics ≡ 0x0A)
