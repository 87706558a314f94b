-- An extent of a volume as it is in a descriptor (ECMA-167 3/7.1).
use Rattle.std.specs.Prelude.{ℕ, List, [], ◌∷◌}
use Rattle.std.specs.Int.{w32, to_le_bytes}
use Rattle.std.specs.List.{concat}
use Rattle.ecma.specs.declared.field.ExtentAd.{ExtentAd}

abbrev pub extent_ad : ExtentAd → List ℕ
extent_ad e = concat (to_le_bytes w32 e.length ∷ to_le_bytes w32 e.location ∷ [])
