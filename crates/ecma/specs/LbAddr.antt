-- The address of a block in a partition as it is in a descriptor (ECMA-167 4/7.1).
use Rattle.std.specs.Prelude.{ℕ, List, [], ◌∷◌}
use Rattle.std.specs.Int.{w16, w32, to_le_bytes}
use Rattle.std.specs.List.{concat}
use Rattle.ecma.specs.declared.field.LbAddr.{LbAddr}

abbrev pub lb_addr : LbAddr → List ℕ
lb_addr a = concat (to_le_bytes w32 a.block ∷ to_le_bytes w16 a.partition ∷ [])
