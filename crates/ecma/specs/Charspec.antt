-- The character set of every text of UDF as it is in a descriptor (ECMA-167 1/7.2.1, UDF 2.01 2.1.2).
use Rattle.std.specs.Prelude.{ℕ, List, [], ◌∷◌, codes, replicate}
use Rattle.std.specs.List.{concat}

abbrev pub cs0 : List ℕ
cs0 = concat ((0 ∷ codes "OSTA Compressed Unicode") ∷ replicate 40 0 ∷ [])
