-- An entity identifier as it is in a descriptor (ECMA-167 1/7.4): flags, which are 0, the identifier
-- and its suffix.
use Rattle.std.specs.Prelude.{ℕ, List, [], ◌∷◌, ◌++◌, codes, take, replicate}
use Rattle.std.specs.List.{concat}
use Rattle.ecma.specs.declared.entity.EntityId.{EntityId}

-- the bytes with zeros after them, n in all: an array of n bytes as it is
abbrev pub zero_filled : ℕ → List ℕ → List ℕ
zero_filled n bytes = take n (bytes ++ replicate n 0)

abbrev pub entity_id : EntityId → List ℕ
entity_id id = concat ((0 ∷ []) ∷ zero_filled 23 id.identifier ∷ zero_filled 8 id.suffix ∷ [])

-- the bytes of an entity by its text and its suffix
abbrev pub entity : List ℕ → List ℕ → List ℕ
entity text suffix = concat ((0 ∷ []) ∷ zero_filled 23 text ∷ suffix ∷ [])

-- revision 2.01 of UDF, with no operating system, or of its domain, with no protection
abbrev pub udf_suffix : List ℕ
udf_suffix = 0x01 ∷ 0x02 ∷ replicate 6 0

-- the program that writes these volumes
abbrev pub developer : List ℕ
developer = entity (codes "*udfburn") (replicate 8 0)

-- the domain of UDF
abbrev pub domain : List ℕ
domain = entity (codes "*OSTA UDF Compliant") udf_suffix
