-- File identifiers: ECMA-167 4/14.4, with the choices of UDF 2.01 2.3.4.
use Rattle.std.specs.Prelude.{ℕ, ◌+◌, ◌-◌, ◌*◌, ◌/◌, min, List, [], ◌∷◌, ◌++◌, length, take, replicate}
use Rattle.std.specs.Int.{w16, w32, to_le_bytes}
use Rattle.std.specs.List.{concat}
use Rattle.limits.specs.declared.TheConstants.{BLOCK_BYTES}
use Rattle.ecma.specs.Crc.{crc_of}
use Rattle.ecma.specs.EntityId.{developer}
use Rattle.ecma.specs.Tag.{tag_cells}

-- what an identifier says: a compressed name, file characteristics, the virtual address of an entry and a unique ID
pub record Identifier : Type 0 where
  pub name : List ℕ
  pub characteristics : ℕ
  pub icb : ℕ
  pub unique : ℕ

-- the least multiple of 4 that is not below the size
abbrev pub rounded : ℕ → ℕ
rounded size = (size + 3) / 4 * 4

-- the bytes of an identifier with a name of so many bytes and no implementation use
abbrev pub plain_size : ℕ → ℕ
plain_size len = rounded (38 + len)

-- the implementation use that lengthens an identifier by so many bytes
abbrev pub use_of : ℕ → List ℕ
use_of more = take (min more 32) developer ++ replicate (more - 32) 0

-- the fields from the tag's end to the implementation use
abbrev pub head_of : ℕ → ℕ → ℕ → ℕ → ℕ → List ℕ
head_of characteristics len icb unique more = concat (
    to_le_bytes w16 1  -- 16 file version number
    ∷ (characteristics ∷ len ∷ [])  -- 18 file characteristics, 19 length of file identifier
    ∷ to_le_bytes w32 BLOCK_BYTES ∷ to_le_bytes w32 icb ∷ to_le_bytes w16 1  -- 20 ICB: extent length, extent location and its partition
    ∷ to_le_bytes w16 0 ∷ to_le_bytes w32 unique  -- 30 its implementation use: flags and unique ID
    ∷ to_le_bytes w16 more  -- 36 length of implementation use
    ∷ [])

-- an identifier after its tag, lengthened by so many bytes
abbrev pub body_of : Identifier → ℕ → List ℕ
body_of x more =
    head_of x.characteristics (length x.name) x.icb x.unique more
    -- 38 implementation use, file identifier and padding
    ++ (use_of more ++ (x.name ++ replicate (plain_size (length x.name) - (38 + length x.name)) 0))

-- a whole identifier in the block of this number
unfoldable pub identifier : ℕ → Identifier → ℕ → List ℕ
identifier number x more =
    let body = body_of x more in tag_cells 257 (crc_of body) (length body) number ++ body
