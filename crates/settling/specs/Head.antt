-- What opening makes of the bytes after the last whole block of a file.
use Rattle.std.specs.Prelude.{◌≡◌, ◌⊎◌, ◌≤◌, ℕ, List, [], ◌∷◌, length, take, drop, Option, Some}
use Rattle.byteorder.specs.Endian.{little_number}
use Rattle.drive.specs.Journal.{Event, next_of}

-- `UDFGROUP`
abbrev pub magic : List ℕ
magic = 85 ∷ 68 ∷ 70 ∷ 71 ∷ 82 ∷ 79 ∷ 85 ∷ 80 ∷ []

-- The bytes are a head, of a group from an address on, in a file of so many blocks. The marks and the sum are left out.
pub record IsHead (part : List ℕ) (from count : ℕ) : Type 0 where
  pub size : length part ≡ 280
  pub begins : take 8 part ≡ magic
  pub group : from ≡ little_number 4 (drop 8 part)
  pub blocks : count ≡ little_number 4 (drop 12 part)
  pub within : from ≤ count

-- Of the blocks of a file these count: all, or those before a group, if the bytes after the last block are its head.
abbrev pub Counts : Option (List ℕ) → List Event → List Event → Type 0
Counts found J K = (K ≡ J) ⊎ ((part : List ℕ) × (found ≡ Some part) × ((from : ℕ) × IsHead part from (next_of J) × (K ≡ take from J)))
