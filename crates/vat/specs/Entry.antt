-- What a table has for each virtual address: a block number, or none.
use Rattle.std.specs.Prelude.{ℕ, ◌+◌, ◌*◌, ◌^◌, ◌==◌, if◌then◌else◌, List, [], ◌∷◌, Option, Some, None}
use Rattle.std.specs.Int.{w32, to_le_bytes}

-- the number that is where there is none
abbrev pub unused : ℕ
unused = 0xFFFF_FFFF

abbrev pub entry_number : Option ℕ → ℕ
entry_number None = unused
entry_number (Some number) = number

abbrev pub number_entry : ℕ → Option ℕ
number_entry number = if number == unused then None else Some number

abbrev pub entry_bytes : Option ℕ → List ℕ
entry_bytes entry = to_le_bytes w32 (entry_number entry)

-- the numbers of four bytes each, one after the other
abbrev pub words : List ℕ → List ℕ
words (a ∷ b ∷ c ∷ d ∷ rest) = (a + b * 2 ^ 8 + (c + d * 2 ^ 8) * 2 ^ 16) ∷ words rest
words _ = []
