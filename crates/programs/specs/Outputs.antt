-- What is written on the output of a connection.
use Rattle.std.specs.Prelude.{◌≡◌, ⊤, ℕ, List, [], ◌∷◌, Option, Some, None}

-- nothing was written on an output, where its bytes are known
abbrev pub IsBlank : Option (List ℕ) → Type 0
IsBlank None = ⊤
IsBlank (Some bytes) = bytes ≡ []

-- the bytes, where they are known
abbrev pub known : Option (List ℕ) → List (List ℕ)
known None = []
known (Some bytes) = bytes ∷ []
