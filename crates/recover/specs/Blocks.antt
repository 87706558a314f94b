-- What lies on a medium, the list of its blocks, from an address on.
use Rattle.std.specs.Prelude.{ℕ, List, take, drop}
use Rattle.std.specs.Int.{div_ceil}
use Rattle.std.specs.List.{flat_map}
use Rattle.limits.specs.declared.TheConstants.{BLOCK_BYTES}

-- so many blocks
abbrev pub blocks_at : List (List ℕ) → ℕ → ℕ → List (List ℕ)
blocks_at medium at count = take count (drop at medium)

-- so many bytes
abbrev pub medium_bytes_at : List (List ℕ) → ℕ → ℕ → List ℕ
medium_bytes_at medium at size = take size (flat_map (λ b. b) (blocks_at medium at (div_ceil size BLOCK_BYTES)))
