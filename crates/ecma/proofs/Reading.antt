-- Numbers that are read after a place.
use Rattle.std.proofs.Common.{◌≡◌, ℕ, ◌+◌, List, drop, get_or, ap, ◌∙◌, sym, arith}
use Rattle.std.specs.Prelude.{slice_index}
use Rattle.std.proofs.lemmas.List.{get_or-drop}
use Rattle.byteorder.specs.Endian.{little_number}
use Rattle.ecma.specs.Numbers.{u16_at, u32_at, u64_at}

cell : (at i j : ℕ) (bytes : List ℕ) → j ≡ at + i → slice_index (drop at bytes) i ≡ slice_index bytes j
cell at i j bytes e = get_or-drop at bytes i 0 ∙ ap (λ (k : ℕ). get_or bytes k 0) (sym e)

pub u16_read : (at : ℕ) (bytes : List ℕ) → little_number 2 (drop at bytes) ≡ u16_at at bytes
u16_read at bytes = omega (arith, cell at 0 at bytes (omega arith), cell at 1 (at + 1) bytes (omega arith))

pub u32_read : (at : ℕ) (bytes : List ℕ) → little_number 4 (drop at bytes) ≡ u32_at at bytes
u32_read at bytes =
    omega (
      arith,
      cell at 0 at bytes (omega arith),
      cell at 1 (at + 1) bytes (omega arith),
      cell at 2 (at + 2) bytes (omega arith),
      cell at 3 (at + 2 + 1) bytes (omega arith),
    )

pub u64_read : (at : ℕ) (bytes : List ℕ) → little_number 8 (drop at bytes) ≡ u64_at at bytes
u64_read at bytes =
    omega (
      arith,
      cell at 0 at bytes (omega arith),
      cell at 1 (at + 1) bytes (omega arith),
      cell at 2 (at + 2) bytes (omega arith),
      cell at 3 (at + 2 + 1) bytes (omega arith),
      cell at 4 (at + 4) bytes (omega arith),
      cell at 5 (at + 4 + 1) bytes (omega arith),
      cell at 6 (at + 4 + 2) bytes (omega arith),
      cell at 7 (at + 4 + 2 + 1) bytes (omega arith),
    )
