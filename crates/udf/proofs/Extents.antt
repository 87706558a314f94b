-- The extents of a file that has several, one by one.
use Rattle.std.proofs.Common.{◌≡◌, ℕ, zero, suc, ◌+◌, ◌-◌, ◌*◌, ◌<◌, List, ◌∷◌, length, drop, get_or, Some, refl, sym, ap, ◌∙◌, arith}
use Rattle.std.specs.Prelude.{slice_get, slice_index}
use Rattle.std.proofs.lemmas.List.{get_or-drop, drop-drop}
use Rattle.ecma.specs.Numbers.{u32_at}
use Rattle.udf.specs.Udf.{firsts_in}

cell : (at i j : ℕ) (bytes : List ℕ) → j ≡ at + i → slice_index (drop at bytes) i ≡ slice_index bytes j
cell at i j bytes e = get_or-drop at bytes i 0 ∙ ap (λ (k : ℕ). get_or bytes k 0) (sym e)

pub u32_past : (at i : ℕ) (bytes : List ℕ) → u32_at i (drop at bytes) ≡ u32_at (at + i) bytes
u32_past at i bytes =
    omega (
      arith,
      cell at i (at + i) bytes refl,
      cell at (i + 1) (at + i + 1) bytes (omega arith),
      cell at (i + 2) (at + i + 2) bytes (omega arith),
      cell at (i + 2 + 1) (at + i + 2 + 1) bytes (omega arith),
    )

-- there are as many as descriptors
pub firsts_many : (n : ℕ) (descriptors : List ℕ) → length (firsts_in n descriptors) ≡ n
firsts_many zero descriptors = refl
firsts_many (suc n) descriptors = ap suc (firsts_many n (drop 16 descriptors))

-- each is in its descriptor
pub first_at : (n : ℕ) (descriptors : List ℕ) (k : ℕ) → k < n → slice_get (firsts_in n descriptors) k ≡ Some (u32_at (16 * k + 4) descriptors)
first_at zero descriptors k lt = absurd (omega (arith, lt))
first_at (suc n) descriptors zero lt = refl
first_at (suc n) descriptors (suc k) lt =
    first_at n (drop 16 descriptors) k (omega (arith, lt)) ∙ ap (λ (m : ℕ). Some m) (u32_past 16 (16 * k + 4) descriptors ∙ ap (λ (i : ℕ). u32_at i descriptors) (omega arith))

-- those from one on
pub firsts_from : (n k : ℕ) (descriptors : List ℕ) → k < n
    → firsts_in (n - k) (drop (16 * k) descriptors) ≡ u32_at (16 * k + 4) descriptors ∷ firsts_in (n - (k + 1)) (drop (16 * (k + 1)) descriptors)
firsts_from n k descriptors lt =
    ap (λ (m : ℕ). firsts_in m (drop (16 * k) descriptors)) (let e : n - k ≡ suc (n - (k + 1)) = omega (arith, lt) in e)
    ∙ ap (λ (first : ℕ). first ∷ firsts_in (n - (k + 1)) (drop 16 (drop (16 * k) descriptors))) (u32_past (16 * k) 4 descriptors)
    ∙ ap (λ (rest : List ℕ). u32_at (16 * k + 4) descriptors ∷ firsts_in (n - (k + 1)) rest)
    (drop-drop 16 (16 * k) descriptors ∙ ap (λ (m : ℕ). drop m descriptors) (let e : 16 * k + 16 ≡ 16 * (k + 1) = omega arith in e))
