-- Numbers of four bytes each, one after the other.
use Rattle.std.proofs.Common.{◌≡◌, ◌≢◌, ℕ, zero, suc, ◌+◌, ◌*◌, ◌/◌, ◌^◌, ◌<◌, ◌≤◌, true, false, List, [], ◌∷◌, length, take, drop, get_or, refl, sym, ap, ◌∙◌, arith}
use Rattle.std.specs.Prelude.{◌==◌, not}
use Rattle.std.proofs.lemmas.Bool.{ne_eqb, eq-eqb}
use Rattle.std.proofs.lemmas.List.{get_or-drop, get_or-take}
use Rattle.ecma.specs.Numbers.{u32_at, u64_at}
use Rattle.ecma.proofs.Pieces.{IsBytes}
use Rattle.vat.specs.Entry.{words, unused}

pub length-words : (xs : List ℕ) → length (words xs) ≡ length xs / 4
length-words [] = refl
length-words (a ∷ []) = refl
length-words (a ∷ b ∷ []) = refl
length-words (a ∷ b ∷ c ∷ []) = refl
length-words (a ∷ b ∷ c ∷ d ∷ rest) = omega (arith, length-words rest)

-- a byte after a place
pub cell : (k i j : ℕ) (xs : List ℕ) → j ≡ k + i → get_or (drop k xs) i 0 ≡ get_or xs j 0
cell k i j xs e = get_or-drop k xs i 0 ∙ ap (λ (n : ℕ). get_or xs n 0) (sym e)

-- a number after a place
pub u32_at-drop : (k n : ℕ) (xs : List ℕ) → u32_at n (drop k xs) ≡ u32_at (k + n) xs
u32_at-drop k n xs = omega (
  arith,
  cell k n (k + n) xs refl,
  cell k (n + 1) (k + n + 1) xs (omega arith),
  cell k (n + 2) (k + n + 2) xs (omega arith),
  cell k (n + 2 + 1) (k + n + 2 + 1) xs (omega arith),
)

pub get_or-words : (xs : List ℕ) (i : ℕ) → i < length (words xs) → get_or (words xs) i 0 ≡ u32_at (4 * i) xs
get_or-words [] i lt = absurd (omega arith)
get_or-words (a ∷ []) i lt = absurd (omega arith)
get_or-words (a ∷ b ∷ []) i lt = absurd (omega arith)
get_or-words (a ∷ b ∷ c ∷ []) i lt = absurd (omega arith)
get_or-words (a ∷ b ∷ c ∷ d ∷ rest) zero lt = refl
get_or-words (a ∷ b ∷ c ∷ d ∷ rest) (suc i) lt =
    let place : 4 + 4 * i ≡ 4 * suc i = omega arith in
    get_or-words rest i (omega arith) ∙ u32_at-drop 4 (4 * i) (a ∷ b ∷ c ∷ d ∷ rest) ∙ ap (λ (n : ℕ). u32_at n (a ∷ b ∷ c ∷ d ∷ rest)) place

-- whether a number counts as used
pub counts : (n : ℕ) → n ≢ unused → not (n == unused) ≡ true
counts n other = ap not (ne_eqb n unused other)

pub counts_not : (n : ℕ) → n ≡ unused → not (n == unused) ≡ false
counts_not n same = ap not (eq-eqb n unused same)

-- eight bytes after a place, and within a prefix
pub u64_at-drop : (k : ℕ) (xs : List ℕ) → u64_at 0 (drop k xs) ≡ u64_at k xs
u64_at-drop k xs = omega (
  arith,
  cell k 0 k xs (omega arith),
  cell k 1 (k + 1) xs refl,
  cell k 2 (k + 2) xs refl,
  cell k 3 (k + 2 + 1) xs (omega arith),
  cell k 4 (k + 4) xs refl,
  cell k 5 (k + 4 + 1) xs (omega arith),
  cell k 6 (k + 4 + 2) xs (omega arith),
  cell k 7 (k + 4 + 2 + 1) xs (omega arith),
)

pub u64_at-take : (n : ℕ) (xs : List ℕ) → 8 ≤ n → u64_at 0 (take n xs) ≡ u64_at 0 xs
u64_at-take n xs le = omega (
  arith,
  get_or-take n xs 0 0 (omega arith),
  get_or-take n xs 1 0 (omega arith),
  get_or-take n xs 2 0 (omega arith),
  get_or-take n xs 3 0 (omega arith),
  get_or-take n xs 4 0 (omega arith),
  get_or-take n xs 5 0 (omega arith),
  get_or-take n xs 6 0 (omega arith),
  get_or-take n xs 7 0 (omega arith),
)

pub u32_at-fits : (n : ℕ) (xs : List ℕ) → IsBytes xs → u32_at n xs < 2 ^ 32
u32_at-fits n xs fits = omega (arith, fits n, fits (n + 1), fits (n + 2), fits (n + 2 + 1))
