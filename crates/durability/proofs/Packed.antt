-- Bytes in blocks, and parts of a medium that goes on.
use Rattle.std.proofs.Common.{◌≡◌, ℕ, zero, suc, ◌+◌, ◌*◌, ◌-◌, ◌≤◌, ◌<◌, ◌⊎◌, inl, inr, List, [], ◌∷◌, ◌++◌, length, take, drop, replicate, refl, sym, ◌∙◌, ap, arith, append_assoc, append-nil, length-drop}
use Rattle.std.specs.List.{flat_map}
use Rattle.std.proofs.lemmas.List.{length-take, take-append-drop, take_all, drop_all, take-append-le}
use Rattle.std.proofs.lemmas.Grind.{div_ceil_times}
use Rattle.durability.specs.Volume.{blocks_for, bytes_in_blocks}
use Rattle.durability.specs.Plan.{blocks_from, packed}
use Rattle.durability.proofs.Lists.{side}

module _ {X : Type 0} where
  -- a part of a list that is between two others
  pub part_at : (s c : ℕ) (front part back : List X) → s ≡ length front → c ≡ length part → take c (drop s (front ++ (part ++ back))) ≡ part
  part_at zero zero [] [] back es ec = refl
  part_at zero zero [] (x ∷ part) back es ec = absurd (omega arith)
  part_at zero (suc c) [] [] back es ec = absurd (omega arith)
  part_at zero (suc c) [] (x ∷ part) back es ec = ap (λ (xs : List X). x ∷ xs) (part_at zero c [] part back refl (omega arith))
  part_at zero c (y ∷ front) part back es ec = absurd (omega arith)
  part_at (suc s) c [] part back es ec = absurd (omega arith)
  part_at (suc s) c (y ∷ front) part back es ec = part_at s c front part back (omega arith) ec

abbrev noughts : ℕ → List ℕ
noughts k = replicate k 0

noughts_more : (m n : ℕ) → noughts m ++ noughts n ≡ noughts (m + n)
noughts_more zero n = ap noughts (let e : n ≡ 0 + n = omega arith in e)
noughts_more (suc m) n = ap (λ (xs : List ℕ). 0 ∷ xs) (noughts_more m n) ∙ ap noughts (let e : suc (m + n) ≡ suc m + n = omega arith in e)

pub length-blocks_from : (n : ℕ) (bytes : List ℕ) → length (blocks_from n bytes) ≡ n
length-blocks_from zero bytes = refl
length-blocks_from (suc n) bytes = ap suc (length-blocks_from n (drop 2048 bytes))

pub length-packed : (bytes : List ℕ) → length (packed bytes) ≡ blocks_for (length bytes)
length-packed bytes = length-blocks_from (blocks_for (length bytes)) bytes

-- a block more before the others
flat_more : (n : ℕ) (bytes : List ℕ) (k : ℕ) → (length bytes < 2048) ⊎ (2048 ≤ length bytes) → flat_map (λ b. b) (blocks_from n (drop 2048 bytes)) ≡ drop 2048 bytes ++ noughts k
    → (j : ℕ) × (flat_map (λ b. b) (blocks_from (suc n) bytes) ≡ bytes ++ noughts j)
flat_more n bytes k (inl short) e =
    let front : take 2048 bytes ≡ bytes = take_all 2048 bytes (omega arith) in
    let none : drop 2048 bytes ≡ [] = drop_all 2048 bytes (omega arith) in (
      2048 - length (take 2048 bytes) + k,
      ap (λ (xs : List ℕ). (take 2048 bytes ++ noughts (2048 - length (take 2048 bytes))) ++ xs) (e ∙ ap (λ (xs : List ℕ). xs ++ noughts k) none)
          ∙ append_assoc (take 2048 bytes) (noughts (2048 - length (take 2048 bytes))) (noughts k)
          ∙ ap (λ (xs : List ℕ). take 2048 bytes ++ xs) (noughts_more (2048 - length (take 2048 bytes)) k)
          ∙ ap (λ (xs : List ℕ). xs ++ noughts (2048 - length (take 2048 bytes) + k)) front,
    )
flat_more n bytes k (inr long) e =
    let size : 2048 - length (take 2048 bytes) ≡ 0 = omega (arith, length-take 2048 bytes) in (
      k,
      ap (λ (xs : List ℕ). (take 2048 bytes ++ noughts (2048 - length (take 2048 bytes))) ++ xs) e
          ∙ ap (λ m. (take 2048 bytes ++ noughts m) ++ (drop 2048 bytes ++ noughts k)) size
          ∙ ap (λ (xs : List ℕ). xs ++ (drop 2048 bytes ++ noughts k)) (append-nil (take 2048 bytes))
          ∙ sym (append_assoc (take 2048 bytes) (drop 2048 bytes) (noughts k))
          ∙ ap (λ (xs : List ℕ). xs ++ noughts k) (take-append-drop 2048 bytes),
    )

-- the blocks hold the bytes, and then zeros
flat : (n : ℕ) (bytes : List ℕ) → length bytes ≤ n * 2048 → (k : ℕ) × (flat_map (λ b. b) (blocks_from n bytes) ≡ bytes ++ noughts k)
flat zero [] h = (0, refl)
flat zero (x ∷ bytes) h = absurd (omega arith)
flat (suc n) bytes h =
    let rest = flat n (drop 2048 bytes) (omega (arith, length-drop 2048 bytes)) in
    flat_more n bytes rest.0 (side (length bytes) 2048) rest.1

-- what was packed is read back
pub bytes-packed : (bytes : List ℕ) → bytes_in_blocks (length bytes) (packed bytes) ≡ bytes
bytes-packed bytes =
    let enough = div_ceil_times (length bytes) 2048 (omega arith) in
    let all = flat (blocks_for (length bytes)) bytes enough.0 in
    ap (λ (xs : List ℕ). take (length bytes) xs) all.1 ∙ take-append-le (length bytes) bytes (noughts all.0) (omega arith) ∙ take_all (length bytes) bytes (omega arith)
