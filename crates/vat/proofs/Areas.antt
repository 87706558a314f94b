-- Pieces of one size, one after the other.
use Rattle.std.proofs.Common.{◌≡◌, ℕ, zero, suc, ◌+◌, ◌*◌, ◌<◌, List, [], ◌∷◌, ◌++◌, length, take, drop, get_or, sym, ap, ◌∙◌, append_assoc, arith}
use Rattle.std.specs.List.{flat_map, AllByRecursion}
use Rattle.std.proofs.lemmas.List.{take-append-drop, take-take, drop-take, drop-drop, take_at, drop_at, length-append}

pub take-plus : (a b : ℕ) (xs : List ℕ) → take (a + b) xs ≡ take a xs ++ take b (drop a xs)
take-plus a b xs =
    sym (take-append-drop a (take (a + b) xs))
    ∙ ap (λ (x : List ℕ). x ++ drop a (take (a + b) xs)) (take-take a (a + b) xs (omega arith))
    ∙ ap (λ (x : List ℕ). take a xs ++ x) (drop-take a b xs)

-- one piece more
pub take_piece : (size i at : ℕ) (xs : List ℕ) → take (size * (i + 1)) (drop at xs) ≡ take (size * i) (drop at xs) ++ take size (drop (at + size * i) xs)
take_piece size i at xs =
    let split : size * (i + 1) ≡ size * i + size = omega arith in
    ap (λ (n : ℕ). take n (drop at xs)) split ∙ take-plus (size * i) size (drop at xs)
    ∙ ap (λ (x : List ℕ). take (size * i) (drop at xs) ++ take size x) (drop-drop (size * i) at xs)

pub length-pieces : {X : Type 0} (f : X → List ℕ) (n : ℕ) (xs : List X) → AllByRecursion (λ x. length (f x) ≡ n) xs → length (flat_map f xs) ≡ n * length xs
length-pieces f n [] all = omega arith
length-pieces f n (x ∷ xs) all = omega (arith, length-append (f x) (flat_map f xs), all.0, length-pieces f n xs all.1)

-- the i-th piece
pub piece_at : {X : Type 0} (f : X → List ℕ) (n : ℕ) (xs : List X) (rest : List ℕ) (i : ℕ) (d : X) → AllByRecursion (λ x. length (f x) ≡ n) xs → i < length xs
    → take n (drop (n * i) (flat_map f xs ++ rest)) ≡ f (get_or xs i d)
piece_at f n [] rest i d all lt = absurd (omega arith)
piece_at f n (x ∷ xs) rest zero d all lt =
    let none : n * 0 ≡ 0 = omega arith in
    rw none (ap (take n) (append_assoc (f x) (flat_map f xs) rest) ∙ take_at (f x) (flat_map f xs ++ rest) n all.0)
piece_at f n (x ∷ xs) rest (suc i) d all lt =
    let split : n * suc i ≡ n + n * i = omega arith in
    ap (λ (k : ℕ). take n (drop k ((f x ++ flat_map f xs) ++ rest))) split
    ∙ ap (take n) (sym (drop-drop (n * i) n ((f x ++ flat_map f xs) ++ rest))
    ∙ ap (drop (n * i)) (ap (drop n) (append_assoc (f x) (flat_map f xs) rest) ∙ drop_at (f x) (flat_map f xs ++ rest) n all.0))
    ∙ piece_at f n xs rest i d all.1 (omega arith)
