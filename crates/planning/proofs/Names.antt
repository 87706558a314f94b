-- Names of directories, one after another.
use Rattle.std.proofs.Common.{◌≡◌, ℕ, zero, suc, ◌+◌, List, [], ◌∷◌, length, take, sym, refl, subst, arith}
use Rattle.std.specs.Prelude.{slice_get, Some, All}

pub all_more : {X : Type 0} (P : X → Type 0) (xs : List X) (i : ℕ) (x : X) → slice_get xs i ≡ Some x → P x → All P (take i xs) → All P (take (i + 1) xs)
all_more P [] i x found is all k d lt = absurd (cc)
all_more P (y ∷ xs) zero x found is all zero d lt = let same : y ≡ x = cc in subst P (sym same) is
all_more P (y ∷ xs) zero x found is all (suc k) d lt = absurd (omega (arith, lt))
all_more P (y ∷ xs) (suc i) x found is all k d lt =
    let next : suc i + 1 ≡ suc (i + 1) = omega arith in
    subst (λ n. All P (take n (y ∷ xs))) (sym next) (after (all_more P xs i x found is (λ j e h. all (suc j) e (omega (arith, h))))) k d lt
  where
    after : All P (take (i + 1) xs) → All P (y ∷ take (i + 1) xs)
    after more zero d lt = all 0 d (omega arith)
    after more (suc k) d lt = more k d (omega (arith, lt))

-- the next of some items, and the rest
pub all_next : {X : Type 0} (P : X → Type 0) (xs rest : List X) (x : X) → xs ≡ x ∷ rest → All P xs → P x × All P rest
all_next {X = X} P xs rest x is all =
    let each : All P (x ∷ rest) = subst (λ (ys : List X). All P ys) is all in
    (each 0 x (omega arith), λ k d lt. each (suc k) d (omega (arith, lt)))

pub nothing : {X : Type 0} (xs : List X) → length xs ≡ 0 → xs ≡ []
nothing [] e = refl
nothing (x ∷ xs) e = absurd (omega (arith, e))
