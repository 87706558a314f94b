-- Tables of which one place is written.
use Rattle.std.proofs.Common.{◌≡◌, ℕ, zero, suc, ◌<◌, List, [], ◌∷◌, length, get_or, set, refl, arith}

module _ {X : Type 0} (d : X) where
  -- whatever holds of each place, and of what is written at its own, holds of each place after it
  pub holds_written : (P : ℕ → X → Type 0) (xs : List X) (i : ℕ) (v : X) → i < length xs → P i v → ((k : ℕ) → P k (get_or xs k d)) → (k : ℕ) → P k (get_or (set xs i v) k d)
  holds_written P [] i v within p h k = h k
  holds_written P (x ∷ xs) zero v within p h zero = p
  holds_written P (x ∷ xs) zero v within p h (suc k) = h (suc k)
  holds_written P (x ∷ xs) (suc i) v within p h zero = h zero
  holds_written P (x ∷ xs) (suc i) v within p h (suc k) = holds_written (λ n. P (suc n)) xs i v (omega (arith, within)) p (λ n. h (suc n)) k

  -- below the end, what stands for none says nothing
  pub same_below : (e : X) (xs : List X) (i : ℕ) → i < length xs → get_or xs i d ≡ get_or xs i e
  same_below e [] i within = absurd (omega (arith, within))
  same_below e (x ∷ xs) zero within = refl
  same_below e (x ∷ xs) (suc i) within = same_below e xs i (omega (arith, within))
