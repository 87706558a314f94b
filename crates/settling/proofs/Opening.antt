-- What counts of the blocks of a file is a front of them.
use Rattle.std.proofs.Common.{◌≡◌, ◌⊎◌, inl, inr, ℕ, zero, suc, ◌≤◌, List, [], ◌∷◌, ◌++◌, length, take, Option, refl, ap, subst, ◌∙◌, arith}
use Rattle.std.specs.Prelude.{replicate}
use Rattle.drive.specs.Journal.{Event, InOrder, next_of, written}
use Rattle.drive.specs.Note.{fitted}
use Rattle.drive.proofs.Journals.{next-fitted, take-written}
use Rattle.settling.specs.Head.{Counts, IsHead}
use Rattle.settling.proofs.Cutting.{next_in_order}

take_all : (J : List Event) (n : ℕ) → n ≡ length J → take n J ≡ J
take_all [] zero h = refl
take_all [] (suc n) h = refl
take_all (e ∷ J) zero h = absurd (omega (arith, h))
take_all (e ∷ J) (suc n) h = ap (λ (K : List Event). e ∷ K) (take_all J n (omega (arith, h)))

-- as the drive is opened
pub counts_of : (found : Option (List ℕ)) (part : List ℕ) (J K : List Event) (n count : ℕ) → InOrder J → count ≡ next_of J → found ≡ Option.Some part → K ≡ take n J → (n ≡ count) ⊎ IsHead part n count → Counts found J K
counts_of found part J K n count h e f k (inl all) = inl (k ∙ take_all J n (all ∙ e ∙ next_in_order J h))
counts_of found part J K n count h e f k (inr is) = inr (part, f, (n, subst (λ m. IsHead part n m) e is, k))

take_fitted : (n m : ℕ) (image : List (List ℕ)) → n ≤ m → take n (fitted m image) ≡ fitted n image
take_fitted zero m image h = refl
take_fitted (suc n) zero image h = absurd (omega (arith, h))
take_fitted (suc n) (suc m) [] h = ap (λ (bs : List (List ℕ)). replicate 2048 0 ∷ bs) (take_fitted n m [] (omega (arith, h)))
take_fitted (suc n) (suc m) (b ∷ image) h = ap (λ (bs : List (List ℕ)). take 2048 (b ++ replicate 2048 0) ∷ bs) (take_fitted n m image (omega (arith, h)))

-- Where the file was taken to hold an image, the drive begins with so many blocks of it.
pub counts_fitted : (found : Option (List ℕ)) (J K : List Event) (m : ℕ) (image : List (List ℕ)) → Counts found J K → J ≡ written 0 (fitted m image) → (n : ℕ) × (n ≤ m) × (K ≡ written 0 (fitted n image))
counts_fitted found J K m image (inl all) is = (m, omega arith, all ∙ is)
counts_fitted found J K m image (inr (part, f, (n, head, k))) is =
    let fits : n ≤ m = omega (arith, head.within, ap (λ (L : List Event). next_of L) is, next-fitted m image) in
    (n, fits, k ∙ ap (λ (L : List Event). take n L) is ∙ take-written n 0 (fitted m image) ∙ ap (λ (bs : List (List ℕ)). written 0 bs) (take_fitted n m image fits))
