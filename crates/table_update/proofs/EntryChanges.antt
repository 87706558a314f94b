-- The entries of a table with one of them changed.
use Rattle.std.proofs.Common.{◌≡◌, ◌≢◌, ℕ, zero, suc, ◌+◌, ◌<◌, ◌≤◌, cond, List, [], ◌∷◌, ◌++◌, length, take, drop, set, get_or, refl, sym, ap, ◌∙◌, inl, inr, arith, length-append, length-drop}
use Rattle.std.specs.Prelude.{Option, Some, None, is_some, slice_get, All, count_by, max}
use Rattle.std.proofs.lemmas.Option.{slice_get_within, get_or_from_slice_get, slice_get-get_or}
use Rattle.std.proofs.lemmas.List.{length-take-le, take_all, drop_all, set_split, get_or_at}
use Rattle.std.proofs.lemmas.List.Elements.{All-append, All-cons, All-take, All-drop}
use Rattle.std.proofs.lemmas.List.Sums.{sum_by-set, sum_by-append}
use Rattle.limits.specs.declared.TheConstants.{ADDRESSES}
use Rattle.table_update.specs.TableChange.{with_number, IsFree}

-- in the place of the one that is there
pub entry_set : (xs : List (Option ℕ)) (i : ℕ) (e : Option ℕ) → i < length xs → set xs i e ≡ with_number i e xs
entry_set xs i e lt =
    let next : suc i ≡ i + 1 = omega arith in
    set_split xs i e lt ∙ ap (λ (n : ℕ). take i xs ++ e ∷ drop n xs) next

-- or after them all
pub entry_pushed : (xs : List (Option ℕ)) (i : ℕ) (e : Option ℕ) → i ≡ length xs → xs ++ e ∷ [] ≡ with_number i e xs
entry_pushed xs i e end =
    let front : take i xs ≡ xs = take_all i xs (omega arith) in
    let rest : drop (i + 1) xs ≡ [] = drop_all (i + 1) xs (omega arith) in
    ap (λ (ys : List (Option ℕ)). xs ++ e ∷ ys) (sym rest) ∙ ap (λ (ys : List (Option ℕ)). ys ++ e ∷ drop (i + 1) xs) (sym front)

pub length-with_entry : (xs : List (Option ℕ)) (i : ℕ) (e : Option ℕ) → i ≤ length xs → length (with_number i e xs) ≡ max (length xs) (i + 1)
length-with_entry xs i e le = omega (arith, length-append (take i xs) (e ∷ drop (i + 1) xs), length-take-le i xs le, length-drop (i + 1) xs)

pub All-with_entry : (P : Option ℕ → Type 0) (xs : List (Option ℕ)) (i : ℕ) (e : Option ℕ) → P e → All P xs → All P (with_number i e xs)
All-with_entry P xs i e one all = All-append P (take i xs) (e ∷ drop (i + 1) xs) (All-take P i xs all) (All-cons P e (drop (i + 1) xs) one (All-drop P (i + 1) xs all))

pub entry_there : (xs : List (Option ℕ)) (i : ℕ) (e : Option ℕ) → i ≤ length xs → slice_get (with_number i e xs) i ≡ Some e
entry_there xs i e le =
    let within : i < length (with_number i e xs) = omega (arith, length-with_entry xs i e le) in
    slice_get-get_or (with_number i e xs) i e within ∙ ap Some (get_or_at (take i xs) e (drop (i + 1) xs) e i (length-take-le i xs le))

other_put : (xs : List (Option ℕ)) (i k : ℕ) (e : Option ℕ) → i ≤ length xs → k ≢ i → slice_get (take i xs ++ e ∷ drop (suc i) xs) k ≡ slice_get xs k
other_put [] zero zero e le apart = absurd (apart refl)
other_put [] zero (suc k) e le apart = refl
other_put [] (suc i) k e le apart = absurd (omega arith)
other_put (x ∷ xs) zero zero e le apart = absurd (apart refl)
other_put (x ∷ xs) zero (suc k) e le apart = refl
other_put (x ∷ xs) (suc i) zero e le apart = refl
other_put (x ∷ xs) (suc i) (suc k) e le apart = other_put xs i k e (omega arith) (λ same. apart (ap suc same))

-- every other entry is as it was
pub entry_other : (xs : List (Option ℕ)) (i k : ℕ) (e : Option ℕ) → i ≤ length xs → k ≢ i → slice_get (with_number i e xs) k ≡ slice_get xs k
entry_other xs i k e le apart =
    let next : i + 1 ≡ suc i = omega arith in
    ap (λ (n : ℕ). slice_get (take i xs ++ e ∷ drop n xs) k) next ∙ other_put xs i k e le apart

abbrev one : Option ℕ → ℕ
one e = cond (is_some e) 1 0

count_set : (xs : List (Option ℕ)) (i : ℕ) (e old : Option ℕ) → slice_get xs i ≡ Some old → count_by is_some (with_number i e xs) + one old ≡ count_by is_some xs + one e
count_set xs i e old is =
    let lt = slice_get_within xs i old is in
    let there : old ≡ get_or xs i old = sym (get_or_from_slice_get xs i old old is) in
    ap (λ (ys : List (Option ℕ)). count_by is_some ys + one old) (sym (entry_set xs i e lt))
    ∙ ap (λ (o : Option ℕ). count_by is_some (set xs i e) + one o) there
    ∙ sum_by-set one xs i e old lt

-- how many entries are used, with one more, as many, and one less
pub count_added : (xs : List (Option ℕ)) (i number : ℕ) → IsFree i xs → count_by is_some (with_number i (Some number) xs) ≡ count_by is_some xs + 1
count_added xs i number (inl none) = omega (arith, count_set xs i (Some number) None none)
count_added xs i number (inr end) =
    ap (count_by is_some) (sym (entry_pushed xs i (Some number) end.0)) ∙ sum_by-append one xs (Some number ∷ [])

pub count_placed : (xs : List (Option ℕ)) (i number old : ℕ) → slice_get xs i ≡ Some (Some old) → count_by is_some (with_number i (Some number) xs) ≡ count_by is_some xs
count_placed xs i number old is = omega (arith, count_set xs i (Some number) (Some old) is)

pub count_removed : (xs : List (Option ℕ)) (i old : ℕ) → slice_get xs i ≡ Some (Some old) → count_by is_some (with_number i None xs) + 1 ≡ count_by is_some xs
count_removed xs i old is = omega (arith, count_set xs i None (Some old) is)

-- what is free is after the root, and no further than after the last
pub free_within : (xs : List (Option ℕ)) (i : ℕ) → IsFree i xs → length xs ≤ ADDRESSES → (i ≤ length xs) × (max (length xs) (i + 1) ≤ ADDRESSES)
free_within xs i (inl none) many = let lt = slice_get_within xs i None none in (omega arith, omega arith)
free_within xs i (inr end) many = (omega (arith, end.0), omega (arith, end.0, end.1))

pub not_free : (xs : List (Option ℕ)) (i : ℕ) → length xs ≤ i → (i ≡ length xs → ADDRESSES ≤ i) → IsFree i xs → ⊥
not_free xs i past most (inl none) = omega (arith, slice_get_within xs i None none)
not_free xs i past most (inr end) = omega (arith, most end.0, end.1)
