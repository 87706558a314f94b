-- Reading names one after the other, as a loop does.
use Rattle.std.proofs.Common.{◌≡◌, ℕ, suc, ◌-◌, ◌+◌, ◌≤◌, ◌<◌, List, [], ◌∷◌, ◌++◌, Result, Ok, Err, refl, sym, ap, ◌∙◌, append_assoc, arith}
use Rattle.std.proofs.lemmas.List.{append-nil}
use Rattle.request.specs.declared.message.Cause.{Cause}
use Rattle.request.specs.declared.payload.ReadError.{ReadError}
use Rattle.request.specs.declared.payload.ReadError.TheVariants as errors
use Rattle.request.specs.Reading.{◌>>=◌, Fails, name_at, names_at}

-- what was read before, and what is still read
abbrev pub with_front : List (List ℕ) → Result (List (List ℕ) × List ℕ) Cause → Result (List (List ℕ) × List ℕ) Cause
with_front front read = read >>= λ x. Ok (front ++ x.0, x.1)

regroup : (front : List (List ℕ)) (name : List ℕ) (read : Result (List (List ℕ) × List ℕ) Cause) → with_front front (read >>= λ x. Ok (name ∷ x.0, x.1)) ≡ with_front (front ++ name ∷ []) read
regroup front name (Ok x) = ap (λ (names : List (List ℕ)). Ok (names, x.1)) (simp append_assoc)
regroup front name (Err f) = refl

pub goes_on : (front : List (List ℕ)) (count i : ℕ) (bytes name after : List ℕ) (total : Result (List (List ℕ) × List ℕ) Cause) → i < count → name_at bytes ≡ Ok (name, after)
    → with_front front (names_at (count - i) bytes) ≡ total → with_front (front ++ name ∷ []) (names_at (count - (i + 1)) after) ≡ total
unfolding names_at
goes_on front count i bytes name after total lt h so_far =
    let k : count - i ≡ suc (count - (i + 1)) = omega arith in
    let one : with_front front (names_at (count - i) bytes) ≡ with_front (front ++ name ∷ []) (names_at (count - (i + 1)) after) = rw (k, h) (regroup front name (names_at (count - (i + 1)) after)) in
    sym one ∙ so_far

pub ends : (e : ReadError) (front : List (List ℕ)) (count i : ℕ) (bytes : List ℕ) (total : Result (List (List ℕ) × List ℕ) Cause) → i < count → Fails e (name_at bytes)
    → with_front front (names_at (count - i) bytes) ≡ total → Fails e total
unfolding names_at
ends errors.Memory front count i bytes total lt h so_far = tt
ends (errors.Malformed cause) front count i bytes total lt h so_far =
    let k : count - i ≡ suc (count - (i + 1)) = omega arith in
    let one : with_front front (names_at (count - i) bytes) ≡ Err cause = rw (k, h) refl in
    sym so_far ∙ one

pub is_done : (front : List (List ℕ)) (count i : ℕ) (bytes : List ℕ) (total : Result (List (List ℕ) × List ℕ) Cause) → count ≤ i → with_front front (names_at (count - i) bytes) ≡ total → total ≡ Ok (front, bytes)
unfolding names_at
is_done front count i bytes total le so_far =
    let k : count - i ≡ 0 = omega arith in
    let one : with_front front (names_at (count - i) bytes) ≡ Ok (front, bytes) = rw k (ap (λ (names : List (List ℕ)). Ok (names, bytes)) (append-nil front)) in
    sym so_far ∙ one
