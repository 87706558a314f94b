-- Writes that leave a prefix of their blocks, one after another.
use Rattle.std.proofs.Common.{◌≡◌, ◌⊎◌, inl, inr, ℕ, zero, suc, ◌+◌, ◌-◌, ◌≤◌, ◌<◌, min, List, [], ◌∷◌, ◌++◌, length, take, refl, sym, ◌∙◌, ap, subst, arith, append_assoc, append-nil, length-append}
use Rattle.std.proofs.lemmas.List.{take-append-le, length-take-le}
use Rattle.std.proofs.Math.Seq.{take-append-add, take-length, take-append_seam}
use Rattle.drive.specs.Journal.{Event, written, next_of, held, Once, event_blocks, AddsPrefix}
use Rattle.drive.proofs.Journals.{written-append, next_after_write, length-written, take-written}
use Rattle.drive.proofs.Once.{once_write, held_once, blocks_of-append, blocks_of-written}

-- nothing was added
pub front_none : (J : List Event) (at : ℕ) (blocks : List (List ℕ)) → AddsPrefix J at blocks J
front_none J at blocks = (0, omega arith, sym (append-nil J))

-- all was added
pub front_whole : (J : List Event) (at : ℕ) (blocks : List (List ℕ)) → AddsPrefix J at blocks (J ++ written at blocks)
front_whole J at blocks = (length blocks, omega arith, ap (λ (cs : List (List ℕ)). J ++ written at cs) (sym (take-length blocks)))

-- a prefix of some blocks is a prefix of these and more
pub front_longer : (J J' : List Event) (at : ℕ) (blocks more : List (List ℕ)) → AddsPrefix J at blocks J' → AddsPrefix J at (blocks ++ more) J'
front_longer J J' at blocks more (m, le, is) = (m, omega (arith, length-append blocks more), is ∙ ap (λ (cs : List (List ℕ)). J ++ written at cs) (sym (take-append-le m blocks more le)))

-- a prefix after a whole write is a prefix of both
pub front_after : (J K J' : List Event) (at next : ℕ) (blocks more : List (List ℕ)) → K ≡ J ++ written at blocks → next ≡ at + length blocks → AddsPrefix K next more J' → AddsPrefix J at (blocks ++ more) J'
front_after J K J' at next blocks more k e (m, le, is) = (
  length blocks + m,
  omega (arith, length-append blocks more),
  is ∙ rw (k, e) (append_assoc J (written at blocks) (written (at + length blocks) (take m more)))
      ∙ ap (λ (L : List Event). J ++ L) (sym (written-append at blocks (take m more)) ∙ ap (λ (cs : List (List ℕ)). written at cs) (sym (take-append-add blocks more m))),
)

-- two whole writes are one
pub written_after : (J K J' : List Event) (at next : ℕ) (blocks more : List (List ℕ)) → K ≡ J ++ written at blocks → next ≡ at + length blocks → J' ≡ K ++ written next more → J' ≡ J ++ written at (blocks ++ more)
written_after J K J' at next blocks more k e is =
    is ∙ rw (k, e) (append_assoc J (written at blocks) (written (at + length blocks) more)) ∙ ap (λ (L : List Event). J ++ L) (sym (written-append at blocks more))

-- the next write may begin after a whole one
pub begins_after : (J : List Event) (at : ℕ) (blocks : List (List ℕ)) → at ≤ next_of J → at + length blocks ≤ next_of (J ++ written at blocks)
begins_after J at [] h = omega (arith, ap next_of (append-nil J))
begins_after J at (b ∷ blocks) h = omega (arith, next_after_write J at (b ∷ blocks) (let some : 0 < length (b ∷ blocks) = omega arith in some))

-- the journal before is the prefix of the journal after
pub front_keeps : (J J' : List Event) (at : ℕ) (blocks : List (List ℕ)) → AddsPrefix J at blocks J' → take (length J) J' ≡ J
front_keeps J J' at blocks (m, le, is) = ap (λ (K : List Event). take (length J) K) is ∙ take-append_seam J (written at (take m blocks))

-- what was at the beginning of the journal before is there afterwards
pub front_below : (J J' : List Event) (at k : ℕ) (blocks : List (List ℕ)) → AddsPrefix J at blocks J' → k ≤ length J → take k J' ≡ take k J
front_below J J' at k blocks (m, le, is) h = ap (λ (K : List Event). take k K) is ∙ take-append-le k J (written at (take m blocks)) h

-- how long the journal is then
pub front_length : (J J' : List Event) (at : ℕ) (blocks : List (List ℕ)) (front : AddsPrefix J at blocks J') → length J' ≡ length J + front.0
front_length J J' at blocks (m, le, is) = ap length is ∙ length-append J (written at (take m blocks)) ∙ omega (arith, length-written at (take m blocks), length-take-le m blocks le)

-- it grew by no more than the blocks
pub front_grows : (J J' : List Event) (at : ℕ) (blocks : List (List ℕ)) → AddsPrefix J at blocks J' → (length J ≤ length J') × (length J' ≤ length J + length blocks)
front_grows J J' at blocks (m, le, is) = let n : length J' ≡ length J + m = front_length J J' at blocks (m, le, is) in (omega (arith, n), omega (arith, n, le))

take_of_take : (j m : ℕ) (blocks : List (List ℕ)) → take j (take m blocks) ≡ take (min j m) blocks
take_of_take zero m blocks = ap (λ n. take n blocks) (let none : 0 ≡ min 0 m = omega arith in none)
take_of_take (suc j) zero blocks = ap (λ n. take n blocks) (let none : 0 ≡ min (suc j) 0 = omega arith in none)
take_of_take (suc j) (suc m) [] = sym (nil (min (suc j) (suc m)))
  where
    nil : (n : ℕ) → take n (let none : List (List ℕ) = [] in none) ≡ []
    nil zero = refl
    nil (suc n) = refl
take_of_take (suc j) (suc m) (b ∷ blocks) = ap (λ (cs : List (List ℕ)). b ∷ cs) (take_of_take j m blocks) ∙ ap (λ n. take n (b ∷ blocks)) (let next : suc (min j m) ≡ min (suc j) (suc m) = omega arith in next)

-- each prefix of the journal after that has the one before is one that a cut at another block would leave
pub front_within : (J J' : List Event) (at k : ℕ) (blocks : List (List ℕ)) → AddsPrefix J at blocks J' → length J ≤ k → AddsPrefix J at blocks (take k J')
front_within J J' at k blocks (m, le, is) h =
    let split : k ≡ length J + (k - length J) = omega arith in (
      min (k - length J) m,
      omega arith,
      ap (λ (K : List Event). take k K) is ∙ ap (λ n. take n (J ++ written at (take m blocks))) split ∙ take-append-add J (written at (take m blocks)) (k - length J)
          ∙ ap (λ (K : List Event). J ++ K) (take-written (k - length J) at (take m blocks) ∙ ap (λ (cs : List (List ℕ)). written at cs) (take_of_take (k - length J) m blocks)),
    )

-- each address is written once, in order
pub front_once : (J J' : List Event) (at : ℕ) (blocks : List (List ℕ)) → Once J → at ≡ length J → AddsPrefix J at blocks J' → Once J'
front_once J J' at blocks once e (m, le, is) = subst Once (sym is) (once_write J at (take m blocks) once e)

-- what the medium holds after a whole write
pub held_write : (J J' : List Event) (at : ℕ) (blocks : List (List ℕ)) → Once J → at ≡ length J → J' ≡ J ++ written at blocks → held J' ≡ held J ++ blocks
held_write J J' at blocks once e is =
    ap held is ∙ held_once (J ++ written at blocks) (once_write J at blocks once e) ∙ blocks_of-append J (written at blocks)
    ∙ ap (λ (cs : List (List ℕ)). event_blocks J ++ cs) (blocks_of-written at blocks) ∙ ap (λ (B : List (List ℕ)). B ++ blocks) (sym (held_once J once))

-- and after a prefix of one
pub held_cut : (J J' : List Event) (at : ℕ) (blocks : List (List ℕ)) → Once J → at ≡ length J → (front : AddsPrefix J at blocks J') → held J' ≡ held J ++ take front.0 blocks
held_cut J J' at blocks once e (m, le, is) = held_write J J' at (take m blocks) once e is

side : (m n : ℕ) → m ≤ n → (m < n) ⊎ (m ≡ n)
side m n h = grind arith

-- all blocks but the last were added at most, or all
pub front_or_whole : (J J' : List Event) (at : ℕ) (blocks : List (List ℕ)) (b : List ℕ) → AddsPrefix J at (blocks ++ b ∷ []) J' → AddsPrefix J at blocks J' ⊎ (J' ≡ J ++ written at (blocks ++ b ∷ []))
front_or_whole J J' at blocks b (m, le, is) = choose (side m (length (blocks ++ b ∷ [])) le)
  where
    choose : (m < length (blocks ++ b ∷ [])) ⊎ (m ≡ length (blocks ++ b ∷ [])) → AddsPrefix J at blocks J' ⊎ (J' ≡ J ++ written at (blocks ++ b ∷ []))
    choose (inl lt) =
        let few : m ≤ length blocks = omega (arith, length-append blocks (b ∷ [])) in
        inl (m, few, is ∙ ap (λ (cs : List (List ℕ)). J ++ written at cs) (take-append-le m blocks (b ∷ []) few))
    choose (inr e) = inr (is ∙ ap (λ n. J ++ written at (take n (blocks ++ b ∷ []))) e ∙ ap (λ (cs : List (List ℕ)). J ++ written at cs) (take-length (blocks ++ b ∷ [])))
