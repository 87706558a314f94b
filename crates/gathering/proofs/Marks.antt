-- The blocks of a group, by which of its marks are there.
use Rattle.std.proofs.Common.{◌≡◌, ◌⊎◌, inl, inr, ℕ, zero, suc, ◌<◌, ◌≤◌, if◌then◌else◌, Bool, true, List, [], ◌∷◌, ◌++◌, take, drop, refl, sym, ◌∙◌, ap, arith, append_assoc, lt-ltb, le-ltb}
use Rattle.drive.specs.Writes.{unwritten}
use Rattle.durability.specs.Formats.{Block}
use Rattle.durability.proofs.Lists.{side}
use Rattle.gathering.specs.Groups.{Commit, with_marks, none_there, first_there}

-- the group with all of its marks, and with none
abbrev pub whole : List Commit → List Block
whole group = with_marks (λ i. true) group

abbrev pub blank : List Commit → List Block
blank group = with_marks none_there group

pub same_marks : (there other : ℕ → Bool) (group : List Commit) → ((i : ℕ) → there i ≡ other i) → with_marks there group ≡ with_marks other group
same_marks there other group same = let e : there ≡ other = λ j. λ i. same i j in ap (λ (f : ℕ → Bool). with_marks f group) e

-- after the first commit, one mark less
pub one_less : (n i : ℕ) → first_there (suc n) (suc i) ≡ first_there n i
one_less n i = go (side i n)
  where
    go : (i < n) ⊎ (n ≤ i) → first_there (suc n) (suc i) ≡ first_there n i
    go (inl low) = lt-ltb (suc i) (suc n) (omega (arith, low)) ∙ sym (lt-ltb i n low)
    go (inr high) = le-ltb (suc i) (suc n) (omega (arith, high)) ∙ sym (le-ltb i n high)

first_of_none : (i : ℕ) → first_there 0 i ≡ none_there i
first_of_none i = le-ltb i 0 (omega arith)

-- the first mark is there
pub first_cons : (n : ℕ) (commit : Commit) (group : List Commit) → with_marks (first_there (suc n)) (commit ∷ group) ≡ (commit.blocks ++ commit.mark ∷ []) ++ with_marks (first_there n) group
first_cons n commit group =
    ap (λ b. (commit.blocks ++ (if b then commit.mark else unwritten) ∷ []) ++ with_marks (λ i. first_there (suc n) (suc i)) group) (lt-ltb 0 (suc n) (omega arith))
    ∙ ap (λ (xs : List Block). (commit.blocks ++ commit.mark ∷ []) ++ xs) (same_marks (λ i. first_there (suc n) (suc i)) (first_there n) group (one_less n))

pub first_split : (n : ℕ) (group : List Commit) → with_marks (first_there n) group ≡ whole (take n group) ++ blank (drop n group)
first_split zero group = same_marks (first_there 0) none_there group first_of_none
first_split (suc n) [] = refl
first_split (suc n) (commit ∷ group) =
    first_cons n commit group ∙ ap (λ (xs : List Block). (commit.blocks ++ commit.mark ∷ []) ++ xs) (first_split n group)
    ∙ sym (append_assoc (commit.blocks ++ commit.mark ∷ []) (whole (take n group)) (blank (drop n group)))
