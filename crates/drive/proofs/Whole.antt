-- Blocks that have all their bytes.
use Rattle.std.proofs.Common.{◌≡◌, ℕ, zero, suc, ◌<◌, List, [], ◌∷◌, ◌++◌, length, take, get_or, sym, subst, arith}
use Rattle.std.specs.Prelude.{All, replicate}
use Rattle.std.proofs.lemmas.List.{length-take, length-append, length-replicate}
use Rattle.drive.specs.Note.{fitted}
use Rattle.drive.specs.Journal.{Event, written, held, event_blocks, Once, AreWhole}
use Rattle.drive.proofs.Once.{held_once}

abbrev pub AreBlocks : List (List ℕ) → Type 0
AreBlocks bs = All (λ (b : List ℕ). length b ≡ 2048) bs

-- as their types say it
pub blocks_told : (bs : List (List ℕ)) → ((i : ℕ) → i < length bs → length (get_or bs i []) ≡ 2048) → AreBlocks bs
blocks_told [] told k d h = absurd (omega (arith, h))
blocks_told (b ∷ bs) told zero d h = told 0 (omega arith)
blocks_told (b ∷ bs) told (suc k) d h = blocks_told bs (λ i lt. told (suc i) (omega (arith, lt))) k d (omega (arith, h))

pub whole-nil : AreWhole []
whole-nil k d h = absurd (omega (arith, h))

whole-cons : (e : Event) (J : List Event) → length e.1 ≡ 2048 → AreWhole J → AreWhole (e ∷ J)
whole-cons e J first rest zero d h = first
whole-cons e J first rest (suc k) d h = rest k d (omega (arith, h))

pub whole-append : (J K : List Event) → AreWhole J → AreWhole K → AreWhole (J ++ K)
whole-append [] K all more = more
whole-append (e ∷ J) K all more = whole-cons e (J ++ K) (all 0 e (omega arith)) (whole-append J K (λ k d h. all (suc k) d (omega (arith, h))) more)

pub whole-written : (at : ℕ) (bs : List (List ℕ)) → AreBlocks bs → AreWhole (written at bs)
whole-written at [] all = whole-nil
whole-written at (b ∷ bs) all = whole-cons (at, b) (written (suc at) bs) (all 0 b (omega arith)) (whole-written (suc at) bs (λ k d h. all (suc k) d (omega (arith, h))))

pub whole-take : (n : ℕ) (J : List Event) → AreWhole J → AreWhole (take n J)
whole-take zero J all = whole-nil
whole-take (suc n) [] all = whole-nil
whole-take (suc n) (e ∷ J) all = whole-cons e (take n J) (all 0 e (omega arith)) (whole-take n J (λ k d h. all (suc k) d (omega (arith, h))))

pub whole-fitted : (n : ℕ) (image : List (List ℕ)) → AreBlocks (fitted n image)
whole-fitted zero image k d h = absurd (omega (arith, h))
whole-fitted (suc n) [] zero d h = length-replicate {A = ℕ} 2048 0
whole-fitted (suc n) [] (suc k) d h = whole-fitted n [] k d (omega (arith, h))
whole-fitted (suc n) (b ∷ image) zero d h = omega (arith, length-take 2048 (b ++ replicate 2048 0), length-append b (replicate 2048 0), length-replicate {A = ℕ} 2048 0)
whole-fitted (suc n) (b ∷ image) (suc k) d h = whole-fitted n image k d (omega (arith, h))

blocks-whole : (J : List Event) → AreWhole J → AreBlocks (event_blocks J)
blocks-whole [] all k d h = absurd (omega (arith, h))
blocks-whole (e ∷ J) all zero d h = all 0 e (omega arith)
blocks-whole (e ∷ J) all (suc k) d h = blocks-whole J (λ i x lt. all (suc i) x (omega (arith, lt))) k d (omega (arith, h))

-- so the medium has whole blocks alone
pub held-whole : (J : List Event) → Once J → AreWhole J → AreBlocks (held J)
held-whole J once all = subst AreBlocks (sym (held_once J once)) (blocks-whole J all)
