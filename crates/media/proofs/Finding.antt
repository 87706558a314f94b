-- What is found in a file is what it is taken to hold, unless a miss was counted.
use Rattle.std.proofs.Common.{◌≡◌, ℕ, suc, ◌+◌, ◌≤◌, ◌==◌, ◌&&◌, Bool, true, false, if◌then◌else◌, List, [], ◌∷◌, ◌++◌, length, take, Option, Some, None, IsTrue, refl, sym, ◌∙◌, ap, subst, arith, add-zero}
use Rattle.std.proofs.lemmas.Bool.Decides.{nat_tests}
use Rattle.std.proofs.lemmas.Bool.{eqb-true, eq-eqb, false≢true}
use Rattle.std.proofs.lemmas.Slice.Eq.{bytes_eq-Decides}
use Rattle.std.specs.Prelude.{bytes_eq, replicate}
use Rattle.std.proofs.Math.Seq.{take-append_seam}
use Rattle.std.specs.Cmp.{second_so}
use Rattle.drive.specs.Journal.{AreWhole, Event, Once, OnceFrom, event_blocks, next_of, written}
use Rattle.drive.specs.Note.{fitted}
use Rattle.drive.specs.Gathering.{waits_never}
use Rattle.settling.specs.declared.file.GatheringFileDrive.{GatheringFileDrive}
use Rattle.settling.specs.GatheringFile as left
use Rattle.settling.specs.contracts.file.GatheringFileDriveDrive.TheImpl as gathering
use Rattle.drive.proofs.Journals.{next-fitted}
use Rattle.drive.proofs.Once.{length-blocks_of, next_once, once-written}
use Rattle.media.specs.Held.{FoundAsHeld, IsFresh}
use Rattle.media.specs.Seen.{missed, same_events}

pub first_so : (s t : Bool) → (s && t) ≡ true → s ≡ true
first_so true t h = refl
first_so false t h = h

pub same_events_are : (J K : List Event) → same_events J K ≡ true → J ≡ K
same_events_are [] [] h = refl
same_events_are [] (f ∷ K) h = absurd (false≢true h)
same_events_are (e ∷ J) [] h = absurd (false≢true h)
same_events_are (e ∷ J) (f ∷ K) h =
    let rest = second_so (e.0 == f.0) (bytes_eq e.1 f.1 && same_events J K) h in
    let at : e.0 ≡ f.0 = eqb-true e.0 f.0 (first_so (e.0 == f.0) (bytes_eq e.1 f.1 && same_events J K) h) in
    let block : e.1 ≡ f.1 = (bytes_eq-Decides e.1 f.1).0 (first_so (bytes_eq e.1 f.1) (same_events J K) rest) in
    let others : J ≡ K = same_events_are J K (second_so (bytes_eq e.1 f.1) (same_events J K) rest) in
    λ i. (at i, block i) ∷ others i

pub same_events_so : (J : List Event) → same_events J J ≡ true
same_events_so [] = refl
same_events_so (e ∷ J) = rw (eq-eqb e.0 e.0 refl, (bytes_eq-Decides e.1 e.1).1 refl) (same_events_so J)

is_zero : (r : ℕ) → IsTrue (r == 0) → r ≡ 0
is_zero r h = grind (arith, nat_tests, h)

found_same : (held J : List Event) (m : ℕ) (b : Bool) → same_events held J ≡ b → m + (if b then 0 else 1) ≡ 0 → Some held ≡ Some J
found_same held J m true e h = ap (λ (K : List Event). Some K) (same_events_are held J e)
found_same held J m false e h = absurd (omega (arith, h))

no_miss_so : (o : Option (List Event)) (J : List Event) (m : ℕ) → m + missed o J ≡ 0 → o ≡ Some J
no_miss_so None J m h = absurd (omega (arith, h))
no_miss_so (Some held) J m h = found_same held J m (same_events held J) refl h

-- where no miss was counted the image is the one that is held
pub found_is_held : (o : Option (List Event)) (J : List Event) (m r : ℕ) → r ≡ m + missed o J → IsTrue (r == 0) → o ≡ Some J
found_is_held o J m r e h = no_miss_so o J m (sym e ∙ is_zero r h)

some_missed : (J : List Event) → missed (Some J) J ≡ 0
some_missed J = rw (same_events_so J) refl

-- and none is counted where it is
pub held_is_found : (o : Option (List Event)) (J : List Event) (m r : ℕ) → r ≡ m + missed o J → o ≡ Some J → (r == 0) ≡ (m == 0)
held_is_found o J m r e is = ap (λ n. n == 0) (e ∙ ap (λ (p : Option (List Event)). m + missed p J) is ∙ ap (λ n. m + n) (some_missed J) ∙ add-zero m)

-- no miss is forgotten
pub none_before : (m n r : ℕ) → r ≡ m + n → IsTrue (r == 0) → IsTrue (m == 0)
none_before m n r e h = let none : m ≡ 0 = omega (arith, e, is_zero r h) in eq-eqb m 0 none

-- a drive over a file that was just opened is fresh
pub fresh_held : (capacity n : ℕ) (blocks : List (List ℕ)) (d : GatheringFileDrive) → left.journal_of d ≡ written 0 (fitted n blocks) → left.capacity_of d ≡ capacity → n ≤ capacity
    → left.writes_of d ≡ [] → left.failures_of d ≡ 0 → left.misreads_of d ≡ 0 → left.gathering_of d ≡ waits_never → IsFresh gathering.ghosts capacity d
fresh_held capacity n blocks d journal size fits writes failures misreads never = record {
  size = size;
  fits = subst (λ (m : ℕ). m ≤ capacity) (sym (ap (λ (J : List Event). next_of J) journal ∙ next-fitted n blocks)) fits;
  once = subst (λ (J : List Event). Once J) (sym journal) (once-written 0 (fitted n blocks));
  writes = writes;
  failures = failures;
  misreads = misreads;
  honest = ap (λ (m : ℕ). m == 0) misreads;
  gathering = never;
}

whole_block : (b zeros : List ℕ) → length b ≡ 2048 → take 2048 (b ++ zeros) ≡ b
whole_block b zeros whole = ap (λ n. take n (b ++ zeros)) (sym whole) ∙ take-append_seam b zeros

refitted : (n : ℕ) (J : List Event) → OnceFrom n J → AreWhole J → written n (fitted (length (event_blocks J)) (event_blocks J)) ≡ J
refitted n [] once whole = refl
refitted n (e ∷ J) once whole =
    let block : take 2048 (e.1 ++ replicate 2048 0) ≡ e.1 = whole_block e.1 (replicate 2048 0) (whole 0 e (omega arith)) in
    let others : written (suc n) (fitted (length (event_blocks J)) (event_blocks J)) ≡ J = refitted (suc n) J once.1 (λ k d h. whole (suc k) d (omega (arith, h))) in
    λ i. (sym once.0 i, block i) ∷ others i

-- as many blocks as are held are those that are held
pub found_as_held : (J K : List Event) (n : ℕ) → K ≡ written 0 (fitted n (event_blocks J)) → FoundAsHeld J K
found_as_held J K n is once whole count =
    let same : n ≡ length (event_blocks J) = sym (next-fitted n (event_blocks J)) ∙ ap (λ (L : List Event). next_of L) (sym is) ∙ count ∙ next_once J once ∙ sym (length-blocks_of J) in
    is ∙ ap (λ m. written 0 (fitted m (event_blocks J))) same ∙ refitted 0 J once whole
