-- Runs of blocks: one after another, and what they are to the writes of a drive.
use Rattle.std.proofs.Common.{◌≡◌, ℕ, zero, suc, Bool, true, false, ◌+◌, ◌-◌, ◌≤◌, List, [], ◌∷◌, ◌++◌, length, take, drop, refl, sym, ◌∙◌, ap, subst, arith, append_assoc, append-nil}
use Rattle.std.proofs.lemmas.Bool.{false≢true}
use Rattle.std.proofs.lemmas.List.{length-take-le, take-append-drop}
use Rattle.std.proofs.Math.Seq.{take-add}
use Rattle.drive.specs.Journal.{Event, written, AddsPrefix}
use Rattle.drive.specs.Note.{longer}
use Rattle.drive.specs.Writes.{joined, SplitsRun, WritesInTurn}
use Rattle.drive.specs.Sending.{Sends}
use Rattle.drive.specs.declared.Drive.{Ghosts}
use Rattle.drive.proofs.Fronts.{front_longer, written_after}
use Rattle.drive.proofs.Turns.{joined_append, turn_none, turn_whole, turn_cut, turn_then, turn_front}

-- it is what the drive sends
pub runs_send : {D : Type 0} {drive : Ghosts D} {at : ℕ} {blocks : List (List ℕ)} {failed : Bool} {a b : D} → SplitsRun at blocks failed (drive.journal a) (drive.writes a) (drive.journal b) (drive.writes b) → Sends drive at blocks failed a b
runs_send p = record { added = p.added; rest = p.rest; writes = p.writes_are; order = p.order; whole = p.whole; in_turn = p.in_turn }

-- what was added is a prefix of all its blocks
pub runs_front : {at : ℕ} {blocks : List (List ℕ)} {failed : Bool} {J J' : List Event} {W W' : List (List (List ℕ))} → SplitsRun at blocks failed J W J' W' → AddsPrefix J at blocks J'
runs_front {at = at} {J = J} {J' = J'} p = subst (λ (bs : List (List ℕ)). AddsPrefix J at bs J') p.order (front_longer J J' at (joined p.added) p.rest (turn_front p.in_turn))

-- no block
pub runs_none : (at : ℕ) (J : List Event) (W : List (List (List ℕ))) → SplitsRun at [] false J W J W
runs_none at J W = record { added = []; rest = []; writes_are = sym (append-nil W); order = refl; whole = λ h. refl; in_turn = turn_none at J }

-- one write of all its blocks
runs_one : {at : ℕ} {failed : Bool} {J J' : List Event} {W W' : List (List (List ℕ))} (blocks : List (List ℕ)) → WritesInTurn at failed J (blocks ∷ []) J' → W' ≡ W ++ blocks ∷ [] → SplitsRun at blocks failed J W J' W'
runs_one blocks turn is = record {
  added = blocks ∷ [];
  rest = [];
  writes_are = is;
  order = append-nil (blocks ++ []) ∙ append-nil blocks;
  whole = λ h. refl;
  in_turn = turn;
}

pub runs_whole : {at : ℕ} {J J' : List Event} {W W' : List (List (List ℕ))} (blocks : List (List ℕ)) → J' ≡ J ++ written at blocks → W' ≡ W ++ blocks ∷ [] → SplitsRun at blocks false J W J' W'
runs_whole blocks whole is = runs_one blocks (turn_whole blocks whole) is

pub runs_cut : {at : ℕ} {J J' : List Event} {W W' : List (List (List ℕ))} (blocks : List (List ℕ)) → AddsPrefix J at blocks J' → W' ≡ W ++ blocks ∷ [] → SplitsRun at blocks true J W J' W'
runs_cut blocks front is = runs_one blocks (turn_cut blocks front) is

all_given : (added : List (List (List ℕ))) (rest blocks : List (List ℕ)) → joined added ++ rest ≡ blocks → rest ≡ [] → joined added ≡ blocks
all_given added rest blocks order none = sym (append-nil (joined added)) ∙ ap (λ (bs : List (List ℕ)). joined added ++ bs) (sym none) ∙ order

-- blocks after others that were all written
pub runs_then : {failed : Bool} {J J1 J2 : List Event} {W V U : List (List (List ℕ))} {at next : ℕ} {bs cs : List (List ℕ)} → next ≡ at + length bs → SplitsRun at bs false J W J1 V → SplitsRun next cs failed J1 V J2 U → SplitsRun at (bs ++ cs) failed J W J2 U
runs_then {W = W} {at = at} {bs = bs} {cs = cs} place p q =
    let all : joined p.added ≡ bs = all_given p.added p.rest bs p.order (p.whole refl) in
    record {
      added = p.added ++ q.added;
      rest = q.rest;
      writes_are = q.writes_are ∙ ap (λ (ws : List (List (List ℕ))). ws ++ q.added) p.writes_are ∙ append_assoc W p.added q.added;
      order = ap (λ (ds : List (List ℕ)). ds ++ q.rest) (joined_append p.added q.added) ∙ append_assoc (joined p.added) (joined q.added) q.rest
          ∙ ap (λ (ds : List (List ℕ)). joined p.added ++ ds) q.order ∙ ap (λ (ds : List (List ℕ)). ds ++ cs) all;
      whole = q.whole;
      in_turn = turn_then (place ∙ ap (λ (ds : List (List ℕ)). at + length ds) (sym all)) p.in_turn q.in_turn;
    }

-- a failure among some blocks is one among these and more
pub runs_longer : {J J' : List Event} {W W' : List (List (List ℕ))} {at : ℕ} {bs : List (List ℕ)} (cs : List (List ℕ)) → SplitsRun at bs true J W J' W' → SplitsRun at (bs ++ cs) true J W J' W'
runs_longer cs p = record {
  added = p.added;
  rest = p.rest ++ cs;
  writes_are = p.writes_are;
  order = sym (append_assoc (joined p.added) p.rest cs) ∙ ap (λ (ds : List (List ℕ)). ds ++ cs) p.order;
  whole = λ h. absurd (false≢true (sym h));
  in_turn = p.in_turn;
}

pub runs_as : {failed : Bool} {J J' : List Event} {W W' : List (List (List ℕ))} {at : ℕ} {bs cs : List (List ℕ)} → bs ≡ cs → SplitsRun at bs failed J W J' W' → SplitsRun at cs failed J W J' W'
runs_as {failed = failed} {J = J} {J' = J'} {W = W} {W' = W'} {at = at} same p = subst (λ (ds : List (List ℕ)). SplitsRun at ds failed J W J' W') same p

-- In a loop over packets: one more is the prefix of what is left.
module _ (at d : ℕ) (all p : List (List ℕ)) (le : d + length p ≤ length all) (is : p ≡ take (length p) (drop d all)) where
  longer_front : take d all ++ p ≡ take (d + length p) all
  longer_front = ap (λ (bs : List (List ℕ)). take d all ++ bs) is ∙ sym (take-add d (length p) all)

  begun : at + d ≡ at + length (take d all)
  begun = omega (arith, length-take-le d all (omega (arith, le)))

  pub packet_written : (J J1 J2 : List Event) → J1 ≡ J ++ written at (take d all) → J2 ≡ J1 ++ written (at + d) p → J2 ≡ J ++ written at (take (d + length p) all)
  packet_written J J1 J2 k k' = written_after J J1 J2 at (at + d) (take d all) p k begun k' ∙ ap (λ (bs : List (List ℕ)). J ++ written at bs) longer_front

  pub packet_runs : {failed : Bool} {J J1 J2 : List Event} {W V U : List (List (List ℕ))} → SplitsRun at (take d all) false J W J1 V → SplitsRun (at + d) p failed J1 V J2 U → SplitsRun at (take (d + length p) all) failed J W J2 U
  packet_runs r q = runs_as longer_front (runs_then begun r q)

  -- or it failed
  pub packet_broken : {J J1 J2 : List Event} {W V U : List (List (List ℕ))} → SplitsRun at (take d all) false J W J1 V → SplitsRun (at + d) p true J1 V J2 U → SplitsRun at all true J W J2 U
  packet_broken r q = runs_as (take-append-drop (d + length p) all) (runs_longer (drop (d + length p) all) (packet_runs r q))

-- what is left of two lists after the first
drop_after : (first second : List (List ℕ)) (d : ℕ) → length first ≤ d → drop d (first ++ second) ≡ drop (d - length first) second
drop_after [] second d h = ap (λ n. drop n second) (let same : d ≡ d - 0 = omega arith in same)
drop_after (b ∷ first) second zero h = absurd (omega (arith, h))
drop_after (b ∷ first) second (suc d) h = drop_after first second d (omega (arith, h)) ∙ ap (λ n. drop n second) (let same : d - length first ≡ suc d - length (b ∷ first) = omega arith in same)

take_own : (n : ℕ) (bs : List (List ℕ)) → take n bs ≡ take (length (take n bs)) bs
take_own zero bs = refl
take_own (suc n) [] = refl
take_own (suc n) (b ∷ bs) = ap (λ (cs : List (List ℕ)). b ∷ cs) (take_own n bs)

-- a packet of the second list
pub packet_after : (first second : List (List ℕ)) (d n : ℕ) → length first ≤ d → take n (drop (d - length first) second) ≡ take (length (take n (drop (d - length first) second))) (drop d (first ++ second))
packet_after first second d n h =
    take_own n (drop (d - length first) second) ∙ ap (λ (bs : List (List ℕ)). take (length (take n (drop (d - length first) second))) bs) (sym (drop_after first second d h))

-- the last write has more
pub longer_last : (writes : List (List (List ℕ))) (write more : List (List ℕ)) → longer (writes ++ write ∷ []) more ≡ writes ++ (write ++ more) ∷ []
longer_last [] write more = refl
longer_last (x ∷ []) write more = refl
longer_last (x ∷ y ∷ writes) write more = ap (λ (ws : List (List (List ℕ))). x ∷ ws) (longer_last (y ∷ writes) write more)
