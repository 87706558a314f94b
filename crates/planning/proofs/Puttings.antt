-- Blocks that are given to a packet writer.
use Rattle.std.proofs.Common.{◌≡◌, ℕ, Bool, ◌+◌, ◌≤◌, ◌<◌, List, [], ◌∷◌, ◌++◌, length, take, get_or, sym, ap, subst, ◌∙◌, arith, true, false}
use Rattle.std.specs.Prelude.{Result, Ok, Err, is_err, OnErr, OnOk}
use Rattle.std.proofs.lemmas.Bool.{false≢true}
use Rattle.std.proofs.lemmas.List.{take_all}
use Rattle.drive.specs.Journal.{Event, written, next_of, AddsPrefix}
use Rattle.drive.specs.Writes.{WritesInTurn}
use Rattle.drive.specs.Sending.{Sends, SendsAlone}
use Rattle.drive.specs.Waiting.{Waiting, TakesBlocks, Stops}
use Rattle.drive.specs.declared.Drive.{Ghosts}
use Rattle.drive.proofs.Sending.{sends_as, sends_one, alone_stopped, alone_sent, front_sent}
use Rattle.drive.proofs.Turns.{turn_cut}
use Rattle.drive.proofs.Packing.{takes_next, stops_next, takes-append, stops_after, stops_longer, takes_all, takes_front}
use Rattle.drive.proofs.Fronts.{begins_after}

module _ {D : Type 0} {drive : Ghosts D} (J J1 J2 : D) (w w1 : Waiting) (i : ℕ) (all : List (List ℕ)) (b : List ℕ) (below : i < length all) (is : get_or all i [] ≡ b) (t : TakesBlocks drive J w (take i all) J1 w1) where
  -- in a loop over some blocks: one more was taken
  pub takes_item : (w2 : Waiting) → TakesBlocks drive J1 w1 (b ∷ []) J2 w2 → TakesBlocks drive J w (take (i + 1) all) J2 w2
  takes_item w2 u = takes_next J J1 J2 w w1 w2 i all [] below t (subst (λ (x : List ℕ). TakesBlocks drive J1 w1 (x ∷ []) J2 w2) (sym is) u)

  -- in a loop over some blocks: a write failed
  pub stops_item : Stops drive J1 w1 (b ∷ []) J2 → Stops drive J w all J2
  stops_item s = stops_next J J1 J2 w w1 i all [] below t (subst (λ (x : List ℕ). Stops drive J1 w1 (x ∷ []) J2) (sym is) s)

-- the loop has ended
pub takes_whole : {D : Type 0} {drive : Ghosts D} (J J' : D) (w w' : Waiting) (i : ℕ) (all : List (List ℕ)) → length all ≤ i → TakesBlocks drive J w (take i all) J' w' → TakesBlocks drive J w all J' w'
takes_whole {drive = drive} J J' w w' i all h t = subst (λ (bs : List (List ℕ)). TakesBlocks drive J w bs J' w') (take_all i all h) t

-- the same blocks, said in another way
pub takes_same : {D : Type 0} {drive : Ghosts D} (J J' : D) (w w' : Waiting) (bs cs : List (List ℕ)) → bs ≡ cs → TakesBlocks drive J w bs J' w' → TakesBlocks drive J w cs J' w'
takes_same {drive = drive} J J' w w' bs cs same t = subst (λ (xs : List (List ℕ)). TakesBlocks drive J w xs J' w') same t

pub stops_same : {D : Type 0} {drive : Ghosts D} (J J' : D) (w : Waiting) (bs cs : List (List ℕ)) → bs ≡ cs → Stops drive J w bs J' → Stops drive J w cs J'
stops_same {drive = drive} J J' w bs cs same s = subst (λ (xs : List (List ℕ)). Stops drive J w xs J') same s

-- some blocks, and then others after them
pub takes_both : {D : Type 0} {drive : Ghosts D} (J J1 J2 : D) (w w1 w2 : Waiting) (bs cs all : List (List ℕ)) → bs ++ cs ≡ all → TakesBlocks drive J w bs J1 w1 → TakesBlocks drive J1 w1 cs J2 w2 → TakesBlocks drive J w all J2 w2
takes_both J J1 J2 w w1 w2 bs cs all whole t u = takes_same J J2 w w2 (bs ++ cs) all whole (takes-append J J1 J2 w w1 w2 bs cs t u)

pub stops_first : {D : Type 0} {drive : Ghosts D} (J J' : D) (w : Waiting) (bs cs all : List (List ℕ)) → bs ++ cs ≡ all → Stops drive J w bs J' → Stops drive J w all J'
stops_first J J' w bs cs all whole s = stops_same J J' w (bs ++ cs) all whole (stops_longer J J' w bs cs s)

pub stops_second : {D : Type 0} {drive : Ghosts D} (J J1 J2 : D) (w w1 : Waiting) (bs cs all : List (List ℕ)) → bs ++ cs ≡ all → TakesBlocks drive J w bs J1 w1 → Stops drive J1 w1 cs J2 → Stops drive J w all J2
stops_second J J1 J2 w w1 bs cs all whole t s = stops_same J J2 w (bs ++ cs) all whole (stops_after J J1 J2 w w1 bs cs t s)

-- what waits is written in the end
pub takes_written : {D : Type 0} {drive : Ghosts D} (J J1 J2 : D) (at : ℕ) (w w1 : Waiting) (bs : List (List ℕ)) → w ≡ record { at = at; blocks = [] } → TakesBlocks drive J w bs J1 w1 → drive.journal J2 ≡ drive.journal J1 ++ written w1.at w1.blocks → drive.journal J2 ≡ drive.journal J ++ written at bs
takes_written {drive = drive} J J1 J2 at w w1 bs new t is = takes_all J J1 J2 w w1 bs t is ∙ ap (λ (v : Waiting). drive.journal J ++ written v.at (v.blocks ++ bs)) new

-- or a prefix of it is
pub stops_front : {D : Type 0} {drive : Ghosts D} (J J' : D) (at : ℕ) (w : Waiting) (bs : List (List ℕ)) → w ≡ record { at = at; blocks = [] } → Stops drive J w bs J' → AddsPrefix (drive.journal J) at bs (drive.journal J')
stops_front {drive = drive} J J' at w bs new s = subst (λ (v : Waiting). AddsPrefix (drive.journal J) v.at (v.blocks ++ bs) (drive.journal J')) new s.front

pub takes_fronted : {D : Type 0} {drive : Ghosts D} (J J1 J2 : D) (at : ℕ) (w w1 : Waiting) (bs : List (List ℕ)) → w ≡ record { at = at; blocks = [] } → TakesBlocks drive J w bs J1 w1 → AddsPrefix (drive.journal J1) w1.at w1.blocks (drive.journal J2) → drive.writes J2 ≡ drive.writes J1 ++ w1.blocks ∷ []
    → AddsPrefix (drive.journal J) at bs (drive.journal J2)
takes_fronted J J1 J2 at w w1 bs new t front sent = stops_front J J2 at w bs new (takes_front J J1 J2 w w1 bs t front (sends_one w1.blocks (turn_cut w1.blocks front) sent))

-- a write failed before the last block was given to any
pub alone_before : {D : Type 0} {drive : Ghosts D} (J J' : D) (at : ℕ) (w : Waiting) (bs : List (List ℕ)) (last : List ℕ) → w ≡ record { at = at; blocks = [] } → Stops drive J w bs J' → SendsAlone drive at bs last true J J'
alone_before {drive = drive} J J' at w bs last new s = alone_stopped last (subst (λ (v : Waiting). Sends drive v.at (v.blocks ++ bs) true J J') new s.sends)

-- the last block waited alone, and was given to a write
pub alone_after : {D : Type 0} {drive : Ghosts D} {failed : Bool} (J J1 J2 : D) (at : ℕ) (w w1 : Waiting) (bs : List (List ℕ)) (last : List ℕ) → w ≡ record { at = at; blocks = [] } → TakesBlocks drive J w (bs ++ last ∷ []) J1 w1 → w1.blocks ≡ last ∷ []
    → WritesInTurn w1.at failed (drive.journal J1) (w1.blocks ∷ []) (drive.journal J2) → drive.writes J2 ≡ drive.writes J1 ++ w1.blocks ∷ [] → SendsAlone drive at bs last failed J J2
alone_after {drive = drive} {failed = failed} J J1 J2 at w w1 bs last new t waits turn sent =
    let all : bs ++ last ∷ [] ≡ t.sent ++ w1.blocks = sym (ap (λ (v : Waiting). v.blocks ++ (bs ++ last ∷ [])) new) ∙ t.order in
    let before : t.sent ≡ bs = front_sent bs t.sent w1.blocks last all waits in
    alone_sent last (t.place ∙ ap (λ (v : Waiting). v.at + length t.sent) new ∙ ap (λ (cs : List (List ℕ)). at + length cs) before)
    (sends_as before (subst (λ (v : Waiting). Sends drive v.at t.sent false J J1) new t.sends))
    (subst (λ (cs : List (List ℕ)). WritesInTurn w1.at failed (drive.journal J1) (cs ∷ []) (drive.journal J2)) waits turn) (sent ∙ ap (λ (cs : List (List ℕ)). drive.writes J1 ++ cs ∷ []) waits)

pub writes_ends : (at : ℕ) (J J' : List Event) (bs : List (List ℕ)) → at ≤ next_of J → J' ≡ J ++ written at bs → at + length bs ≤ next_of J'
writes_ends at J J' bs begins is = omega (arith, ap next_of is, begins_after J at bs begins)

pub front_ends : (at : ℕ) (J J' : List Event) (bs : List (List ℕ)) → at ≤ next_of J → AddsPrefix J at bs J' → at ≤ next_of J'
front_ends at J J' bs begins f = omega (arith, ap next_of f.2, begins_after J at (take f.0 bs) begins)

-- what holds on an error holds where there is one
pub on_err : {T E : Type 0} (r : Result T E) (P : Type 0) → is_err r ≡ true → OnErr r P → P
on_err (Ok x) P e h = absurd (false≢true e)
on_err (Err x) P e h = h

pub err_weaker : {T E P Q : Type 0} (r : Result T E) → (P → Q) → OnErr r P → OnErr r Q
err_weaker (Ok x) f h = tt
err_weaker (Err x) f h = f h

pub on_ok : {T E : Type 0} (r : Result T E) (P : Type 0) → is_err r ≡ false → OnOk r P → P
on_ok (Ok x) P e h = h
on_ok (Err x) P e h = absurd (false≢true (sym e))
