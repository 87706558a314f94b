-- Blocks that are given to writes, some and then more.
use Rattle.std.proofs.Common.{◌≡◌, ℕ, Bool, true, false, ◌+◌, ◌-◌, ◌<◌, List, [], ◌∷◌, ◌++◌, length, take, drop, refl, sym, ◌∙◌, ap, subst, arith, append_assoc, append-nil, length-append}
use Rattle.std.proofs.lemmas.Bool.{false≢true}
use Rattle.std.proofs.lemmas.List.{append_cancel_right}
use Rattle.std.proofs.Math.Seq.{take-append_seam, drop-append_seam}
use Rattle.drive.specs.Writes.{joined, WritesInTurn}
use Rattle.drive.specs.Sending.{Sends, SendsAlone}
use Rattle.drive.specs.declared.Drive.{Ghosts}
use Rattle.drive.proofs.Turns.{joined_append, turn_none, turn_then}

-- no write
pub sends_none : {D : Type 0} (drive : Ghosts D) (at : ℕ) (d : D) → Sends drive at [] false d d
sends_none drive at d = record { added = []; rest = []; writes = sym (append-nil (drive.writes d)); order = refl; whole = λ h. refl; in_turn = turn_none at (drive.journal d) }

-- a write of these blocks, be there any or none
pub sends_one : {D : Type 0} {drive : Ghosts D} {at : ℕ} {failed : Bool} {a b : D} (blocks : List (List ℕ)) → WritesInTurn at failed (drive.journal a) (blocks ∷ []) (drive.journal b) → drive.writes b ≡ drive.writes a ++ blocks ∷ [] → Sends drive at blocks failed a b
sends_one blocks turn is = record { added = blocks ∷ []; rest = []; writes = is; order = append-nil (blocks ++ []) ∙ append-nil blocks; whole = λ h. refl; in_turn = turn }

all_sent : (added : List (List (List ℕ))) (rest blocks : List (List ℕ)) → joined added ++ rest ≡ blocks → rest ≡ [] → joined added ≡ blocks
all_sent added rest blocks order none = sym (append-nil (joined added)) ∙ ap (λ (bs : List (List ℕ)). joined added ++ bs) (sym none) ∙ order

-- the writes that blocks made which all went out
pub sent_all : {D : Type 0} {drive : Ghosts D} {at : ℕ} {blocks : List (List ℕ)} {a b : D} (p : Sends drive at blocks false a b) → joined p.added ≡ blocks
sent_all {blocks = blocks} p = all_sent p.added p.rest blocks p.order (p.whole refl)

-- blocks after others that all went out
pub sends_then : {D : Type 0} {drive : Ghosts D} {at next : ℕ} {failed : Bool} {bs cs : List (List ℕ)} {a b c : D} → next ≡ at + length bs → Sends drive at bs false a b → Sends drive next cs failed b c → Sends drive at (bs ++ cs) failed a c
sends_then {drive = drive} {at = at} {bs = bs} {cs = cs} {a = a} place p q = record {
  added = p.added ++ q.added;
  rest = q.rest;
  writes = q.writes ∙ ap (λ (ws : List (List (List ℕ))). ws ++ q.added) p.writes ∙ append_assoc (drive.writes a) p.added q.added;
  order = ap (λ (bs : List (List ℕ)). bs ++ q.rest) (joined_append p.added q.added) ∙ append_assoc (joined p.added) (joined q.added) q.rest
      ∙ ap (λ (ds : List (List ℕ)). joined p.added ++ ds) q.order ∙ ap (λ (ds : List (List ℕ)). ds ++ cs) (sent_all p);
  whole = q.whole;
  in_turn = turn_then (place ∙ ap (λ (ds : List (List ℕ)). at + length ds) (sym (sent_all p))) p.in_turn q.in_turn;
}

-- a failure among some blocks is one among these and more
pub sends_longer : {D : Type 0} {drive : Ghosts D} {at : ℕ} {bs : List (List ℕ)} {a b : D} (cs : List (List ℕ)) → Sends drive at bs true a b → Sends drive at (bs ++ cs) true a b
sends_longer cs p = record {
  added = p.added;
  rest = p.rest ++ cs;
  writes = p.writes;
  order = sym (append_assoc (joined p.added) p.rest cs) ∙ ap (λ (ds : List (List ℕ)). ds ++ cs) p.order;
  whole = λ h. absurd (false≢true (sym h));
  in_turn = p.in_turn;
}

pub sends_as : {D : Type 0} {drive : Ghosts D} {at : ℕ} {bs cs : List (List ℕ)} {failed : Bool} {a b : D} → bs ≡ cs → Sends drive at bs failed a b → Sends drive at cs failed a b
sends_as {drive = drive} {at = at} {failed = failed} {a = a} {b = b} same p = subst (λ (ds : List (List ℕ)). Sends drive at ds failed a b) same p

-- a write failed before the last block was given to any
pub alone_stopped : {D : Type 0} {drive : Ghosts D} {at : ℕ} {bs : List (List ℕ)} {a b : D} (last : List ℕ) → Sends drive at bs true a b → SendsAlone drive at bs last true a b
alone_stopped last p = record {
  added = p.added;
  others = p.rest ∷ (last ∷ []) ∷ [];
  writes = p.writes;
  alone = record {
    before = p.added ++ p.rest ∷ [];
    order = joined_append p.added (p.rest ∷ []) ∙ ap (λ (ds : List (List ℕ)). joined p.added ++ ds) (append-nil p.rest) ∙ p.order;
    writes_are = sym (append_assoc p.added (p.rest ∷ []) ((last ∷ []) ∷ []));
  };
  whole = λ h. absurd (false≢true (sym h));
  in_turn = p.in_turn;
}

-- the last block was given to a write alone, after all others
pub alone_sent : {D : Type 0} {drive : Ghosts D} {at next : ℕ} {bs : List (List ℕ)} {failed : Bool} {a b c : D} (last : List ℕ) → next ≡ at + length bs → Sends drive at bs false a b
    → WritesInTurn next failed (drive.journal b) ((last ∷ []) ∷ []) (drive.journal c) → drive.writes c ≡ drive.writes b ++ (last ∷ []) ∷ [] → SendsAlone drive at bs last failed a c
alone_sent {drive = drive} {at = at} {a = a} last place p turn is = record {
  added = p.added ++ (last ∷ []) ∷ [];
  others = [];
  writes = is ∙ ap (λ (ws : List (List (List ℕ))). ws ++ (last ∷ []) ∷ []) p.writes ∙ append_assoc (drive.writes a) p.added ((last ∷ []) ∷ []);
  alone = record { before = p.added; order = sent_all p; writes_are = append-nil (p.added ++ (last ∷ []) ∷ []) };
  whole = λ h. refl;
  in_turn = turn_then (place ∙ ap (λ (ds : List (List ℕ)). at + length ds) (sym (sent_all p))) p.in_turn turn;
}

-- what is before the last block, and the last block
pub front_split : (bs front : List (List ℕ)) (b : List ℕ) (n : ℕ) → n ≡ length bs - 1 → bs ≡ front ++ b ∷ [] → take n bs ≡ front
front_split bs front b n e is =
    let same : n ≡ length front = omega (arith, e, ap length is, length-append front (b ∷ [])) in
    ap (λ k. take k bs) same ∙ ap (λ (cs : List (List ℕ)). take (length front) cs) is ∙ take-append_seam front (b ∷ [])

pub last_split : (bs front : List (List ℕ)) (b : List ℕ) (n : ℕ) → n ≡ length bs - 1 → bs ≡ front ++ b ∷ [] → drop n bs ≡ b ∷ []
last_split bs front b n e is =
    let same : n ≡ length front = omega (arith, e, ap length is, length-append front (b ∷ [])) in
    ap (λ k. drop k bs) same ∙ ap (λ (cs : List (List ℕ)). drop (length front) cs) is ∙ drop-append_seam front (b ∷ [])

-- all but the last block went out, and it waits
pub front_sent : (bs sent waiting : List (List ℕ)) (b : List ℕ) → bs ++ b ∷ [] ≡ sent ++ waiting → waiting ≡ b ∷ [] → sent ≡ bs
front_sent bs sent waiting b same is = sym (append_cancel_right bs sent (b ∷ []) (same ∙ ap (λ (cs : List (List ℕ)). sent ++ cs) is))

-- of one block that was given where none waited, and of which some wait: it waits
pub one_waits : (sent waiting : List (List ℕ)) (b : List ℕ) → b ∷ [] ≡ sent ++ waiting → 0 < length waiting → waiting ≡ b ∷ []
one_waits [] waiting b same some = sym same
one_waits (s ∷ sent) waiting b same some = absurd (omega (arith, ap length same, length-append sent waiting, some))
