-- Blocks that go out in packets.
use Rattle.std.proofs.Common.{◌≡◌, ℕ, true, false, zero, suc, ◌+◌, ◌≤◌, ◌<◌, List, [], ◌∷◌, ◌++◌, length, take, drop, get_or, refl, sym, ◌∙◌, ap, subst, arith, append_assoc, append-nil, length-append}
use Rattle.std.proofs.lemmas.List.{length-take-le, take-append-drop}
use Rattle.drive.specs.Journal.{Event, written, next_of, AddsPrefix}
use Rattle.drive.specs.Sending.{Sends}
use Rattle.drive.specs.Waiting.{Waiting, next_address, TakesBlocks, Stops}
use Rattle.drive.specs.declared.Drive.{Ghosts}
use Rattle.drive.proofs.Fronts.{front_longer, front_after, written_after, begins_after}
use Rattle.drive.proofs.Sending.{sends_none, sends_then, sends_longer, sends_as}

-- the next packet may begin after what was written
pub packet_begins : (J K : List Event) (at d : ℕ) (bs : List (List ℕ)) → at ≤ next_of J → d ≤ length bs → K ≡ J ++ written at (take d bs) → at + d ≤ next_of K
packet_begins J K at d bs begins h k = omega (arith, ap next_of k, begins_after J at (take d bs) begins, length-take-le d bs h)

-- no block: nothing happens
pub takes-nil : {D : Type 0} (drive : Ghosts D) (d : D) (w : Waiting) → TakesBlocks drive d w [] d w
takes-nil drive d w = record {
  sent = [];
  order = append-nil w.blocks;
  journal = sym (append-nil (drive.journal d));
  sends = sends_none drive w.at d;
  place = omega arith;
  ends = omega arith;
  begins = λ h. h;
}

-- a block that waits with the others
pub takes_waiting : {D : Type 0} (drive : Ghosts D) (d e : D) (w w' : Waiting) (b : List ℕ) → e ≡ d → w'.at ≡ w.at → w'.blocks ≡ w.blocks ++ b ∷ [] → TakesBlocks drive d w (b ∷ []) e w'
takes_waiting drive d e w w' b is at blocks = record {
  sent = [];
  order = sym blocks;
  journal = ap (λ x. drive.journal x) is ∙ sym (append-nil (drive.journal d));
  sends = subst (λ x. Sends drive w.at [] false d x) (sym is) (sends_none drive w.at d);
  place = omega (arith, at);
  ends = omega (arith, at, ap length blocks, length-append w.blocks (b ∷ []));
  begins = λ h. omega (arith, at, h, ap (λ x. next_of (drive.journal x)) is);
}

-- blocks that wait alone, since the others were written
pub takes_alone : {D : Type 0} (drive : Ghosts D) (d e : D) (w w' : Waiting) (bs : List (List ℕ)) → drive.journal e ≡ drive.journal d ++ written w.at w.blocks → Sends drive w.at w.blocks false d e
    → w'.at ≡ next_address w → w'.blocks ≡ bs → TakesBlocks drive d w bs e w'
takes_alone drive d e w w' bs is sends at blocks = record {
  sent = w.blocks;
  order = ap (λ (cs : List (List ℕ)). w.blocks ++ cs) (sym blocks);
  journal = is;
  sends = sends;
  place = at;
  ends = omega (arith, at, ap length blocks);
  begins = λ h. omega (arith, at, ap next_of is, begins_after (drive.journal d) w.at w.blocks h);
}

-- what waited is written, and none waits
pub takes_finished : {D : Type 0} (drive : Ghosts D) (d e : D) (w w' : Waiting) → drive.journal e ≡ drive.journal d ++ written w.at w.blocks → Sends drive w.at w.blocks false d e
    → w' ≡ record { at = next_address w; blocks = [] } → TakesBlocks drive d w [] e w'
takes_finished drive d e w w' is sends empty = takes_alone drive d e w w' [] is sends (ap (λ (v : Waiting). v.at) empty) (ap (λ (v : Waiting). v.blocks) empty)

-- the write of what waited failed
pub stops_finished : {D : Type 0} (drive : Ghosts D) (d e : D) (w : Waiting) → AddsPrefix (drive.journal d) w.at w.blocks (drive.journal e) → Sends drive w.at w.blocks true d e → Stops drive d w [] e
stops_finished drive d e w front sends = record {
  front = front_longer (drive.journal d) (drive.journal e) w.at w.blocks [] front;
  sends = sends_longer [] sends;
}

-- of what waited, the lent and the packet, none is there
pub none_lent : (lent packet : List (List ℕ)) → lent ++ packet ≡ [] → lent ≡ []
none_lent [] packet h = refl
none_lent (b ∷ lent) packet h = absurd (omega (arith, ap length h))

pub none_packed : (lent packet : List (List ℕ)) → lent ++ packet ≡ [] → packet ≡ []
none_packed [] packet h = h
none_packed (b ∷ lent) packet h = absurd (omega (arith, ap length h))

-- some blocks, and then more
pub takes-append : {D : Type 0} {drive : Ghosts D} (d e f : D) (w w1 w2 : Waiting) (blocks more : List (List ℕ)) → TakesBlocks drive d w blocks e w1 → TakesBlocks drive e w1 more f w2 → TakesBlocks drive d w (blocks ++ more) f w2
takes-append {drive = drive} d e f w w1 w2 blocks more t u = record {
  sent = t.sent ++ u.sent;
  order = sym (append_assoc w.blocks blocks more) ∙ rw t.order (append_assoc t.sent w1.blocks more ∙ rw u.order (sym (append_assoc t.sent u.sent w2.blocks)));
  journal = written_after (drive.journal d) (drive.journal e) (drive.journal f) w.at w1.at t.sent u.sent t.journal t.place u.journal;
  sends = sends_then t.place t.sends u.sends;
  place = omega (arith, t.place, u.place, length-append t.sent u.sent);
  ends = omega (arith, t.ends, u.ends, length-append blocks more);
  begins = λ h. u.begins (t.begins h);
}

-- some blocks, and then a failure
pub stops_after : {D : Type 0} {drive : Ghosts D} (d e f : D) (w w1 : Waiting) (blocks more : List (List ℕ)) → TakesBlocks drive d w blocks e w1 → Stops drive e w1 more f → Stops drive d w (blocks ++ more) f
stops_after {drive = drive} d e f w w1 blocks more t s =
    let all : t.sent ++ (w1.blocks ++ more) ≡ w.blocks ++ (blocks ++ more) = sym (append_assoc t.sent w1.blocks more) ∙ rw (← t.order) (append_assoc w.blocks blocks more) in
    record {
      front = subst (λ (cs : List (List ℕ)). AddsPrefix (drive.journal d) w.at cs (drive.journal f)) all
          (front_after (drive.journal d) (drive.journal e) (drive.journal f) w.at w1.at t.sent (w1.blocks ++ more) t.journal t.place s.front);
      sends = sends_as all (sends_then t.place t.sends s.sends);
    }

-- a failure among some blocks is one among these and more
pub stops_longer : {D : Type 0} {drive : Ghosts D} (d e : D) (w : Waiting) (blocks more : List (List ℕ)) → Stops drive d w blocks e → Stops drive d w (blocks ++ more) e
stops_longer {drive = drive} d e w blocks more s = record {
  front = subst (λ (cs : List (List ℕ)). AddsPrefix (drive.journal d) w.at cs (drive.journal e)) (append_assoc w.blocks blocks more) (front_longer (drive.journal d) (drive.journal e) w.at (w.blocks ++ blocks) more s.front);
  sends = sends_as (append_assoc w.blocks blocks more) (sends_longer more s.sends);
}

-- a failure before a block went out is one among the block and what waited
pub stops_before : {D : Type 0} {drive : Ghosts D} {d e : D} {w : Waiting} {b : List ℕ} → Stops drive d w [] e → Stops drive d w (b ∷ []) e
stops_before {d = d} {e = e} {w = w} {b = b} s = stops_longer d e w [] (b ∷ []) s

-- what waits is written in the end: all the blocks are
pub takes_all : {D : Type 0} {drive : Ghosts D} (d e f : D) (w w1 : Waiting) (blocks : List (List ℕ)) → TakesBlocks drive d w blocks e w1 → drive.journal f ≡ drive.journal e ++ written w1.at w1.blocks → drive.journal f ≡ drive.journal d ++ written w.at (w.blocks ++ blocks)
takes_all {drive = drive} d e f w w1 blocks t is =
    written_after (drive.journal d) (drive.journal e) (drive.journal f) w.at w1.at t.sent w1.blocks t.journal t.place is ∙ ap (λ (cs : List (List ℕ)). drive.journal d ++ written w.at cs) (sym t.order)

-- or a write of it fails: a prefix of the blocks is
pub takes_front : {D : Type 0} {drive : Ghosts D} (d e f : D) (w w1 : Waiting) (blocks : List (List ℕ)) → TakesBlocks drive d w blocks e w1 → AddsPrefix (drive.journal e) w1.at w1.blocks (drive.journal f) → Sends drive w1.at w1.blocks true e f → Stops drive d w blocks f
takes_front {drive = drive} d e f w w1 blocks t front sends = record {
  front = subst (λ (cs : List (List ℕ)). AddsPrefix (drive.journal d) w.at cs (drive.journal f)) (sym t.order)
      (front_after (drive.journal d) (drive.journal e) (drive.journal f) w.at w1.at t.sent w1.blocks t.journal t.place front);
  sends = sends_as (sym t.order) (sends_then t.place t.sends sends);
}

take_more : (i : ℕ) (bs : List (List ℕ)) (d : List ℕ) → i < length bs → take i bs ++ get_or bs i d ∷ [] ≡ take (i + 1) bs
take_more i [] d h = absurd (omega arith)
take_more zero (b ∷ bs) d h = refl
take_more (suc i) (b ∷ bs) d h =
    ap (λ (cs : List (List ℕ)). b ∷ cs) (take_more i bs d (omega arith)) ∙ ap (λ n. take n (b ∷ bs)) (let next : suc (i + 1) ≡ suc i + 1 = omega arith in next)

-- in a loop over some blocks: one block more was taken
pub takes_next : {D : Type 0} {drive : Ghosts D} (d e f : D) (w w1 w2 : Waiting) (i : ℕ) (bs : List (List ℕ)) (x : List ℕ) → i < length bs → TakesBlocks drive d w (take i bs) e w1 → TakesBlocks drive e w1 (get_or bs i x ∷ []) f w2 → TakesBlocks drive d w (take (i + 1) bs) f w2
takes_next {drive = drive} d e f w w1 w2 i bs x h t u = subst (λ (cs : List (List ℕ)). TakesBlocks drive d w cs f w2) (take_more i bs x h) (takes-append d e f w w1 w2 (take i bs) (get_or bs i x ∷ []) t u)

-- in a loop over some blocks: a write failed
pub stops_next : {D : Type 0} {drive : Ghosts D} (d e f : D) (w w1 : Waiting) (i : ℕ) (bs : List (List ℕ)) (x : List ℕ) → i < length bs → TakesBlocks drive d w (take i bs) e w1 → Stops drive e w1 (get_or bs i x ∷ []) f → Stops drive d w bs f
stops_next {drive = drive} d e f w w1 i bs x h t s =
    let upto : Stops drive d w (take (i + 1) bs) f = subst (λ (cs : List (List ℕ)). Stops drive d w cs f) (take_more i bs x h) (stops_after d e f w w1 (take i bs) (get_or bs i x ∷ []) t s) in
    subst (λ (cs : List (List ℕ)). Stops drive d w cs f) (take-append-drop (i + 1) bs) (stops_longer d f w (take (i + 1) bs) (drop (i + 1) bs) upto)
