-- Writes that are made one after another.
use Rattle.std.proofs.Common.{◌≡◌, ℕ, Bool, true, false, ◌+◌, List, [], ◌∷◌, ◌++◌, length, take, refl, sym, ◌∙◌, ap, subst, arith, append_assoc, append-nil, length-append}
use Rattle.std.proofs.lemmas.Bool.{false≢true}
use Rattle.drive.specs.Journal.{Event, written, AddsPrefix}
use Rattle.drive.specs.Writes.{joined, LastIsCut, WritesInTurn}
use Rattle.drive.proofs.Fronts.{front_whole, front_after, written_after}

pub joined_append : (xs ys : List (List (List ℕ))) → joined (xs ++ ys) ≡ joined xs ++ joined ys
joined_append [] ys = refl
joined_append (x ∷ xs) ys = ap (λ (bs : List (List ℕ)). x ++ bs) (joined_append xs ys) ∙ sym (append_assoc x (joined xs) (joined ys))

pub joined_one : (blocks : List (List ℕ)) → joined (blocks ∷ []) ≡ blocks
joined_one blocks = append-nil blocks

-- no write
pub turn_none : (at : ℕ) (J : List Event) → WritesInTurn at false J [] J
turn_none at J = record { all = λ h. sym (append-nil J); cut = λ h. absurd (false≢true h) }

-- one write, which added all its blocks
pub turn_whole : {at : ℕ} {J J' : List Event} (blocks : List (List ℕ)) → J' ≡ J ++ written at blocks → WritesInTurn at false J (blocks ∷ []) J'
turn_whole {at = at} {J = J} blocks is = record {
  all = λ h. is ∙ ap (λ (bs : List (List ℕ)). J ++ written at bs) (sym (joined_one blocks));
  cut = λ h. absurd (false≢true h);
}

-- or failed
pub turn_cut : {at : ℕ} {J J' : List Event} (blocks : List (List ℕ)) → AddsPrefix J at blocks J' → WritesInTurn at true J (blocks ∷ []) J'
turn_cut {at = at} {J = J} {J' = J'} blocks (m, le, is) = record {
  all = λ h. absurd (false≢true (sym h));
  cut = λ h. record {
    earlier = [];
    last = blocks;
    order = refl;
    front = (m, le, is ∙ ap (λ (K : List Event). K ++ written at (take m blocks)) (sym (append-nil J)) ∙ ap (λ (n : ℕ). (J ++ []) ++ written n (take m blocks)) (omega arith));
  };
}

-- writes after others that added all their blocks
pub turn_then : {failed : Bool} {J J1 J2 : List Event} {at next : ℕ} {ps qs : List (List (List ℕ))} → next ≡ at + length (joined ps) → WritesInTurn at false J ps J1 → WritesInTurn next failed J1 qs J2 → WritesInTurn at failed J (ps ++ qs) J2
turn_then {J = J} {J1 = J1} {J2 = J2} {at = at} {next = next} {ps = ps} {qs = qs} place p q = record {
  all = λ h. written_after J J1 J2 at next (joined ps) (joined qs) (p.all refl) place (q.all h) ∙ ap (λ (bs : List (List ℕ)). J ++ written at bs) (sym (joined_append ps qs));
  cut = λ h. after (q.cut h);
}
  where
    after : LastIsCut next J1 qs J2 → LastIsCut at J (ps ++ qs) J2
    after c =
        let (m, le, is) = c.front in
        let K : J1 ++ written next (joined c.earlier) ≡ J ++ written at (joined (ps ++ c.earlier)) =
        written_after J J1 (J1 ++ written next (joined c.earlier)) at next (joined ps) (joined c.earlier) (p.all refl) place refl ∙ ap (λ (bs : List (List ℕ)). J ++ written at bs) (sym (joined_append ps c.earlier)) in
        let n : next + length (joined c.earlier) ≡ at + length (joined (ps ++ c.earlier)) =
        omega (arith, place, ap length (joined_append ps c.earlier), length-append (joined ps) (joined c.earlier)) in
        record {
          earlier = ps ++ c.earlier;
          last = c.last;
          order = ap (λ (ws : List (List (List ℕ))). ps ++ ws) c.order ∙ sym (append_assoc ps c.earlier (c.last ∷ []));
          front = (
            m,
            le,
            is ∙ ap (λ (L : List Event). L ++ written (next + length (joined c.earlier)) (take m c.last)) K
                ∙ ap (λ (k : ℕ). (J ++ written at (joined (ps ++ c.earlier))) ++ written k (take m c.last)) n,
          );
        }

-- what was added where the last write was cut is a prefix of all blocks
pub cut_front : {J J' : List Event} {at : ℕ} {ws : List (List (List ℕ))} → LastIsCut at J ws J' → AddsPrefix J at (joined ws) J'
cut_front {J = J} {J' = J'} {at = at} {ws = ws} c =
    subst (λ (bs : List (List ℕ)). AddsPrefix J at bs J')
    (ap (λ (bs : List (List ℕ)). joined c.earlier ++ bs) (sym (joined_one c.last)) ∙ sym (joined_append c.earlier (c.last ∷ [])) ∙ ap joined (sym c.order))
    (front_after J (J ++ written at (joined c.earlier)) J' at (at + length (joined c.earlier)) (joined c.earlier) c.last refl refl c.front)

pub turn_front : {failed : Bool} {J J' : List Event} {at : ℕ} {ws : List (List (List ℕ))} → WritesInTurn at failed J ws J' → AddsPrefix J at (joined ws) J'
turn_front {failed = true} t = cut_front (t.cut refl)
turn_front {failed = false} {J = J} {J' = J'} {at = at} {ws = ws} t = subst (λ (K : List Event). AddsPrefix J at (joined ws) K) (sym (t.all refl)) (front_whole J at (joined ws))
