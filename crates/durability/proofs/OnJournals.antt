-- Commits and runs on a drive's journal.
use Rattle.std.proofs.Common.{◌≡◌, ◌⊎◌, inl, inr, ℕ, ◌+◌, List, [], ◌∷◌, ◌++◌, length, take, sym, ◌∙◌, ap, subst, arith}
use Rattle.drive.specs.Journal.{Event, held, Once, AddsPrefix, written}
use Rattle.drive.specs.Writes.{LastIsAlone, IsLeft}
use Rattle.drive.proofs.Once.{held_once, held_front, length-blocks_of}
use Rattle.drive.proofs.Fronts.{front_whole, front_keeps, front_once, front_length, held_write, held_cut}
use Rattle.model.specs.Session.{State, Request, after_one, after}
use Rattle.durability.specs.Formats.{Block, Formats, AreExact, AreBounded, AreDistinct}
use Rattle.durability.specs.Volume.{RecoversTo}
use Rattle.durability.specs.Step.{Moves, CarriesOut}
use Rattle.durability.specs.Plan.{IsPlanned}
use Rattle.durability.specs.Runs.{Delivery, Answer, Holds}
use Rattle.durability.specs.Journal.{Advances, HoldsOnJournal}
use Rattle.durability.proofs.Commits.{moves_some}
use Rattle.durability.proofs.Planned.{planned_carries}
use Rattle.durability.proofs.Torn.{commit_torn}

pub length-held : (J : List Event) → Once J → length (held J) ≡ length J
length-held J once = ap (λ (B : List Block). length B) (held_once J once) ∙ length-blocks_of J

module _ (formats : Formats) (capacity volume : ℕ) where
  -- Whichever prefix of a commit's planned blocks was written: the journal recovers to the old state, or all of them are there and it recovers to the state after the request.
  pub commit_advances : AreExact formats → AreBounded formats → AreDistinct formats → (J J' : List Event) (S : State) (r : Request) (blocks : List Block) (mark : Block) → Once J
      → (stands : RecoversTo formats capacity volume (held J) S) → IsPlanned formats capacity volume (held J) S stands r blocks mark → AddsPrefix J (length J) (blocks ++ mark ∷ []) J'
      → Advances formats capacity volume J S J' S ⊎ ((length J' ≡ length J + length (blocks ++ mark ∷ [])) × Advances formats capacity volume J S J' (after_one S r))
  commit_advances exact bounded distinct J J' S r blocks mark once stands plan front = go (moves_some formats capacity volume exact (held J) blocks mark S r stands carries front.0 front.1)
    where
      carries : CarriesOut formats capacity volume (held J) S stands r blocks mark
      carries = planned_carries formats capacity volume exact distinct (held J) S stands bounded r blocks mark plan

      all : List Block
      all = blocks ++ mark ∷ []

      now : held J' ≡ held J ++ take front.0 all
      now = held_cut J J' (length J) all once (let same : length J ≡ length J = omega arith in same) front

      with_moves : (S' : State) → Moves formats capacity volume (held J) S (held J ++ take front.0 all) S' → Advances formats capacity volume J S J' S'
      with_moves S' moves = record {
        front = front_keeps J J' (length J) all front;
        once = front_once J J' (length J) all once (let same : length J ≡ length J = omega arith in same) front;
        moves = subst (λ (M : List Block). Moves formats capacity volume (held J) S M S') (sym now) moves;
      }

      go : Moves formats capacity volume (held J) S (held J ++ take front.0 all) S ⊎ ((front.0 ≡ length all) × Moves formats capacity volume (held J) S (held J ++ take front.0 all) (after_one S r))
          → Advances formats capacity volume J S J' S ⊎ ((length J' ≡ length J + length all) × Advances formats capacity volume J S J' (after_one S r))
      go (inl stays) = inl (with_moves S stays)
      go (inr whole) = inr (omega (arith, whole.0, front_length J J' (length J) all front), with_moves (after_one S r) whole.1)

  -- And whatever a power loss left of them, where the last went out alone.
  pub torn_advances : AreExact formats → AreBounded formats → AreDistinct formats → (J J' : List Event) (S : State) (r : Request) (blocks : List Block) (mark : Block) → Once J
      → (stands : RecoversTo formats capacity volume (held J) S) → IsPlanned formats capacity volume (held J) S stands r blocks mark
      → (writes : List (List Block)) (left : List Block) → LastIsAlone blocks mark writes → IsLeft writes left → J' ≡ J ++ written (length J) left
      → Advances formats capacity volume J S J' S ⊎ ((left ≡ blocks ++ mark ∷ []) × Advances formats capacity volume J S J' (after_one S r))
  torn_advances exact bounded distinct J J' S r blocks mark once stands plan writes left are is afterwards =
      elim (commit_torn formats distinct exact bounded capacity volume (held J) S stands r blocks mark plan writes left are is) [
        | inl stays ↦ inl (with_moves S stays)
        | inr whole ↦ inr (whole.0, with_moves (after_one S r) whole.1)
      ]
    where
      all : AddsPrefix J (length J) left J'
      all = subst (λ (K : List Event). AddsPrefix J (length J) left K) (sym afterwards) (front_whole J (length J) left)

      with_moves : (S' : State) → Moves formats capacity volume (held J) S (held J ++ left) S' → Advances formats capacity volume J S J' S'
      with_moves S' moves = record {
        front = front_keeps J J' (length J) left all;
        once = front_once J J' (length J) left once (let same : length J ≡ length J = omega arith in same) all;
        moves = subst (λ (M : List Block). Moves formats capacity volume (held J) S M S') (sym (held_write J J' (length J) left once (let same : length J ≡ length J = omega arith in same) afterwards)) moves;
      }

  -- what holds on the blocks of a journal holds at its prefixes
  pub holds_on_journal : (need : State → Request → ℕ) (S : State) (J J' : List Event) (ds : List Delivery) (answers : List Answer) → Once J → Once J' → take (length J) J' ≡ J
      → Holds formats need capacity volume S (held J) (held J') ds answers → HoldsOnJournal formats need capacity volume S J J' ds answers
  holds_on_journal need S J J' ds answers once once' front h = record {
    front = front;
    once = once';
    holds = h;
    stands = λ k low high.
        let at = h.stands k (omega (arith, length-held J once)) (omega (arith, length-held J' once')) in
        let same : take k (held J') ≡ held (take k J') = ap (λ (B : List Block). take k B) (held_once J' once') ∙ sym (held_front k J' once') in
        (at.0, subst (λ (B : List Block). RecoversTo formats capacity volume B (after S (take (h.c k) h.committed))) same at.1);
  }
