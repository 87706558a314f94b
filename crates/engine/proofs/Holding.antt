-- Steps that are rows, one after the other, are a run of the medium's.
use Rattle.std.proofs.Common.{◌≡◌, ℕ, ◌+◌, ◌≤◌, List, [], ◌∷◌, ◌++◌, length, take, refl, sym, ap, ◌∙◌, subst, arith}
use Rattle.std.proofs.lemmas.List.{take_all, take-take}
use Rattle.drive.specs.Journal.{Event, held, Once}
use Rattle.model.specs.Session.{State, Request}
use Rattle.durability.specs.Commit.{need}
use Rattle.durability.specs.Step.{Moves}
use Rattle.durability.specs.Journal.{Advances}
use Rattle.durability.specs.Runs.{Delivery, Answer, Row, Runs}
use Rattle.durability.proofs.OnJournals.{length-held, holds_on_journal}
use Rattle.durability.proofs.Runs.{holds}
use Rattle.udf.specs.Udf.{udf, spelled_length}
use Rattle.engine.specs.Situation.{Situation}
use Rattle.engine.specs.Steps.{HoldsState, AllSteps, StepsHold}

-- what steps make of a medium
record Made (volume capacity : ℕ) (ds : List Delivery) (S : State) (before : Situation) (answers : List Answer) (S' : State) (afterwards : Situation) : Type 0 where
  committed : List Request
  runs : Runs udf (need spelled_length) capacity volume (held before.journal) S ds answers committed (held afterwards.journal) S'
  once : Once afterwards.journal
  front : take (length before.journal) afterwards.journal ≡ before.journal
  grows : length before.journal ≤ length afterwards.journal

-- a prefix of a prefix
pub front_on : (J K L : List Event) → take (length J) K ≡ J → length J ≤ length K → take (length K) L ≡ K → take (length J) L ≡ J
front_on J K L first le second = shorter ∙ ap (λ (M : List Event). take (length J) M) second ∙ first
  where
    shorter : take (length J) L ≡ take (length J) (take (length K) L)
    shorter = sym (take-take (length J) (length K) L le)

module _ (volume capacity : ℕ) where
  made : (ds : List Delivery) (S : State) (before : Situation) (answers : List Answer) (S' : State) (afterwards : Situation) → HoldsState volume S before → before.capacity ≡ capacity
      → AllSteps volume ds S before answers S' afterwards → Made volume capacity ds S before answers S' afterwards
  made [] S before answers S' afterwards at size (none, state, same) = record {
    committed = [];
    runs = (none, refl, ap (λ (s : Situation). held s.journal) same, state);
    once = subst (λ (s : Situation). Once s.journal) (sym same) at.once;
    front = ap (λ (s : Situation). take (length before.journal) s.journal) same ∙ take_all (length before.journal) before.journal (omega arith);
    grows = subst (λ (s : Situation). length before.journal ≤ length s.journal) (sym same) (omega arith);
  }
  made (d ∷ ds) S before answers S' afterwards at size (a, T, during, rest, step, told, steps) =
      let later = made ds T during rest S' afterwards step.at (step.capacity ∙ size) steps in
      let now : Advances udf capacity volume before.journal S during.journal T = subst (λ (c : ℕ). Advances udf c volume before.journal S during.journal T) size step.advances in
      record {
        committed = step.effect.done ++ later.committed;
        runs = (
          held during.journal,
          a,
          step.effect,
          rest,
          later.committed,
          subst (λ (n : ℕ). Row (need spelled_length) S n volume d a step.effect) (sym (length-held before.journal at.once)) step.row,
          length-held during.journal now.once ∙ step.blocks ∙ ap (λ (n : ℕ). n + step.effect.blocks) (sym (length-held before.journal at.once)),
          subst (λ (U : State). Moves udf capacity volume (held before.journal) S (held during.journal) U) step.state now.moves,
          told,
          refl,
          subst (λ (U : State). Runs udf (need spelled_length) capacity volume (held during.journal) U ds rest later.committed (held afterwards.journal) S') step.state later.runs,
        );
        once = later.once;
        front = front_on before.journal during.journal afterwards.journal now.front (omega (arith, step.blocks)) later.front;
        grows = omega (arith, step.blocks, later.grows);
      }

pub steps_hold : StepsHold
steps_hold volume ds S before answers S' afterwards at steps =
    let m = made volume before.capacity ds S before answers S' afterwards at refl steps in
    holds_on_journal udf before.capacity volume (need spelled_length) S before.journal afterwards.journal ds answers at.once m.once m.front
    (holds udf (need spelled_length) before.capacity volume S (held before.journal) (held afterwards.journal) ds answers m.committed S' at.stands m.runs)
