-- The steps of an engine on an honest drive, as rows of the medium's runs.
use Rattle.std.specs.Prelude.{◌≡◌, ℕ, ◌+◌, List, [], ◌∷◌, ◌++◌, length, Option}
use Rattle.std.specs.Option.{option_to_list}
use Rattle.drive.specs.Journal.{held, Once}
use Rattle.model.specs.Session.{State, after}
use Rattle.durability.specs.Volume.{RecoversTo}
use Rattle.durability.specs.Commit.{need}
use Rattle.durability.specs.Journal.{Advances, HoldsOnJournal}
use Rattle.durability.specs.Runs.{Delivery, Answer, Effect, Row}
use Rattle.udf.specs.Udf.{udf, spelled_length}
use Rattle.store.specs.declared.store.Store.{Store}
use Rattle.store.specs.Calls.{IsOpenOn}
use Rattle.engine.specs.Situation.{Situation, IsOpen}

-- The drive's journal recovers to the state, and a store that is open keeps it.
pub record HoldsState (volume : ℕ) (S : State) (s : Situation) : Type 0 where
  pub once : Once s.journal
  pub stands : RecoversTo udf s.capacity volume (held s.journal) S
  pub knows : (store : Store) → IsOpen s store → IsOpenOn s.capacity volume s.journal S store

-- A delivery gets an answer, none at a restart, by a row of the medium's, and the journal goes on as the row says.
pub record IsStep (volume : ℕ) (d : Delivery) (S : State) (before : Situation) (a : Option Answer) (S' : State) (afterwards : Situation) : Type 0 where
  pub effect : Effect
  pub row : Row (need spelled_length) S (length before.journal) volume d a effect
  pub blocks : length afterwards.journal ≡ length before.journal + effect.blocks
  pub state : S' ≡ after S effect.done
  pub advances : Advances udf before.capacity volume before.journal S afterwards.journal S'
  pub capacity : afterwards.capacity ≡ before.capacity
  pub at : HoldsState volume S' afterwards

-- each delivery in turn
abbrev pub AllSteps : ℕ → List Delivery → State → Situation → List Answer → State → Situation → Type 0
AllSteps volume [] S before answers S' afterwards = (answers ≡ []) × (S' ≡ S) × (afterwards ≡ before)
AllSteps volume (d ∷ ds) S before answers S' afterwards =
    (a : Option Answer) × (T : State) × (during : Situation) × (rest : List Answer) × IsStep volume d S before a T during
    × (answers ≡ option_to_list a ++ rest) × AllSteps volume ds T during rest S' afterwards

-- so what is recovered at each prefix of the journal is the state after the first of the requests that were committed
abbrev pub StepsHold : Type 0
StepsHold =
    (volume : ℕ) (deliveries : List Delivery) (S : State) (before : Situation) (answers : List Answer) (S' : State) (afterwards : Situation) → HoldsState volume S before
    → AllSteps volume deliveries S before answers S' afterwards
    → HoldsOnJournal udf (need spelled_length) before.capacity volume S before.journal afterwards.journal deliveries answers
