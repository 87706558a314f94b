-- A whole run on an honest drive: what its deliveries were, and what is recovered at each prefix of what it wrote.
use Rattle.std.specs.Prelude.{◌≡◌, ℕ, List, [], ◌∷◌, ◌++◌, Bool, Option, Some, None}
use Rattle.std.specs.Option.{option_to_list}
use Rattle.drive.specs.Journal.{Event, held, Once}
use Rattle.request.specs.declared.message.Message.{Message}
use Rattle.request.specs.declared.answer.Answer.{Answer}
use Rattle.request.specs.Payload.{DecodesPayload}
use Rattle.model.specs.Session.{State}
use Rattle.durability.specs.Volume.{RecoversTo}
use Rattle.durability.specs.Commit.{need}
use Rattle.durability.specs.Journal.{HoldsOnJournal}
use Rattle.durability.specs.Runs.{Delivery}
use Rattle.udf.specs.Udf.{udf, spelled_length}
use Rattle.engine.specs.declared.runs.Delivery as delivered
use Rattle.engine.specs.declared.runs.Delivery.TheVariants.{Frame, Restart}
use Rattle.store.specs.declared.store.Store.{Store}
use Rattle.engine.specs.Situation.{Situation, situation, with_store}
use Rattle.engine.specs.Said.{AllSaid, IsDeliverySaid, model_answers, said_told}
use Rattle.engine.specs.Steps.{HoldsState, AllSteps, IsStep}
use Rattle.engine.specs.Called.{Calls}
use Rattle.engine.specs.Delivered.{AllDelivered, faults_told}
use Rattle.engine.specs.Withstanding.{Brings, MessageSurvivesPowerLoss}

-- a delivery, by the calls that it makes
abbrev pub DeliversBy : ℕ → delivered.Delivery → State → Situation → Option Answer → Situation → Type 0
DeliversBy volume Restart S before None afterwards = afterwards ≡ with_store None before
DeliversBy volume Restart S before (Some a) afterwards = ⊥
DeliversBy volume (Frame payload) S before None afterwards = ⊥
DeliversBy volume (Frame payload) S before (Some a) afterwards = (m : Message) × DecodesPayload m payload.items × Calls volume m S before a afterwards

-- These deliveries got these answers, in steps that the medium's runs allow, up to a recovered state.
pub record IsRun (volume : ℕ) (deliveries : List delivered.Delivery) (S : State) (before : Situation) (answers : List Answer) (afterwards : Situation) : Type 0 where
  pub said : List Delivery
  pub are_said : AllSaid deliveries said
  pub state : State
  pub steps : AllSteps volume said S before (model_answers answers) state afterwards

-- a run begins where a state is recovered and no store is kept
abbrev pub RunsBegin : Type 0
RunsBegin =
    (volume : ℕ) (S : State) (journal : List Event) (failures capacity : ℕ) (honest : Bool) (writes : List (List (List ℕ))) → Once journal → RecoversTo udf capacity volume (held journal) S
    → HoldsState volume S (situation None journal failures capacity honest writes)
    × IsRun volume [] S (situation None journal failures capacity honest writes) [] (situation None journal failures capacity honest writes)

-- and goes on with each delivery
abbrev pub RunsGoOn : Type 0
RunsGoOn =
    (volume : ℕ) (deliveries : List delivered.Delivery) (S : State) (before : Situation) (answers : List Answer) (during : Situation) → HoldsState volume S before
    → (run : IsRun volume deliveries S before answers during) (d : delivered.Delivery) (told : Option Answer) (afterwards : Situation) → DeliversBy volume d run.state during told afterwards
    → IsRun volume (deliveries ++ d ∷ []) S before (answers ++ option_to_list told) afterwards

-- At each prefix of what was written the state after the first of the requests that were committed is recovered.
pub record RunHolds (volume capacity : ℕ) (deliveries : List delivered.Delivery) (S : State) (before : List Event) (answers : List Answer) (afterwards : List Event) : Type 0 where
  pub said : List Delivery
  pub are_said : AllSaid deliveries said
  pub holds : HoldsOnJournal udf (need spelled_length) capacity volume S before afterwards said (model_answers answers)

abbrev pub RunsAreHeld : Type 0
RunsAreHeld =
    (volume : ℕ) (deliveries : List delivered.Delivery) (S : State) (before : Situation) (answers : List Answer) (afterwards : Situation) → HoldsState volume S before
    → IsRun volume deliveries S before answers afterwards → RunHolds volume before.capacity deliveries S before.journal answers afterwards.journal

-- Of the deliveries of a run, from the recovered state where the first of them begins. Each is a step that the medium's runs
-- allow, from the state that the one before it left and the journal as it was when the delivery began: that journal's length
-- is the mark of its row. And whatever a power loss leaves of the writes for it, that state is recovered, or the one after the
-- new request that it brought.
abbrev pub AllWithstand : ℕ → (deliveries : List delivered.Delivery) → State → (before : Situation) → (answers : List Answer) → (afterwards : Situation) → AllDelivered deliveries before answers afterwards → State → Type 0
AllWithstand volume [] S before answers afterwards all S' = S' ≡ S
AllWithstand volume (d ∷ deliveries) S before answers afterwards all S' =
    (said : Delivery) × IsDeliverySaid d said × (T : State) × IsStep volume said S before (said_told all.0) T all.1
    × MessageSurvivesPowerLoss volume S (Brings d) (faults_told all.0) before all.1
    × AllWithstand volume deliveries T all.1 all.2 afterwards all.5 S'

-- So it is of a whole run: the deliveries one after another, each from where the one before it left engine and drive.
pub record RunWithstands (volume : ℕ) (deliveries : List delivered.Delivery) (S : State) (before : Situation) (answers : List Answer) (afterwards : Situation) : Type 0 where
  pub kept : Option Store
  pub delivered : AllDelivered deliveries before answers (with_store kept afterwards)
  pub state : State
  pub each : AllWithstand volume deliveries S before answers (with_store kept afterwards) delivered state
