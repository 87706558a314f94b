-- What became of messages and of deliveries, one after another.
use Rattle.std.specs.Prelude.{◌≡◌, ℕ, List, [], ◌∷◌, ◌++◌, Option, Some, None, IsTrue}
use Rattle.std.specs.Option.{option_to_list}
use Rattle.request.specs.declared.answer.Answer.{Answer}
use Rattle.request.specs.declared.message.Message.{Message}
use Rattle.request.specs.Payload.{DecodesPayload}
use Rattle.model.specs.Session.{State}
use Rattle.store.specs.declared.store.Store.{Store}
use Rattle.engine.specs.declared.runs.Delivery.{Delivery}
use Rattle.engine.specs.declared.runs.Delivery.TheVariants.{Frame, Restart}
use Rattle.engine.specs.Situation.{Situation, HoldsNothing, with_store}
use Rattle.engine.specs.Answered.{Answered, IsNothingThere, faults}
use Rattle.engine.specs.Called.{Calls}
use Rattle.engine.specs.Steps.{HoldsState}
use Rattle.engine.specs.Planned.{IsUnwrittenOrPlanned}
use Rattle.engine.specs.Withstanding.{AsksFor, MessageSurvivesPowerLoss}

-- A message got its answer. On an honest drive where a state is recovered that an open store knows, it got it by that store's calls,
-- and whatever a power loss leaves of what was written for it, that state is recovered or the one after the request. Where the answer
-- tells of no failure, nothing was written, or what is planned for the request. On an honest drive where nothing is recovered, the
-- answer says so.
pub record IsAnswered (asked : Message) (before : Situation) (a : Answer) (afterwards : Situation) : Type 0 where
  pub answered : Answered asked before a afterwards
  pub calls : (volume : ℕ) (S : State) → IsTrue afterwards.honest → HoldsState volume S before → Calls volume asked S before a afterwards
  pub withstands : (volume : ℕ) (S : State) → IsTrue afterwards.honest → HoldsState volume S before → MessageSurvivesPowerLoss volume S (AsksFor asked) (faults a) before afterwards
  pub planned : (volume : ℕ) (S : State) → IsTrue afterwards.honest → HoldsState volume S before → faults a ≡ 0 → IsUnwrittenOrPlanned volume S (AsksFor asked) before afterwards
  pub nothing : IsTrue afterwards.honest → HoldsNothing before → IsNothingThere asked before a afterwards

-- a frame gets the answer to the message of its payload; at a restart all is forgotten that is not on the medium
abbrev pub Delivers : Delivery → Situation → Option Answer → Situation → Type 0
Delivers Restart before None after = after ≡ with_store None before
Delivers Restart before (Some a) after = ⊥
Delivers (Frame payload) before None after = ⊥
Delivers (Frame payload) before (Some a) after = (m : Message) × DecodesPayload m payload.items × IsAnswered m before a after

-- each delivery in turn, with the answers to those that get one
abbrev pub AllDelivered : List Delivery → Situation → List Answer → Situation → Type 0
AllDelivered [] before answers after = (answers ≡ []) × (after ≡ before)
AllDelivered (d ∷ deliveries) before answers after =
    (told : Option Answer) × (during : Situation) × (rest : List Answer) × Delivers d before told during × (answers ≡ option_to_list told ++ rest)
    × AllDelivered deliveries during rest after

-- a run from one medium to another
abbrev pub RunsDeliveries : List Delivery → List Answer → Situation → Situation → Type 0
RunsDeliveries deliveries answers before after = (kept : Option Store) × AllDelivered deliveries before answers (with_store kept after)

-- how many failures of the drive a delivery's answer stands for
abbrev pub faults_told : Option Answer → ℕ
faults_told None = 0
faults_told (Some a) = faults a
