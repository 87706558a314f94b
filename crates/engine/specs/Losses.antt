-- Runs of which each is cut off by a power loss, and the next begins on what the disk kept.
use Rattle.std.specs.Prelude.{◌≡◌, ◌⊎◌, ℕ, ◌+◌, ◌≤◌, List, [], ◌∷◌, ◌++◌, length, take}
use Rattle.drive.specs.Journal.{Event, held, written, Once}
use Rattle.drive.specs.Writes.{IsLeft}
use Rattle.request.specs.declared.answer.Answer as told
use Rattle.request.specs.declared.message.Message.{Message}
use Rattle.model.specs.Session.{State, Request, due, after}
use Rattle.model.specs.Session.Due.{New}
use Rattle.model.specs.Runs.{AllNew, EachOnce}
use Rattle.durability.specs.Formats.{Block}
use Rattle.durability.specs.Volume.{RecoversTo, RecoveredTo}
use Rattle.durability.specs.Commit.{need}
use Rattle.durability.specs.Journal.{Advances, HoldsOnJournal}
use Rattle.durability.specs.Runs.{Delivery, Answer}
use Rattle.udf.specs.Udf.{udf, spelled_length}
use Rattle.engine.specs.declared.runs.Delivery as delivered
use Rattle.engine.specs.Situation.{Situation, with_store}
use Rattle.engine.specs.Said.{AllSaid, model_answers}
use Rattle.engine.specs.Steps.{HoldsState}
use Rattle.engine.specs.Delivered.{AllDelivered}
use Rattle.engine.specs.Headline.{RunWithstands}
use Rattle.engine.specs.Served.{AllAnswered, EachWithstands, brought}
use Rattle.engine.specs.Withstanding.{AsksFor, Brings}

-- What came to a run and was answered before a power loss, and the request under way, where the disk kept all of its commit.
pub record Life : Type 0 where
  pub said : List Delivery
  pub answers : List Answer
  pub under : List Request

-- So much was done when the power was lost: what came had been a run that holds its commits. After the loss the state after
-- these is recovered, or the one after them and the new request that was under way.
pub record IsRunCutShort (capacity volume : ℕ) (S : State) (before : List Event) (life : Life) (afterwards : List Event) : Type 0 where
  pub during : List Event
  pub run : HoldsOnJournal udf (need spelled_length) capacity volume S before during life.said life.answers
  pub few : (life.under ≡ []) ⊎ ((request : Request) × (life.under ≡ request ∷ []) × (due (after S run.holds.committed) request.client request.number ≡ New))
  pub advances : Advances udf capacity volume during (after S run.holds.committed) afterwards (after S (run.holds.committed ++ life.under))

-- Runs that were cut off, one after another, each begun on what the one before it left; `done` has what was committed by all of them.
abbrev pub AreCut : ℕ → ℕ → State → List Event → List Life → List Request → List Event → Type 0
AreCut capacity volume S before [] done afterwards = (done ≡ []) × (afterwards ≡ before)
AreCut capacity volume S before (life ∷ lives) done afterwards =
    (between : List Event) × (cut : IsRunCutShort capacity volume S before life between) × (rest : List Request)
    × (done ≡ (cut.run.holds.committed ++ life.under) ++ rest) × AreCut capacity volume (after S (cut.run.holds.committed ++ life.under)) between lives rest afterwards

-- These requests were committed, each new where it is and none twice. The state after them is recovered, each address was written
-- once, and what was recovered before can still be read, as can what was recovered after each of them.
pub record Survives (capacity volume : ℕ) (S : State) (before : List Event) (done : List Request) (afterwards : List Event) : Type 0 where
  pub front : take (length before) afterwards ≡ before
  pub once : Once afterwards
  pub stands : RecoversTo udf capacity volume (held afterwards) (after S done)
  pub new : AllNew S done
  pub each_once : EachOnce done
  pub past : (commits : ℕ) (T : State) → RecoveredTo udf capacity volume (held before) commits T → RecoveredTo udf capacity volume (held afterwards) commits T
  pub later : (j : ℕ) → j ≤ length done → RecoveredTo udf capacity volume (held afterwards) (S.commits + j) (after S (take j done))

-- The power was lost on the way from one situation to the next: the disk kept what is left of the writes that were made.
pub record IsLost (before next : Situation) (lost : List Event) : Type 0 where
  pub added : List (List Block)
  pub are : next.writes ≡ before.writes ++ added
  pub left : List Block
  pub is_left : IsLeft added left
  pub lost_is : lost ≡ before.journal ++ written (length before.journal) left

-- it was lost while one of these deliveries was under way
abbrev pub LosesRun : (deliveries : List delivered.Delivery) → (before : Situation) → (answers : List told.Answer) → (afterwards : Situation) → AllDelivered deliveries before answers afterwards → List Event → Type 0
LosesRun [] before answers afterwards all lost = ⊥
LosesRun (d ∷ deliveries) before answers afterwards all lost = IsLost before all.1 lost ⊎ LosesRun deliveries all.1 all.2 afterwards all.5 lost

-- So a run is cut off: the deliveries that were answered, then the one that was under way. What is left is what they committed,
-- and perhaps the request that this one brought.
pub record IsRunCut (capacity volume : ℕ) (S : State) (before : List Event) (deliveries : List delivered.Delivery) (answers : List told.Answer) (lost : List Event) : Type 0 where
  pub done : List delivered.Delivery
  pub now : delivered.Delivery
  pub later : List delivered.Delivery
  pub order : deliveries ≡ done ++ now ∷ later
  pub given : List told.Answer
  pub others : List told.Answer
  pub answers_are : answers ≡ given ++ others
  pub said : List Delivery
  pub are_said : AllSaid done said
  pub under : List Request
  pub cut : IsRunCutShort capacity volume S before (record { said = said; answers = model_answers given; under = under }) lost
  pub brought : (under ≡ []) ⊎ ((request : Request) × (under ≡ request ∷ []) × Brings now request)

-- By what `run` says of its deliveries, a power loss in any of them cuts the run off so.
abbrev pub RunsReach : Type 0
RunsReach =
    (volume : ℕ) (deliveries : List delivered.Delivery) (S : State) (before : Situation) (answers : List told.Answer) (afterwards : Situation) → HoldsState volume S before
    → (run : RunWithstands volume deliveries S before answers afterwards) (lost : List Event) → LosesRun deliveries before answers (with_store run.kept afterwards) run.delivered lost
    → IsRunCut before.capacity volume S before.journal deliveries answers lost

-- it was lost while one of these messages was under way
abbrev pub LosesStream : (messages : List Message) → (before : Situation) → (answers : List told.Answer) → (afterwards : Situation) → AllAnswered messages before answers afterwards → List Event → Type 0
LosesStream [] before answers afterwards all lost = ⊥
LosesStream (m ∷ messages) before [] afterwards all lost = ⊥
LosesStream (m ∷ messages) before (a ∷ answers) afterwards all lost = IsLost before all.0 lost ⊎ LosesStream messages all.0 answers afterwards all.2 lost

-- so a stream is cut off
pub record IsStreamCut (capacity volume : ℕ) (S : State) (before : List Event) (messages : List Message) (answers : List told.Answer) (lost : List Event) : Type 0 where
  pub done : List Message
  pub now : Message
  pub later : List Message
  pub order : messages ≡ done ++ now ∷ later
  pub given : List told.Answer
  pub others : List told.Answer
  pub answers_are : answers ≡ given ++ others
  pub under : List Request
  pub cut : IsRunCutShort capacity volume S before (record { said = brought done; answers = model_answers given; under = under }) lost
  pub asked : (under ≡ []) ⊎ ((request : Request) × (under ≡ request ∷ []) × AsksFor now request)

-- by what `serve` says of the messages that it took
abbrev pub ServedReach : Type 0
ServedReach =
    (volume : ℕ) (messages : List Message) (S : State) (before : Situation) (answers : List told.Answer) (afterwards : Situation) → HoldsState volume S before
    → (all : AllAnswered messages before answers afterwards) (S' : State) → EachWithstands volume messages S before answers afterwards all S'
    → (lost : List Event) → LosesStream messages before answers afterwards all lost → IsStreamCut before.capacity volume S before.journal messages answers lost

-- Runs that are cut off so leave the state after all that was committed, whatever came and however often the power was lost.
-- The next run finds what it needs: that this state is recovered, and each address was written once.
abbrev pub LossesReach : Type 0
LossesReach =
    (capacity volume : ℕ) (S : State) (before : List Event) (lives : List Life) (done : List Request) (afterwards : List Event) → Once before → RecoversTo udf capacity volume (held before) S
    → AreCut capacity volume S before lives done afterwards → Survives capacity volume S before done afterwards
