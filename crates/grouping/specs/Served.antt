-- Groups of messages, one after another: how each was answered, and what they leave.
use Rattle.std.proofs.Common.{inl, inr}
use Rattle.std.specs.Prelude.{◌≡◌, ◌⊎◌, ℕ, List, [], ◌∷◌, ◌++◌, length, IsTrue}
use Rattle.std.specs.List.{flat_map}
use Rattle.drive.specs.Gathering.{Gathering}
use Rattle.drive.specs.Journal.{written}
use Rattle.model.specs.Session.{State, Request, after}
use Rattle.gathering.specs.Groups.{Commit, with_marks, none_there}
use Rattle.group_losses.specs.Gathered.{AreGathered, NoneFailed}
use Rattle.group_losses.specs.Laws.{GroupEndures}
use Rattle.request.specs.declared.answer.Answer.{Answer}
use Rattle.request.specs.declared.message.Message.{Message}
use Rattle.durability.specs.Commit.{need}
use Rattle.durability.specs.Journal.{HoldsOnJournal}
use Rattle.durability.specs.Runs.{Delivery}
use Rattle.durability.specs.Runs.Delivery.{Restart}
use Rattle.udf.specs.Udf.{udf, spelled_length}
use Rattle.engine.specs.Said.{model_answers}
use Rattle.engine.specs.Served.{AllAnswered, EachWithstands, brought}
use Rattle.engine.specs.Situation.{Situation}
use Rattle.engine.specs.Steps.{HoldsState}
use Rattle.grouping.specs.Groups.{IsAlone, IsSettled, StartsAt, marks_of}
use Rattle.grouping.specs.Phases.{marks_from}

-- Messages that were answered one after another, from a situation on.
pub record Group : Type 0 where
  pub start : Situation
  pub messages : List Message
  pub answers : List Answer
  pub afterwards : Situation
  pub gathering : Gathering  -- the drive's, after them

abbrev pub messages_of : List Group → List Message
messages_of groups = flat_map (λ (g : Group). g.messages) groups

abbrev pub answers_of : List Group → List Answer
answers_of groups = flat_map (λ (g : Group). g.answers) groups

-- The disk has the whole group, and no answer tells of a failing drive.
pub record IsSettledGroup (before : Situation) (begun : Gathering) (g : Group) : Type 0 where
  pub starts : g.start ≡ before
  pub answered : AllAnswered g.messages g.start g.answers g.afterwards
  pub none_failed : NoneFailed g.answers
  pub settled : IsSettled (marks_of g.messages g.start g.answers g.afterwards answered) g.start g.afterwards begun g.gathering

-- The messages were answered on a drive that does not gather: where they came, or where their group was taken back.
pub record IsLoneGroup (before : Situation) (begun : Gathering) (g : Group) : Type 0 where
  pub starts : StartsAt before g.start
  pub alone : IsAlone before g.start begun g.gathering
  pub answered : AllAnswered g.messages g.start g.answers g.afterwards

-- one group after another
abbrev pub AreGroups : List Group → Situation → Gathering → Situation → Gathering → Type 0
AreGroups [] before begun afterwards ended = (afterwards ≡ before) × (ended ≡ begun)
AreGroups (g ∷ groups) before begun afterwards ended = (IsSettledGroup before begun g ⊎ IsLoneGroup before begun g) × AreGroups groups g.afterwards g.gathering afterwards ended

-- ---- what a power loss leaves

-- The requests of a settled group were committed. What the disk was given of it are two phases, and what a power loss leaves of these
-- is what it leaves of the group. Where messages were answered on a drive that does not gather, each of them withstands by itself.
abbrev pub GroupHolds : ℕ → State → (before : Situation) → (begun : Gathering) → (g : Group)
    → IsSettledGroup before begun g ⊎ IsLoneGroup before begun g → State → Type 0
GroupHolds volume S before begun g (inl settled) T =
    (requests : List Request) × (commits : List Commit) × AreGathered g.messages S g.start g.answers g.afterwards settled.answered requests commits × (T ≡ after S requests)
    × GroupEndures g.start.capacity volume S g.start.journal requests commits g.afterwards.journal
    × (g.gathering.phases ≡ begun.phases ++ written (length g.start.journal) (with_marks none_there commits) ∷ marks_from (length g.start.journal) commits ∷ [])
GroupHolds volume S before begun g (inr lone) T = HoldsState volume S g.start × EachWithstands volume g.messages S g.start g.answers g.afterwards lone.answered T

-- each in turn, from the recovered state that the one before it left
abbrev pub GroupsHold : ℕ → State → (groups : List Group) → (before : Situation) → (begun : Gathering) → (afterwards : Situation) → (ended : Gathering)
    → AreGroups groups before begun afterwards ended → State → Type 0
GroupsHold volume S [] before begun afterwards ended all S' = S' ≡ S
GroupsHold volume S (g ∷ groups) before begun afterwards ended all S' =
    (T : State) × GroupHolds volume S before begun g all.0 T × HoldsState volume T g.afterwards × GroupsHold volume T groups g.afterwards g.gathering afterwards ended all.1 S'

-- so it is on an honest drive where a state is recovered that an open store knows
abbrev pub GroupsWithstand : (groups : List Group) → (before : Situation) → (begun : Gathering) → (afterwards : Situation) → (ended : Gathering)
    → AreGroups groups before begun afterwards ended → Type 0
GroupsWithstand groups before begun afterwards ended all =
    (volume : ℕ) (S : State) → IsTrue afterwards.honest → HoldsState volume S before → (S' : State) × GroupsHold volume S groups before begun afterwards ended all S'

-- What came, as the model says it: where a group was taken back, all is forgotten that is not on the medium, as at a restart.
abbrev pub restart_of : (before start : Situation) → StartsAt before start → List Delivery
restart_of before start (inl same) = []
restart_of before start (inr back) = Restart ∷ []

abbrev pub restart_before : (before : Situation) → (begun : Gathering) → (g : Group)
    → IsSettledGroup before begun g ⊎ IsLoneGroup before begun g → List Delivery
restart_before before begun g (inl settled) = []
restart_before before begun g (inr lone) = restart_of before g.start lone.starts

abbrev pub said_in : (groups : List Group) → (before : Situation) → (begun : Gathering) → (afterwards : Situation) → (ended : Gathering) → AreGroups groups before begun afterwards ended → List Delivery
said_in [] before begun afterwards ended all = []
said_in (g ∷ groups) before begun afterwards ended all =
    (restart_before before begun g all.0 ++ brought g.messages) ++ said_in groups g.afterwards g.gathering afterwards ended all.1

-- On an honest drive, where a state is recovered that an open store knows: what is recovered at each prefix of what was written is the
-- state after the first of the requests that were committed.
abbrev pub GroupsRun : (groups : List Group) → (before : Situation) → (begun : Gathering) → (afterwards : Situation) → (ended : Gathering) → AreGroups groups before begun afterwards ended → Type 0
GroupsRun groups before begun afterwards ended all =
    (volume : ℕ) (S : State) → IsTrue afterwards.honest → HoldsState volume S before
    → HoldsOnJournal udf (need spelled_length) before.capacity volume S before.journal afterwards.journal (said_in groups before begun afterwards ended all) (model_answers (answers_of groups))
