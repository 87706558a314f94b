-- What a power loss leaves of a group of messages.
use Rattle.std.specs.Prelude.{◌≡◌, ℕ, ◌≤◌, Bool, List, [], ◌++◌, length, take, IsTrue}
use Rattle.drive.specs.Journal.{Event, held, written, Once}
use Rattle.drive.specs.Writes.{IsTorn}
use Rattle.model.specs.Session.{State, Request, after}
use Rattle.model.specs.Runs.{AllNew}
use Rattle.durability.specs.Formats.{Block}
use Rattle.durability.specs.Torn.{AreCommitted}
use Rattle.udf.specs.Udf.{udf}
use Rattle.gathering.specs.Groups.{Commit, with_marks, none_there, first_there, HasMarks, newest, one_by_one, AreInTurn}
use Rattle.gathering.specs.Laws.{EndsWith}
use Rattle.request.specs.declared.answer.Answer.{Answer}
use Rattle.request.specs.declared.message.Message.{Message}
use Rattle.engine.specs.Losses.{Survives}
use Rattle.engine.specs.Served.{AllAnswered}
use Rattle.engine.specs.Situation.{Situation}
use Rattle.engine.specs.Steps.{HoldsState}
use Rattle.group_losses.specs.Gathered.{AreGathered, NoneFailed}

-- The journal goes on from the one before, each address once. The state after these requests is recovered, and no other. Each
-- earlier state that can be read is one that could be read with all marks.
pub record EndsAfter (capacity volume : ℕ) (S : State) (before : List Event) (done : List Request) (all lost : List Event) : Type 0 where
  pub front : take (length before) lost ≡ before
  pub once : Once lost
  pub ends : EndsWith udf capacity volume S done (held all) (held lost)

-- A group of commits, planned one after another, was written from this journal on. What a power loss leaves of it:
pub record GroupEndures (capacity volume : ℕ) (S : State) (before : List Event) (requests : List Request) (group : List Commit) (afterwards : List Event) : Type 0 where
  pub turn : AreInTurn udf capacity volume (held before) S requests group
  pub new : AllNew S requests
  pub journal : afterwards ≡ before ++ written (length before) (with_marks (first_there (length requests)) group)
  -- with all marks it is the journal that the same commits make one by one
  pub together : AreCommitted udf capacity volume (held before) S requests (one_by_one group)
  -- before the first sync has returned, nothing of the group, whichever of its blocks the disk has
  pub first : (left : List Block) (lost : List Event) → IsTorn (with_marks none_there group) left → lost ≡ before ++ written (length before) left
      → Survives capacity volume S before [] lost
  -- after it, with the marks of the first n commits, their requests
  pub second : (n : ℕ) (left : List Block) (lost : List Event) → n ≤ length requests → HasMarks (first_there n) group left → lost ≡ before ++ written (length before) left
      → Survives capacity volume S before (take n requests) lost
  -- with any choice of the marks, the requests up to the newest one that is there
  pub any : (there : ℕ → Bool) (left : List Block) (lost : List Event) → HasMarks there group left → lost ≡ before ++ written (length before) left
      → EndsAfter capacity volume S before (take (newest there group) requests) afterwards lost

-- Messages were answered one after another on an honest drive where a state is recovered, and no answer tells of a failing drive.
-- The requests that were committed are a group; the state after them is recovered, and the next messages may be answered from there.
abbrev pub GroupSurvivesPowerLoss : Type 0
GroupSurvivesPowerLoss =
    (volume : ℕ) (messages : List Message) (S : State) (before : Situation) (answers : List Answer) (afterwards : Situation) → HoldsState volume S before → IsTrue afterwards.honest
    → (all : AllAnswered messages before answers afterwards) → NoneFailed answers
    → (requests : List Request) × (group : List Commit) × AreGathered messages S before answers afterwards all requests group
    × HoldsState volume (after S requests) afterwards × GroupEndures before.capacity volume S before.journal requests group afterwards.journal
