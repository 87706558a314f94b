-- What becomes of messages that are answered as a group.
use Rattle.std.specs.Prelude.{◌≡◌, ◌⊎◌, ℕ, ◌+◌, ◌-◌, ◌≤◌, nat_lt, false, if◌then◌else◌, IsTrue, List, [], ◌∷◌, ◌++◌, length, Option, None}
use Rattle.drive.specs.Gathering.{Gathering}
use Rattle.drive.specs.Journal.{Event}
use Rattle.drive.specs.Reads.{CountsFailures}
use Rattle.drive.specs.declared.Drive.{Ghosts}
use Rattle.request.specs.declared.answer.Answer.{Answer}
use Rattle.request.specs.declared.message.Message.{Message}
use Rattle.request.specs.Frames.{IsIdle}
use Rattle.model.specs.Session.{State}
use Rattle.settling.specs.Calls.{GivesFront}
use Rattle.settling.specs.Phases.{two_phases}
use Rattle.engine.specs.declared.serving.ServeFault.TheVariants.{Memory}
use Rattle.engine.specs.Situation.{Situation, HoldsNothing, IsReady}
use Rattle.engine.specs.Steps.{HoldsState}
use Rattle.engine.specs.Served.{AllAnswered, Answering, AnswersSome}
use Rattle.group_losses.specs.Gathered.{NoneFailed}

-- Whatever was written, read and settled, the rest is as of a call that writes nothing.
pub record MaySettle {D : Type 0} (drive : Ghosts D) (failed : ℕ) (old new : D) : Type 0 where
  pub capacity : drive.capacity new ≡ drive.capacity old
  pub failures : CountsFailures failed (drive.failures old) (drive.failures new)
  pub misreads : drive.misreads old ≤ drive.misreads new
  pub honest : IsTrue (drive.honest new) → IsTrue (drive.honest old)
  pub stays : drive.misreads new ≡ drive.misreads old → IsTrue (drive.honest old) → IsTrue (drive.honest new)

-- the address of the last block that came between two lengths of a journal, if any came
abbrev pub mark_between : ℕ → ℕ → List ℕ
mark_between before after = if nat_lt before after then (after - 1) ∷ [] else []

-- the mark of a message: the last block that it added, if it added any
abbrev pub mark_of : Situation → Situation → List ℕ
mark_of before after = mark_between (length before.journal) (length after.journal)

-- those of messages, in order
abbrev pub marks_of : (messages : List Message) → (before : Situation) → (answers : List Answer) → (afterwards : Situation) → AllAnswered messages before answers afterwards → List ℕ
marks_of [] before [] afterwards all = []
marks_of [] before (a ∷ answers) afterwards all = []
marks_of (m ∷ messages) before [] afterwards all = []
marks_of (m ∷ messages) before (a ∷ answers) afterwards all = mark_of before all.0 ++ marks_of messages all.0 answers afterwards all.2

-- The disk has the blocks of a group: it was given all but the marks, and then the marks, and each of both was synced. Each write of it waited, and the drive gathers no more.
pub record IsSettled (marks : List ℕ) (before afterwards : Situation) (begun ended : Gathering) : Type 0 where
  pub given : ended.phases ≡ begun.phases ++ two_phases (length before.journal) marks afterwards.journal
  pub waited : ended.waited + length before.writes ≡ begun.waited + length afterwards.writes
  pub gathers : ended.gathers ≡ false

-- A group was taken back: the store is forgotten, as by a restart, and the medium is as it was before the group.
pub record IsTakenBack (before start : Situation) : Type 0 where
  pub store : start.store ≡ None
  pub journal : start.journal ≡ before.journal
  pub capacity : start.capacity ≡ before.capacity
  pub failures : CountsFailures 0 before.failures start.failures
  pub honest : IsTrue start.honest → IsTrue before.honest

-- where messages are answered one by one: where they came, or where they were taken back
abbrev pub StartsAt : Situation → Situation → Type 0
StartsAt before start = (start ≡ before) ⊎ IsTakenBack before start

-- what holds before a group holds where it was taken back
abbrev pub TakingBackHolds : Type 0
TakingBackHolds =
    (before start : Situation) → StartsAt before start
    → (IsReady before → IsReady start) × ((volume : ℕ) (S : State) → HoldsState volume S before → HoldsState volume S start) × (HoldsNothing before → HoldsNothing start)

-- No write that was made from this start on waited: only those waited that were made before it, and were taken back. Of these the
-- disk may have been given all but the marks, or all. The drive gathers no more.
pub record IsAlone (before start : Situation) (begun ended : Gathering) : Type 0 where
  pub waited : ended.waited + length before.writes ≡ begun.waited + length start.writes
  pub tried : List Event
  pub marks : List ℕ
  pub given : GivesFront (two_phases (length before.journal) marks (before.journal ++ tried)) begun.phases ended.phases
  pub gathers : ended.gathers ≡ false

-- Messages were answered as a group, each answer's frame was written, no answer tells of a failing drive, and these are the marks.
pub record CarriedOut (reader after : Option (List ℕ)) (before afterwards : Situation) (output written : Option (List ℕ)) (marks : List ℕ) : Type 0 where
  pub told : Answering reader after before afterwards output written
  pub none_failed : NoneFailed told.answers
  pub marks_are : marks ≡ marks_of told.messages before told.answers afterwards told.answered

-- The group ends there: it has a message, or none was complete.
pub record Gathered (reader after : Option (List ℕ)) (before afterwards : Situation) (output written : Option (List ℕ)) (marks : List ℕ) : Type 0 where
  pub gathering : CarriedOut reader after before afterwards output written marks
  pub some : gathering.told.messages ≡ [] → IsIdle after

-- The same, but there was no memory for the last answer's frame.
pub record CarriedOutSome (reader after : Option (List ℕ)) (before afterwards : Situation) (output written : Option (List ℕ)) (marks : List ℕ) : Type 0 where
  pub told : AnswersSome Memory reader after before afterwards output written
  pub none_failed : NoneFailed told.answers
  pub marks_are : marks ≡ marks_of told.messages before told.answers afterwards told.answered

-- The messages of a group have their answers. Either the disk has the group, or they were answered one by one, each write synced before it returned, until none was complete.
abbrev pub GroupTold : Option (List ℕ) → Option (List ℕ) → Situation → Gathering → Situation → Gathering → Option (List ℕ) → Option (List ℕ) → Type 0
GroupTold reader after before begun afterwards ended output written =
    ((marks : List ℕ) × Gathered reader after before afterwards output written marks × IsSettled marks before afterwards begun ended)
    ⊎ ((start : Situation) × StartsAt before start × IsAlone before start begun ended × Answering reader after start afterwards output written × IsIdle after)

-- The same up to an answer for whose frame there was no memory.
abbrev pub GroupUntold : Option (List ℕ) → Option (List ℕ) → Situation → Gathering → Situation → Gathering → Option (List ℕ) → Option (List ℕ) → Type 0
GroupUntold reader after before begun afterwards ended output written =
    ((marks : List ℕ) × CarriedOutSome reader after before afterwards output written marks × IsSettled marks before afterwards begun ended)
    ⊎ ((start : Situation) × StartsAt before start × IsAlone before start begun ended × AnswersSome Memory reader after start afterwards output written)
