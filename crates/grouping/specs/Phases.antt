-- What a disk is given of a group of messages.
use Rattle.std.specs.Prelude.{◌≡◌, ℕ, suc, ◌+◌, List, [], ◌∷◌, length}
use Rattle.drive.specs.Journal.{Event, written}
use Rattle.model.specs.Session.{State, Request}
use Rattle.gathering.specs.Groups.{Commit, with_marks, none_there}
use Rattle.settling.specs.Phases.{two_phases}
use Rattle.request.specs.declared.answer.Answer.{Answer}
use Rattle.request.specs.declared.message.Message.{Message}
use Rattle.engine.specs.Served.{AllAnswered}
use Rattle.engine.specs.Situation.{Situation}
use Rattle.group_losses.specs.Gathered.{AreGathered}
use Rattle.grouping.specs.Groups.{marks_of}

-- the marks of commits that begin at an address, each after the one before it
abbrev pub marks_from : ℕ → List Commit → List Event
marks_from from [] = []
marks_from from (commit ∷ group) = (from + length commit.blocks, commit.mark) ∷ marks_from (suc (from + length commit.blocks)) group

-- The two phases of messages are those of the commits that they made: first the blocks of these, with zeros for each mark, and then the marks.
abbrev pub PhasesAreOfCommits : Type 0
PhasesAreOfCommits =
    (messages : List Message) (S : State) (before : Situation) (answers : List Answer) (afterwards : Situation) (all : AllAnswered messages before answers afterwards)
    → (requests : List Request) (group : List Commit) → AreGathered messages S before answers afterwards all requests group
    → two_phases (length before.journal) (marks_of messages before answers afterwards all) afterwards.journal
    ≡ written (length before.journal) (with_marks none_there group) ∷ marks_from (length before.journal) group ∷ []
