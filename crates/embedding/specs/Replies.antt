-- What became of the messages of some bytes, and which answers wait then.
use Rattle.std.specs.Prelude.{◌≡◌, ℕ, Bool, true, false, List, [], ◌∷◌, ◌++◌, Option}
use Rattle.drive.specs.Gathering.{Gathering}
use Rattle.request.specs.declared.answer.Answer.{Answer}
use Rattle.request.specs.Frames.{IsIdle}
use Rattle.engine.specs.declared.serving.ServeFault.TheVariants as stops
use Rattle.engine.specs.Situation.{Situation}
use Rattle.engine.specs.Served.{AllTaken, Answering, AnswersSome, frames_of}
use Rattle.grouping.specs.Losses.{GroupsAreLives}
use Rattle.grouping.specs.Served.{AreGroups, Group, GroupsRun, GroupsWithstand, answers_of, messages_of}
use Rattle.grouping.specs.Streams.{Grouping, GroupingSome}

-- messages were answered in groups, or one by one
abbrev pub AnsweredBy : Bool → (reader after : Option (List ℕ)) → Situation → Gathering → Situation → Gathering → (output written : Option (List ℕ)) → Type 0
AnsweredBy true reader after before begun afterwards ended output written = Grouping reader after before begun afterwards ended output written
AnsweredBy false reader after before begun afterwards ended output written = Answering reader after before afterwards output written

-- the same up to an answer for whose frame there was no memory
abbrev pub AnsweredSomeBy : Bool → (reader after : Option (List ℕ)) → Situation → Gathering → Situation → Gathering → (output written : Option (List ℕ)) → Type 0
AnsweredSomeBy true reader after before begun afterwards ended output written = GroupingSome stops.Memory reader after before begun afterwards ended output written
AnsweredSomeBy false reader after before begun afterwards ended output written = AnswersSome stops.Memory reader after before afterwards output written

-- The messages that a reader of frames gave were answered in groups, or one by one as a single one. On an honest drive where a state is
-- recovered that an open store knows, each is a row of the run that began there: what is recovered at each prefix of what was written
-- is the state after the first of the requests that were committed, also of what a power loss leaves.
pub record AnswersInRun (in_groups : Bool) (reader after : Option (List ℕ)) (before : Situation) (begun : Gathering) (afterwards : Situation) (ended : Gathering) : Type 0 where
  pub groups : List Group
  pub taken : AllTaken reader (messages_of groups) after
  pub are : AreGroups groups before begun afterwards ended
  pub single : in_groups ≡ false → (g : Group) × (groups ≡ g ∷ []) × (g.start ≡ before)
  pub run : GroupsRun groups before begun afterwards ended are
  pub withstands : GroupsWithstand groups before begun afterwards ended are
  pub lives : GroupsAreLives groups before begun afterwards ended are

-- All messages that were whole were, and their answers wait, in order, after those that waited.
pub record Replies (in_groups : Bool) (reader after : Option (List ℕ)) (before : Situation) (begun : Gathering) (afterwards : Situation) (ended : Gathering) (waits later : List ℕ) : Type 0 where
  pub all : AnswersInRun in_groups reader after before begun afterwards ended
  pub idle : IsIdle after
  pub told : later ≡ waits ++ frames_of (answers_of all.groups)

-- The first of them were, up to one whose answer found no memory: those before it wait.
pub record RepliesButLast (in_groups : Bool) (reader after : Option (List ℕ)) (before : Situation) (begun : Gathering) (afterwards : Situation) (ended : Gathering) (waits later : List ℕ) : Type 0 where
  pub all : AnswersInRun in_groups reader after before begun afterwards ended
  pub others : List Answer
  pub lost : Answer
  pub answers_are : answers_of all.groups ≡ others ++ lost ∷ []
  pub told : later ≡ waits ++ frames_of others
