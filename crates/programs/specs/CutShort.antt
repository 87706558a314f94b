-- What a power loss leaves of the image that a process works on.
use Rattle.std.specs.Prelude.{◌≡◌, ◌⊎◌, ℕ, true, List, [], ◌++◌, Option, Some, None, IsTrue}
use Rattle.std.specs.List.{flat_map}
use Rattle.std.specs.Io.KnownBytes.{Consumes}
use Rattle.limits.specs.declared.TheConstants.{GREATEST_CAPACITY}
use Rattle.drive.specs.Gathering.{Gathering, waits_never}
use Rattle.drive.specs.Journal.{Event, Once}
use Rattle.media.specs.Held.{SameBut}
use Rattle.request.specs.Frames.{MessagesAre}
use Rattle.formatting.specs.NewVolume.{FormatSurvivesPowerLoss, words_on}
use Rattle.store.specs.declared.store.Store.{Store}
use Rattle.engine.specs.Losses.{IsLost}
use Rattle.engine.specs.Served.{frames_of}
use Rattle.engine.specs.Situation.{Situation, situation, with_store}
use Rattle.engine.specs.Streams.{PutsPrefix}
use Rattle.grouping.specs.Losses.{GroupsAreLives, LosesGroups}
use Rattle.grouping.specs.Served.{AreGroups, Group, GroupsRun, GroupsWithstand, answers_of, messages_of}
use Rattle.programs.specs.Images.{AreUntouched, Images, IsThere, IsThereOrMade}
use Rattle.programs.specs.Listening.{Heard, IsOneRun}
use Rattle.programs.specs.Outputs.{known}
use Rattle.programs.specs.Tasks.{Task}
use Rattle.programs.specs.Tasks.Task.{Format, Apply_to_image, Apply_in_memory, List_names, Get_bytes, Log, Check, Send}

-- The power was lost while messages were answered in groups: in one of these, and the disk kept what is left of what it was given
-- of it, or after the last of them.
abbrev pub LosesServing : (groups : List Group) → (before : Situation) → (begun : Gathering) → (afterwards : Situation) → (ended : Gathering)
    → AreGroups groups before begun afterwards ended → List Event → Type 0
LosesServing groups before begun afterwards ended all lost = (lost ≡ afterwards.journal) ⊎ LosesGroups groups before begun afterwards ended all lost

-- The first messages of the bytes that were read were answered in groups, and of the answers' frames a prefix was written.
pub record ServesSomeGroups (before : Situation) (begun : Gathering) (afterwards : Situation) (ended : Gathering) (input left output written : Option (List ℕ)) : Type 0 where
  pub bytes : List ℕ
  pub groups : List Group
  pub reader : Option (List ℕ)
  pub consumed : Consumes input left bytes
  pub messages_are : MessagesAre bytes (messages_of groups) reader
  pub are : AreGroups groups before begun afterwards ended
  pub run : GroupsRun groups before begun afterwards ended are
  pub withstand : GroupsWithstand groups before begun afterwards ended are
  pub lives : GroupsAreLives groups before begun afterwards ended are
  pub front : PutsPrefix output written (frames_of (answers_of groups))

-- So a command was cut off that answers the messages of its input. It had read and answered so much, or would have.
pub record LosesApply (input left output written : Option (List ℕ)) (before afterwards : Situation) (lost : List Event) : Type 0 where
  pub kept : Option Store
  pub finished : Gathering
  pub serves : ServesSomeGroups before waits_never (with_store kept afterwards) finished input left output written
  pub loses : LosesServing serves.groups before waits_never (with_store kept afterwards) finished serves.are lost

-- so a daemon was, in one of the connections that its listener gave
pub record LosesDaemon (old new : Heard) (before afterwards : Situation) (lost : List Event) : Type 0 where
  pub inputs : List (Option (List ℕ))
  pub outputs : List (Option (List ℕ))
  pub given : new.given ≡ old.given ++ inputs
  pub ended : new.ended ≡ old.ended ++ flat_map known outputs
  pub kept : Option Store
  pub finished : Gathering
  pub run : IsOneRun inputs outputs before waits_never (with_store kept afterwards) finished
  pub loses : LosesServing run.groups before waits_never (with_store kept afterwards) finished run.are lost

-- so a format was, in one of its writes
abbrev pub LosesFormat : List ℕ → ℕ → ℕ → Situation → Situation → List Event → Type 0
LosesFormat label moment capacity before afterwards lost =
    FormatSurvivesPowerLoss capacity (words_on capacity label moment) before.journal before.writes afterwards.journal afterwards.writes afterwards.honest × IsLost before afterwards lost

-- and so a command that makes no write
abbrev pub LosesReading : Situation → Situation → List Event → Type 0
LosesReading before afterwards lost = (afterwards.writes ≡ before.writes) × IsLost before afterwards lost

-- It was cut off on the drive of the image at this path, after its opening, and the path holds what the disk kept. Where the media are
-- honest then, they were so before, the drive began with what the path held, and each read gave what was written.
pub record CutOnMedia (Finds : Option (List Event) → List Event → Type 0) (capacity : ℕ) (path : List ℕ) (Loses : Situation → Situation → List Event → Type 0) (before afterwards : Images) : Type 0 where
  pub journal : List Event
  pub once : Once journal
  pub last : Situation
  pub lost : List Event
  pub loses : Loses (situation None journal 0 capacity true []) last lost
  pub found : IsTrue afterwards.honest → Finds (before.held path) journal
  pub left : afterwards.held path ≡ Some lost
  pub others : SameBut path before.held afterwards.held
  pub drive_honest : IsTrue afterwards.honest → IsTrue last.honest
  pub honest : IsTrue afterwards.honest → IsTrue before.honest

-- by what the words of a command ask for; one that has no image leaves all of them
abbrev pub IsTaskCut : Task → Images → Images → Option (List ℕ) → Option (List ℕ) → Option (List ℕ) → Option (List ℕ) → Type 0
IsTaskCut (Format image label moment capacity) old new input left output written = CutOnMedia IsThereOrMade capacity image (LosesFormat label moment capacity) old new
IsTaskCut (Apply_to_image image) old new input left output written = CutOnMedia IsThere GREATEST_CAPACITY image (LosesApply input left output written) old new
IsTaskCut (Apply_in_memory capacity) old new input left output written = AreUntouched old new
IsTaskCut (List_names image path) old new input left output written = CutOnMedia IsThere GREATEST_CAPACITY image LosesReading old new
IsTaskCut (Get_bytes image path) old new input left output written = CutOnMedia IsThere GREATEST_CAPACITY image LosesReading old new
IsTaskCut (Log image) old new input left output written = CutOnMedia IsThere GREATEST_CAPACITY image LosesReading old new
IsTaskCut (Check image) old new input left output written = CutOnMedia IsThere GREATEST_CAPACITY image LosesReading old new
IsTaskCut Send old new input left output written = AreUntouched old new
