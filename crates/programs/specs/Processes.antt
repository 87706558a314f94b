-- Processes over the same media, one after another: those that ended, and those that a power loss cut off.
use Rattle.std.specs.Prelude.{◌≡◌, ◌⊎◌, ℕ, List, [], ◌∷◌, ◌++◌, map, Option, Some, Result, Err, IsTrue}
use Rattle.std.specs.List.{flat_map}
use Rattle.std.specs.Io.KnownBytes.{Consumes}
use Rattle.limits.specs.declared.TheConstants.{GREATEST_CAPACITY}
use Rattle.drive.specs.Gathering.{Gathering, waits_never}
use Rattle.drive.specs.Journal.{Event, Once, held}
use Rattle.request.specs.Frames.{MessagesAre}
use Rattle.model.specs.Session.{State, Request}
use Rattle.durability.specs.Volume.{RecoversTo}
use Rattle.udf.specs.Udf.{udf}
use Rattle.recover.specs.declared.fault.StoreFault.TheVariants.{Device}
use Rattle.engine.specs.Losses.{AreCut, Life, Survives}
use Rattle.engine.specs.Served.{frames_of}
use Rattle.engine.specs.Situation.{Situation}
use Rattle.engine.specs.Streams.{PutsPrefix}
use Rattle.grouping.specs.Losses.{LivesUntil, LosesGroups, life_in}
use Rattle.grouping.specs.Served.{AreGroups, Group, answers_of, messages_of}
use Rattle.programs.specs.CutShort.{CutOnMedia, IsTaskCut, LosesDaemon}
use Rattle.programs.specs.declared.fault.Fault.{Fault}
use Rattle.programs.specs.declared.fault.Fault.TheVariants.{Store}
use Rattle.programs.specs.Images.{AreUntouched, Images, IsThere, OnMedia}
use Rattle.programs.specs.Listening.{AllHeard, Heard, ServesEach}
use Rattle.programs.specs.Outputs.{known}
use Rattle.programs.specs.Tasks.{IsTaskDone, Task}
use Rattle.programs.specs.Tasks.Task.{Format, Apply_to_image, Apply_in_memory, List_names, Get_bytes, Log, Check, Send}

-- A process of one of the two programs: one that ended, or one that a power loss cut off after it had opened its image.
pub data Process : Type 0 where
  Command : (task : Task) (outcome : Result (Unit {0}) Fault) (input left output written : Option (List ℕ)) → Process
  Daemon : (image : List ℕ) (connections : ℕ) (before afterwards : Heard) → Process
  CutCommand : (task : Task) (input left output written : Option (List ℕ)) → Process
  CutDaemon : (image : List ℕ) (before afterwards : Heard) → Process

-- what it did to the images, as `command_on` and `daemon_on` say it, and what of that the disk kept
abbrev pub Did : Process → Images → Images → Type 0
Did (Command task outcome input left output written) old new = IsTaskDone task outcome old new input left output written
Did (Daemon image connections before afterwards) old new = OnMedia IsThere GREATEST_CAPACITY image (ServesEach connections before afterwards waits_never) old new
Did (CutCommand task input left output written) old new = IsTaskCut task old new input left output written
Did (CutDaemon image before afterwards) old new = CutOnMedia IsThere GREATEST_CAPACITY image (LosesDaemon before afterwards) old new

-- each of them on what the one before it left
abbrev pub AllDid : List Process → Images → Images → Type 0
AllDid [] old new = AreUntouched old new
AllDid (process ∷ processes) old new = (between : Images) × Did process old between × AllDid processes between new

-- A command answered the messages of these groups, the first of what it read, and of the answers' frames a front was written.
pub record AnswersInput (input left output written : Option (List ℕ)) (groups : List Group) : Type 0 where
  pub bytes : List ℕ
  pub reader : Option (List ℕ)
  pub consumed : Consumes input left bytes
  pub messages_are : MessagesAre bytes (messages_of groups) reader
  pub front : PutsPrefix output written (frames_of (answers_of groups))

-- A daemon answered those of the connections that its listener gave.
pub record AnswersConnections (old new : Heard) (groups : List Group) : Type 0 where
  pub inputs : List (Option (List ℕ))
  pub outputs : List (Option (List ℕ))
  pub given : new.given ≡ old.given ++ inputs
  pub ended : new.ended ≡ old.ended ++ flat_map known outputs
  pub heard : AllHeard inputs outputs groups

-- a process had another image
abbrev pub IsElsewhere : List ℕ → List ℕ → List Life → Type 0
IsElsewhere path image lives = (lives ≡ []) × (path ≡ image → ⊥)

-- or this one, and these are its runs on it, one for each group that it answered
abbrev pub AreLivesOf : (List Group → Type 0) → (List Group → List Life → Type 0) → List Life → Type 0
AreLivesOf Answers Are lives = (groups : List Group) × Answers groups × Are groups lives

-- those of groups that ended
abbrev pub AreLives : List Group → List Life → Type 0
AreLives groups lives = lives ≡ map life_in groups

-- those of groups that a power loss cut off in one of them
pub record AreCutOff (groups : List Group) (lives : List Life) : Type 0 where
  pub before : Situation
  pub begun : Gathering
  pub afterwards : Situation
  pub ended : Gathering
  pub are : AreGroups groups before begun afterwards ended
  pub lost : List Event
  pub loses : LosesGroups groups before begun afterwards ended are lost
  pub until : LivesUntil groups before begun afterwards ended are lost loses lives

-- it was lost in one of them, or after the last
abbrev pub AreLivesCut : List Group → List Life → Type 0
AreLivesCut groups lives = AreLives groups lives ⊎ AreCutOff groups lives

-- its runs on the image at this path, or none where another was meant or could be had
abbrev pub RanCommand : List ℕ → Task → Result (Unit {0}) Fault → Option (List ℕ) → Option (List ℕ) → Option (List ℕ) → Option (List ℕ) → List Life → Type 0
RanCommand path (Format image label moment capacity) outcome input left output written lives = lives ≡ []
RanCommand path (Apply_to_image image) outcome input left output written lives =
    ((lives ≡ []) × (outcome ≡ Err (Store Device))) ⊎ (IsElsewhere path image lives ⊎ ((path ≡ image) × AreLivesOf (AnswersInput input left output written) AreLives lives))
RanCommand path (Apply_in_memory capacity) outcome input left output written lives = lives ≡ []
RanCommand path (List_names image text) outcome input left output written lives = lives ≡ []
RanCommand path (Get_bytes image text) outcome input left output written lives = lives ≡ []
RanCommand path (Log image) outcome input left output written lives = lives ≡ []
RanCommand path (Check image) outcome input left output written lives = lives ≡ []
RanCommand path Send outcome input left output written lives = lives ≡ []

-- the same of a command that was cut off
abbrev pub RanUntil : List ℕ → Task → Option (List ℕ) → Option (List ℕ) → Option (List ℕ) → Option (List ℕ) → List Life → Type 0
RanUntil path (Format image label moment capacity) input left output written lives = lives ≡ []
RanUntil path (Apply_to_image image) input left output written lives = IsElsewhere path image lives ⊎ ((path ≡ image) × AreLivesOf (AnswersInput input left output written) AreLivesCut lives)
RanUntil path (Apply_in_memory capacity) input left output written lives = lives ≡ []
RanUntil path (List_names image text) input left output written lives = lives ≡ []
RanUntil path (Get_bytes image text) input left output written lives = lives ≡ []
RanUntil path (Log image) input left output written lives = lives ≡ []
RanUntil path (Check image) input left output written lives = lives ≡ []
RanUntil path Send input left output written lives = lives ≡ []

abbrev pub Ran : List ℕ → Process → List Life → Type 0
Ran path (Command task outcome input left output written) lives = RanCommand path task outcome input left output written lives
Ran path (Daemon image connections before afterwards) lives = IsElsewhere path image lives ⊎ ((path ≡ image) × AreLivesOf (AnswersConnections before afterwards) AreLives lives)
Ran path (CutCommand task input left output written) lives = RanUntil path task input left output written lives
Ran path (CutDaemon image before afterwards) lives = IsElsewhere path image lives ⊎ ((path ≡ image) × AreLivesOf (AnswersConnections before afterwards) AreLivesCut lives)

-- the runs of all of them, in order
abbrev pub AllRan : List ℕ → List Process → List Life → Type 0
AllRan path [] lives = lives ≡ []
AllRan path (process ∷ processes) lives = (first later : List Life) × (lives ≡ first ++ later) × Ran path process first × AllRan path processes later

-- What processes made of a volume, one after another. They were runs, each on what the one before it, or the power loss that cut
-- that one off, left. So what is held in the end goes on from what was held before, and the state after all that was committed
-- stands on it: all requests that were acknowledged are among these.
pub record AreRuns (path : List ℕ) (processes : List Process) (volume : ℕ) (S : State) (before : List Event) (new : Images) : Type 0 where
  pub lives : List Life
  pub done : List Request
  pub afterwards : List Event
  pub ran : AllRan path processes lives
  pub cuts : AreCut GREATEST_CAPACITY volume S before lives done afterwards
  pub held_is : new.held path ≡ Some afterwards
  pub survives : Survives GREATEST_CAPACITY volume S before done afterwards

-- So it is of any processes on media that are honest in the end, and of any image that recovers to a state at first.
abbrev pub ProcessesAreRuns : Type 0
ProcessesAreRuns =
    (path : List ℕ) (processes : List Process) (old new : Images) (volume : ℕ) (S : State) (before : List Event) → IsTrue new.honest → AllDid processes old new
    → old.held path ≡ Some before → Once before → RecoversTo udf GREATEST_CAPACITY volume (held before) S → AreRuns path processes volume S before new
