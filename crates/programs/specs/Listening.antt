-- What became of the connections of a listener, one after another.
use Rattle.std.specs.Prelude.{◌≡◌, ◌⊎◌, ℕ, ◌+◌, ◌-◌, ◌^◌, ◌<◌, List, [], ◌∷◌, ◌++◌, length, Option, None, Result, Ok, Err}
use Rattle.std.specs.List.{flat_map}
use Rattle.std.specs.Io.KnownBytes.{Consumes}
use Rattle.drive.specs.Gathering.{Gathering}
use Rattle.drive.specs.Journal.{counted}
use Rattle.drive.specs.Reads.{CountsFailures, one_if}
use Rattle.recover.specs.declared.fault.StoreFault.TheVariants.{Memory}
use Rattle.request.specs.Frames.{MessagesAre}
use Rattle.store.specs.declared.store.Store as stored
use Rattle.engine.specs.Situation.{Situation, with_store}
use Rattle.engine.specs.Served.{frames_of}
use Rattle.engine.specs.Streams.{PutsPrefix}
use Rattle.grouping.specs.Losses.{GroupsAreLives}
use Rattle.grouping.specs.Served.{AreGroups, Group, GroupsRun, GroupsWithstand, answers_of, messages_of}
use Rattle.grouping.specs.Streams.{ServesGroups}
use Rattle.programs.specs.declared.listening.Listener.{Ghosts}
use Rattle.programs.specs.declared.fault.Fault.{Fault}
use Rattle.programs.specs.declared.fault.Fault.TheVariants.{Usage, Path, Socket, Store, Stream}
use Rattle.programs.specs.Connections.{IsAsBefore, ServesMessages, ServesPrefix}
use Rattle.programs.specs.Inputs.{most_at_once, is_read_refused}
use Rattle.programs.specs.Outputs.{IsBlank, known}
use Rattle.programs.specs.Tasks.{IsPrefixOf}

-- How a connection ended, by the outcome. All messages of what its client sends were answered in groups, or the first ones and a
-- prefix of their answers was written; or nothing was done, since the connection could not be had or memory was short.
abbrev pub EndsBy : {T : Type 0} → Result T Fault → Situation → Gathering → Situation → Gathering → Option (List ℕ) → Option (List ℕ) → Option (List ℕ) → Option (List ℕ) → Type 0
EndsBy (Ok x) before begun afterwards ended input left output written = ServesGroups most_at_once before begun afterwards ended input left output written
EndsBy (Err Usage) before begun afterwards ended input left output written = ⊥
EndsBy (Err Path) before begun afterwards ended input left output written = ⊥
EndsBy (Err Socket) before begun afterwards ended input left output written = IsAsBefore before begun afterwards ended × (written ≡ output)
EndsBy (Err (Store fault)) before begun afterwards ended input left output written = ⊥
EndsBy (Err (Stream fault)) before begun afterwards ended input left output written = ServesPrefix fault before begun afterwards ended input left output written

-- or its output was let go, for lack of memory, and nothing was done
abbrev pub LetsGo : {T : Type 0} → Result T Fault → Situation → Gathering → Situation → Gathering → Type 0
LetsGo outcome before begun afterwards ended = (outcome ≡ Err (Store Memory)) × IsAsBefore before begun afterwards ended

-- This connection was served, whose client sends this, and that was written on it.
pub record IsServed {T : Type 0} (outcome : Result T Fault) (input written : Option (List ℕ)) (before : Situation) (begun : Gathering) (afterwards : Situation) (ended : Gathering) : Type 0 where
  pub left : Option (List ℕ)
  pub output : Option (List ℕ)
  pub blank : IsBlank output
  pub ends : EndsBy outcome before begun afterwards ended input left output written ⊎ ((written ≡ None) × LetsGo outcome before begun afterwards ended)
  pub goes : ServesMessages before begun afterwards ended

-- One after another, each from where the one before it left the engine and the drive. So many of them were left since a read
-- failed.
abbrev pub ServesList : List (Option (List ℕ)) → List (Option (List ℕ)) → ℕ → Situation → Gathering → Situation → Gathering → Type 0
ServesList [] [] failed before begun afterwards ended = IsAsBefore before begun afterwards ended × (failed ≡ 0)
ServesList [] (written ∷ outputs) failed before begun afterwards ended = ⊥
ServesList (input ∷ inputs) [] failed before begun afterwards ended = ⊥
ServesList (input ∷ inputs) (written ∷ outputs) failed before begun afterwards ended =
    (during : Situation) × (meanwhile : Gathering) × (outcome : Result (Unit {0}) Fault) × IsServed outcome input written before begun during meanwhile
    × (later : ℕ) × (failed ≡ one_if (is_read_refused outcome) + later) × ServesList inputs outputs later during meanwhile afterwards ended

-- ---- the messages that connections bring

-- A connection's client sends this. The messages of these groups, the first of what was read of it, were answered; and a prefix of
-- the answers' frames was written.
pub record AnswersConnection (input written : Option (List ℕ)) (groups : List Group) : Type 0 where
  pub left : Option (List ℕ)
  pub output : Option (List ℕ)
  pub gathered : Option (List ℕ)
  pub blank : IsBlank output
  pub bytes : List ℕ
  pub reader : Option (List ℕ)
  pub consumed : Consumes input left bytes
  pub messages_are : MessagesAre bytes (messages_of groups) reader
  pub front : PutsPrefix output gathered (frames_of (answers_of groups))
  pub written_is : IsPrefixOf gathered written

-- or none was answered, and nothing was written on it
abbrev pub IsHeard : Option (List ℕ) → Option (List ℕ) → List Group → Type 0
IsHeard input written groups = ((groups ≡ []) × ((written ≡ None) ⊎ IsBlank written)) ⊎ AnswersConnection input written groups

-- those of all of them, in order
abbrev pub AllHeard : List (Option (List ℕ)) → List (Option (List ℕ)) → List Group → Type 0
AllHeard [] [] groups = groups ≡ []
AllHeard [] (written ∷ outputs) groups = ⊥
AllHeard (input ∷ inputs) [] groups = ⊥
AllHeard (input ∷ inputs) (written ∷ outputs) groups = (first later : List Group) × (groups ≡ first ++ later) × IsHeard input written first × AllHeard inputs outputs later

-- The messages that connections brought were answered in groups, and nothing else was done. On an honest drive where a state
-- stands, what stands at each prefix of what was written is the state after the first of the requests that were committed.
-- Whatever a power loss leaves of what the disk was given of a group, the state after all that were committed before the group
-- stands, or the one after the first of its requests.
pub record IsOneRun (inputs outputs : List (Option (List ℕ))) (before : Situation) (begun : Gathering) (afterwards : Situation) (ended : Gathering) : Type 0 where
  pub groups : List Group
  pub heard : AllHeard inputs outputs groups
  pub are : AreGroups groups before begun afterwards ended
  pub run : GroupsRun groups before begun afterwards ended are
  pub withstand : GroupsWithstand groups before begun afterwards ended are
  pub lives : GroupsAreLives groups before begun afterwards ended are

-- ---- a listener

-- What the clients of a listener's connections send, what was written on those that ended, how often it had none to give, and
-- on how many of those that ended a read failed.
pub record Heard : Type 0 where
  pub given : List (Option (List ℕ))
  pub ended : List (List ℕ)
  pub missed : ℕ
  pub failed : ℕ

-- Of a socket of the system nobody knows what was written on its connections.
pub nothing_known : List (List ℕ)
nothing_known = []

abbrev pub heard_on : {L I O : Type 0} → Ghosts L I O → L → Heard
heard_on listener l = record { given = listener.given l; ended = listener.ended l; missed = listener.missed l; failed = listener.failed l }

-- A connection of a listener was served so, and ended. A read of it failed exactly if that is why it was left.
pub record EndsOne {T : Type 0} (outcome : Result T Fault) (input : Option (List ℕ)) (old new : Heard) (before : Situation) (begun : Gathering) (afterwards : Situation) (finished : Gathering) : Type 0 where
  pub written : Option (List ℕ)
  pub given : new.given ≡ old.given
  pub missed : new.missed ≡ old.missed
  pub ended : new.ended ≡ old.ended ++ known written
  pub failed : new.failed ≡ counted (is_read_refused outcome) old.failed
  pub is : IsServed outcome input written before begun afterwards finished

-- As many connections were served as were asked for, or fewer, where the listener was asked 2 ^ 64 - 1 times.
abbrev pub AreEnough : ℕ → ℕ → ℕ → ℕ → Type 0
AreEnough connections served missed now =
    (served ≡ connections) ⊎ ((served < connections) × ((failed : ℕ) × (served + failed ≡ 2 ^ 64 - 1) × CountsFailures failed missed now))

-- so many were counted, while the count is below its top
abbrev pub CountsAll : ℕ → ℕ → ℕ → Type 0
CountsAll n before now = now < 2 ^ 64 - 1 → before + n ≡ now

-- So many connections of a listener were served, with one engine that was new, on a drive that gathered so, and all of them are one
-- run. As many of them were left since a read failed as the listener counted. How the drive gathers in the end is not reported.
pub record ServesEach (connections : ℕ) (old new : Heard) (begun : Gathering) (before afterwards : Situation) : Type 0 where
  pub inputs : List (Option (List ℕ))
  pub outputs : List (Option (List ℕ))
  pub given : new.given ≡ old.given ++ inputs
  pub ended : new.ended ≡ old.ended ++ flat_map known outputs
  pub kept : Option stored.Store
  pub left : ℕ
  pub finished : Gathering
  pub served : ServesList inputs outputs left before begun (with_store kept afterwards) finished
  pub failed : CountsAll left old.failed new.failed
  pub run : IsOneRun inputs outputs before begun (with_store kept afterwards) finished
  pub enough : AreEnough connections (length inputs) old.missed new.missed
