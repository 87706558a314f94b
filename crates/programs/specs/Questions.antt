-- What the commands that read print of the recovered state, and why they do not.
use Rattle.std.specs.Prelude.{◌≡◌, ◌⊎◌, ℕ, ◌+◌, ◌<◌, ◌≤◌, Bool, true, false, IsTrue, List, length, take, Option, Some, Result, Ok, Err}
use Rattle.std.specs.FinMap.{get}
use Rattle.std.specs.Io.KnownBytes.{Appends, Keeps}
use Rattle.limits.specs.declared.TheConstants.{GREATEST_CAPACITY, FILE_BYTES}
use Rattle.drive.specs.Journal.{Event, Once, held}
use Rattle.drive.specs.Reads.{CountsFailures}
use Rattle.model.specs.Session.{State}
use Rattle.model.specs.Tree.{Name, Node, Path, Tree}
use Rattle.model.specs.Tree.Content.{File}
use Rattle.durability.specs.Volume.{RecoversTo}
use Rattle.durability.specs.Runs.{told}
use Rattle.durability.specs.Runs.Answer.{Names}
use Rattle.durability.specs.Runs.Query.{List_, Read}
use Rattle.udf.specs.Udf.{udf}
use Rattle.request.specs.Path.{IsPath, path_text}
use Rattle.recover.specs.Faults.{IsShortage}
use Rattle.recover.specs.declared.fault.StoreFault.{StoreFault}
use Rattle.recover.specs.declared.fault.StoreFault.TheVariants.{Memory}
use Rattle.store.specs.declared.history.Commit.{Commit}
use Rattle.store.specs.Calls.{ListRefuses, ReadRefuses}
use Rattle.store.specs.History.{IsHistory, IsHistoryRefused}
use Rattle.store.specs.Opened.{IsOpenRefused}
use Rattle.store.specs.Past.{AllRecovered, IsCheckRefused}
use Rattle.engine.specs.Streams.{PutsPrefix}
use Rattle.engine.specs.declared.serving.ServeFault.TheVariants as stream
use Rattle.programs.specs.declared.fault.Fault.{Fault}
use Rattle.programs.specs.declared.fault.Fault.TheVariants as faults
use Rattle.programs.specs.Images.{AreUntouched, Images, IsThere, OnMedia, Unopened}
use Rattle.programs.specs.Lines.{names_text, commits_text, sound_text}
use Rattle.programs.specs.Status.{drive_failures}

-- what is asked of a volume
pub data Question : Type 0 where
  Names_at : (path : Path) → Question
  Bytes_at : (path : Path) → Question
  Commits : Question
  Soundness : Question

-- the path leads to a file, which has these bytes
abbrev pub IsFileAt : Tree → Path → List ℕ → Type 0
IsFileAt tree path bytes = (node : Node) × (get tree path ≡ Some node) × (node.content ≡ File bytes)

-- The bytes say what holds of a recovered state on the medium, with its VAT ICB at an address.
abbrev pub IsAnswerText : Question → ℕ → ℕ → List (List ℕ) → State → ℕ → List ℕ → Type 0
IsAnswerText (Names_at path) capacity volume medium S at bytes = (names : List (Bool × Name)) × (told S.tree (List_ path) ≡ Names names) × (bytes ≡ names_text names)
IsAnswerText (Bytes_at path) capacity volume medium S at bytes = IsFileAt S.tree path bytes
IsAnswerText Commits capacity volume medium S at bytes = (commits : List Commit) × IsHistory medium at commits × (length commits ≡ S.commits + 1) × (bytes ≡ commits_text commits)
IsAnswerText Soundness capacity volume medium S at bytes = AllRecovered capacity volume medium S.commits × (bytes ≡ sound_text S.commits)

-- why a recovered state gives no answer: bytes are refused as those of the first piece are
abbrev pub RefusesQuestion : Question → ℕ → ℕ → List (List ℕ) → State → ℕ → StoreFault → Type 0
RefusesQuestion (Names_at path) capacity volume medium S at fault = ListRefuses (told S.tree (List_ path)) fault
RefusesQuestion (Bytes_at path) capacity volume medium S at fault = ReadRefuses (told S.tree (Read path 0 FILE_BYTES)) fault
RefusesQuestion Commits capacity volume medium S at fault = IsHistoryRefused medium at fault
RefusesQuestion Soundness capacity volume medium S at fault = IsCheckRefused capacity volume medium S.commits fault

-- a state is recovered, and the bytes say it
pub record IsQuestionAnswered (question : Question) (capacity : ℕ) (journal : List Event) (bytes : List ℕ) : Type 0 where
  pub volume : ℕ
  pub state : State
  pub stands : RecoversTo udf capacity volume (held journal) state
  pub says : IsAnswerText question capacity volume (held journal) state stands.at bytes

-- a state is recovered, and gives no answer
pub record IsQuestionRefused (question : Question) (capacity : ℕ) (journal : List Event) (fault : StoreFault) : Type 0 where
  pub volume : ℕ
  pub state : State
  pub stands : RecoversTo udf capacity volume (held journal) state
  pub refuses : RefusesQuestion question capacity volume (held journal) state stands.at fault

-- The bytes were printed, all of them or a prefix. On an honest drive they say what holds of the recovered state.
pub record Prints (question : Question) (capacity : ℕ) (journal : List Event) (honest : Bool) (output written : Option (List ℕ)) : Type 0 where
  pub bytes : List ℕ
  pub printed : Appends output written bytes
  pub said : IsTrue honest → Once journal → IsQuestionAnswered question capacity journal bytes

-- a prefix of bytes that say it
abbrev pub IsAnswerFront : Question → ℕ → List Event → List ℕ → Type 0
IsAnswerFront question capacity journal front = (bytes : List ℕ) × IsQuestionAnswered question capacity journal bytes × (count : ℕ) × (front ≡ take count bytes)

pub record PrintsPrefix (question : Question) (capacity : ℕ) (journal : List Event) (honest : Bool) (output written : Option (List ℕ)) : Type 0 where
  pub front : List ℕ
  pub printed : Appends output written front
  pub said : IsTrue honest → Once journal → IsAnswerFront question capacity journal front

-- Nothing was printed. On an honest drive none is recovered, or the one that is gives no answer, or the drive failed or memory was short.
pub record PrintsNothing (question : Question) (capacity : ℕ) (journal : List Event) (honest : Bool) (fault : StoreFault) (output written : Option (List ℕ)) : Type 0 where
  pub unwritten : Keeps output written
  pub refused : IsTrue honest → Once journal → IsOpenRefused capacity (held journal) fault ⊎ IsQuestionRefused question capacity journal fault

-- A prefix was printed. On an honest drive it is one of the bytes that say what holds of the recovered state, and then the drive failed or memory was short.
pub record PrintsSome (question : Question) (capacity : ℕ) (journal : List Event) (honest : Bool) (fault : StoreFault) (output written : Option (List ℕ)) : Type 0 where
  pub front : List ℕ
  pub printed : Appends output written front
  pub said : IsTrue honest → Once journal → IsShortage fault × IsAnswerFront question capacity journal front

-- The bytes of a file are printed piece by piece, all else at once.
abbrev pub PrintsRefused : Question → ℕ → List Event → Bool → StoreFault → Option (List ℕ) → Option (List ℕ) → Type 0
PrintsRefused (Names_at path) capacity journal honest fault output written = PrintsNothing (Names_at path) capacity journal honest fault output written
PrintsRefused (Bytes_at path) capacity journal honest fault output written =
    PrintsNothing (Bytes_at path) capacity journal honest fault output written ⊎ PrintsSome (Bytes_at path) capacity journal honest fault output written
PrintsRefused Commits capacity journal honest fault output written = PrintsNothing Commits capacity journal honest fault output written
PrintsRefused Soundness capacity journal honest fault output written = PrintsNothing Soundness capacity journal honest fault output written

-- by the outcome
abbrev pub PrintsAnswer : {T : Type 0} → Question → Result T Fault → ℕ → List Event → Bool → Option (List ℕ) → Option (List ℕ) → Type 0
PrintsAnswer question (Ok x) capacity journal honest output written = Prints question capacity journal honest output written
PrintsAnswer question (Err faults.Usage) capacity journal honest output written = ⊥
PrintsAnswer question (Err faults.Path) capacity journal honest output written = ⊥
PrintsAnswer question (Err faults.Socket) capacity journal honest output written = ⊥
PrintsAnswer question (Err (faults.Store fault)) capacity journal honest output written = PrintsRefused question capacity journal honest fault output written
PrintsAnswer question (Err (faults.Stream stream.Read)) capacity journal honest output written = ⊥
PrintsAnswer question (Err (faults.Stream stream.Write)) capacity journal honest output written = PrintsPrefix question capacity journal honest output written
PrintsAnswer question (Err (faults.Stream stream.Memory)) capacity journal honest output written = ⊥

-- the same on the image at a path, to which no write is made; its drive failed where that is told
abbrev pub ShowsImage : {T : Type 0} → Question → List ℕ → Result T Fault → Images → Images → Option (List ℕ) → Option (List ℕ) → Type 0
ShowsImage question image outcome old new output written =
    Unopened outcome old new output written
    ⊎ OnMedia IsThere GREATEST_CAPACITY image (λ before afterwards. (afterwards.journal ≡ before.journal) × (afterwards.writes ≡ before.writes) × CountsFailures (drive_failures outcome) before.failures afterwards.failures × PrintsAnswer question outcome before.capacity before.journal afterwards.honest output written) old new

-- The text is that of no path, or there was no memory for it.
abbrev pub IsUnread : {T : Type 0} → List ℕ → Result T Fault → Type 0
IsUnread text outcome = ((outcome ≡ Err faults.Path) × ((path : Path) → IsPath path → text ≡ path_text path → ⊥)) ⊎ (outcome ≡ Err (faults.Store Memory))

-- the same of a path by its text
abbrev pub ShowsPath : {T : Type 0} → (Path → Question) → List ℕ → List ℕ → Result T Fault → Images → Images → Option (List ℕ) → Option (List ℕ) → Type 0
ShowsPath question image text outcome old new output written =
    (IsUnread text outcome × AreUntouched old new × Keeps output written)
    ⊎ ((path : Path) × IsPath path × (text ≡ path_text path) × ShowsImage (question path) image outcome old new output written)

-- ---- a file, piece by piece

-- The piece was printed, and it is the last one where it is shorter than others are.
abbrev pub PutsPiece : (List ℕ → Type 0) → Bool → Option (List ℕ) → Option (List ℕ) → Type 0
PutsPiece Is last output written = (piece : List ℕ) × Appends output written piece × Is piece × ((last ≡ true) × (length piece < FILE_BYTES) ⊎ (last ≡ false) × (FILE_BYTES ≤ length piece))

-- It was not printed whole. `Is` says which one it is, and `Refuses` why there is none.
abbrev pub StopsPiece : (List ℕ → Type 0) → (StoreFault → Type 0) → Fault → Option (List ℕ) → Option (List ℕ) → Type 0
StopsPiece Is Refuses faults.Usage output written = ⊥
StopsPiece Is Refuses faults.Path output written = ⊥
StopsPiece Is Refuses faults.Socket output written = ⊥
StopsPiece Is Refuses (faults.Store fault) output written = Keeps output written × Refuses fault
StopsPiece Is Refuses (faults.Stream stream.Read) output written = ⊥
StopsPiece Is Refuses (faults.Stream stream.Write) output written = (piece : List ℕ) × PutsPrefix output written piece × Is piece
StopsPiece Is Refuses (faults.Stream stream.Memory) output written = ⊥

-- What became of a file's bytes. `Is` says whose they are, `Begins` whose a prefix is, `Refuses` why there are none, and `Ends` why there are no more.
abbrev pub PutsFile : {T : Type 0} → (List ℕ → Type 0) → (List ℕ → Type 0) → (StoreFault → Type 0) → (StoreFault → Type 0) → Result T Fault → Option (List ℕ) → Option (List ℕ) → Type 0
PutsFile Is Begins Refuses Ends (Ok x) output written = (bytes : List ℕ) × Appends output written bytes × Is bytes
PutsFile Is Begins Refuses Ends (Err faults.Usage) output written = ⊥
PutsFile Is Begins Refuses Ends (Err faults.Path) output written = ⊥
PutsFile Is Begins Refuses Ends (Err faults.Socket) output written = ⊥
PutsFile Is Begins Refuses Ends (Err (faults.Store fault)) output written =
    (Keeps output written × Refuses fault) ⊎ ((front : List ℕ) × Appends output written front × Begins front × Ends fault)
PutsFile Is Begins Refuses Ends (Err (faults.Stream stream.Read)) output written = ⊥
PutsFile Is Begins Refuses Ends (Err (faults.Stream stream.Write)) output written = (front : List ℕ) × Appends output written front × Begins front
PutsFile Is Begins Refuses Ends (Err (faults.Stream stream.Memory)) output written = ⊥

-- on the state that a store knows, if its drive is honest then
abbrev pub Known : (ℕ → State → Type 0) → Bool → (State → Type 0) → Type 0
Known Knows honest Says = (volume : ℕ) (S : State) → IsTrue honest → Knows volume S → Says S

-- the bytes are a prefix of the file at a path
abbrev pub BeginsFileAt : Tree → Path → List ℕ → Type 0
BeginsFileAt tree path front = (bytes : List ℕ) × IsFileAt tree path bytes × (count : ℕ) × (front ≡ take count bytes)
