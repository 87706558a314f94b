-- What the messages of the input became, and what a user sees of it who gave them a volume in memory.
use Rattle.std.specs.Prelude.{◌≡◌, ◌⊎◌, ⊤, ℕ, ◌<◌, List, codes, sum_by, Option, None, IsSome, IsTrue, Result, Ok, Err}
use Rattle.std.specs.Io.KnownBytes.{Appends, Consumes, IsAtEnd, Keeps}
use Rattle.limits.specs.declared.TheConstants.{GREATEST_CAPACITY, LEAST_CAPACITY, FORMAT_BLOCKS}
use Rattle.drive.specs.Gathering.{Gathering, waits_never}
use Rattle.drive.specs.Reads.{CountsFailures}
use Rattle.osta.specs.FirstFault.{first_text_fault}
use Rattle.osta.specs.Label.{label_faults}
use Rattle.request.specs.declared.answer.Answer.{Answer}
use Rattle.request.specs.declared.message.Message.{Message}
use Rattle.request.specs.Frames.{IsIdle, MessagesAre}
use Rattle.model.specs.Session.{Request, formatted}
use Rattle.model.specs.Runs.{AllNew, EachOnce}
use Rattle.durability.specs.Commit.{need}
use Rattle.durability.specs.Formats.{Block}
use Rattle.durability.specs.Runs.{Fits}
use Rattle.udf.specs.Udf.{spelled_length}
use Rattle.formatting.specs.NewVolume.{IsFormatOf, words_on}
use Rattle.recover.specs.declared.fault.StoreFault.{StoreFault}
use Rattle.recover.specs.declared.fault.StoreFault.TheVariants as stores
use Rattle.store.specs.declared.store.Store.{Store}
use Rattle.engine.specs.Situation.{Situation, with_store}
use Rattle.engine.specs.Streams.{PutsPrefix}
use Rattle.engine.specs.Said.{model_answers}
use Rattle.engine.specs.Answered.{faults}
use Rattle.engine.specs.Steps.{HoldsState}
use Rattle.engine.specs.Served.{AllAnswered, IsCutOff, LeftBy, ServesAll, ServesUntil, brought, frames_of}
use Rattle.engine.specs.declared.serving.ServeFault.{ServeFault}
use Rattle.grouping.specs.Streams.{ServesGroups, ServesGroupsUntil}
use Rattle.programs.specs.declared.fault.Fault.{Fault}
use Rattle.programs.specs.declared.fault.Fault.TheVariants.{Usage, Path, Socket, Store as Stored, Stream}
use Rattle.programs.specs.Images.{Images, IsThere, OnMedia, Unopened}
use Rattle.programs.specs.Inputs.{most_at_once}

-- All messages of the input were answered, or the first ones up to where this fault came. Which store is open after them is not reported.
abbrev pub AppliesAll : Situation → Situation → Option (List ℕ) → Option (List ℕ) → Option (List ℕ) → Option (List ℕ) → Type 0
AppliesAll before afterwards input left output written = (kept : Option Store) × ServesAll before (with_store kept afterwards) input left output written

abbrev pub AppliesUntil : ServeFault → Situation → Situation → Option (List ℕ) → Option (List ℕ) → Option (List ℕ) → Option (List ℕ) → Type 0
AppliesUntil fault before afterwards input left output written = (kept : Option Store) × ServesUntil fault before (with_store kept afterwards) input left output written

-- by the outcome, which is no other fault than that of a stream
abbrev pub AppliesStream : {T : Type 0} → Result T Fault → Situation → Situation → Option (List ℕ) → Option (List ℕ) → Option (List ℕ) → Option (List ℕ) → Type 0
AppliesStream (Ok x) before afterwards input left output written = AppliesAll before afterwards input left output written
AppliesStream (Err Usage) before afterwards input left output written = ⊥
AppliesStream (Err Path) before afterwards input left output written = ⊥
AppliesStream (Err Socket) before afterwards input left output written = ⊥
AppliesStream (Err (Stored fault)) before afterwards input left output written = ⊥
AppliesStream (Err (Stream fault)) before afterwards input left output written = AppliesUntil fault before afterwards input left output written

-- ---- the same in groups, on a drive that begins to gather from here on

-- All messages of the input were answered in groups, or the first ones up to where this fault came. Neither the store that is open after
-- them is reported, nor how the writes of the drive waited.
abbrev pub AppliesGroups : Situation → Gathering → Situation → Option (List ℕ) → Option (List ℕ) → Option (List ℕ) → Option (List ℕ) → Type 0
AppliesGroups before begun afterwards input left output written =
    (kept : Option Store) × (ended : Gathering) × ServesGroups most_at_once before begun (with_store kept afterwards) ended input left output written

abbrev pub AppliesGroupsUntil : ServeFault → Situation → Gathering → Situation → Option (List ℕ) → Option (List ℕ) → Option (List ℕ) → Option (List ℕ) → Type 0
AppliesGroupsUntil fault before begun afterwards input left output written =
    (kept : Option Store) × (ended : Gathering) × ServesGroupsUntil fault before begun (with_store kept afterwards) ended input left output written

-- by the outcome, which is no other fault than that of a stream
abbrev pub AppliesInGroups : {T : Type 0} → Result T Fault → Situation → Gathering → Situation → Option (List ℕ) → Option (List ℕ) → Option (List ℕ) → Option (List ℕ) → Type 0
AppliesInGroups (Ok x) before begun afterwards input left output written = AppliesGroups before begun afterwards input left output written
AppliesInGroups (Err Usage) before begun afterwards input left output written = ⊥
AppliesInGroups (Err Path) before begun afterwards input left output written = ⊥
AppliesInGroups (Err Socket) before begun afterwards input left output written = ⊥
AppliesInGroups (Err (Stored fault)) before begun afterwards input left output written = ⊥
AppliesInGroups (Err (Stream fault)) before begun afterwards input left output written = AppliesGroupsUntil fault before begun afterwards input left output written

-- so it is on the image at a path, whose drive did not gather yet
abbrev pub AppliesToImage : {T : Type 0} → List ℕ → Result T Fault → Images → Images → Option (List ℕ) → Option (List ℕ) → Option (List ℕ) → Option (List ℕ) → Type 0
AppliesToImage image outcome old new input left output written =
    (Unopened outcome old new output written × (left ≡ input)) ⊎ OnMedia IsThere GREATEST_CAPACITY image (λ before afterwards. AppliesInGroups outcome before waits_never afterwards input left output written) old new

-- ---- a volume in memory, whose drive is honest: no premise is left

-- A run from a new volume of this capacity, formatted at moment 0, may give these messages these answers: each by a row, from
-- the state after the requests that were committed before it. A new volume is its root alone, in the blocks of a format. An
-- engine gave the answers, on an honest drive of this capacity where none was open; and no more of them report a failing
-- drive than failures were counted.
pub record IsRunOfNew (capacity : ℕ) (messages : List Message) (answers : List Answer) : Type 0 where
  pub new : Situation
  pub last : Situation
  pub size : new.capacity ≡ capacity
  pub honest : IsTrue new.honest
  pub closed : new.store ≡ None
  pub stands : HoldsState capacity (formatted 0) new
  pub answered : AllAnswered messages new answers last
  pub failures : CountsFailures (sum_by faults answers) new.failures last.failures
  pub end : ℕ
  pub marks : List ℕ
  pub counts : List ℕ
  pub committed : List Request
  pub fits : Fits (need spelled_length) capacity end (formatted 0) FORMAT_BLOCKS 0 (brought messages) (model_answers answers) marks counts committed
  pub all_new : AllNew (formatted 0) committed
  pub each_once : EachOnce committed

-- The messages of the bytes that were read, up to the input's end or a frame that is too long, were answered so, and what
-- was written is the answers' frames, in order.
pub record AnswersAll (capacity : ℕ) (input left output written : Option (List ℕ)) : Type 0 where
  pub bytes : List ℕ
  pub messages : List Message
  pub answers : List Answer
  pub reader : Option (List ℕ)
  pub consumed : Consumes input left bytes
  pub messages_are : MessagesAre bytes messages reader
  pub run : IsRunOfNew capacity messages answers
  pub told : Appends output written (frames_of answers)
  pub idle : IsIdle reader
  pub ends : IsAtEnd left ⊎ IsCutOff bytes reader

-- The first messages of the bytes that were read were answered so, and a prefix of the answers' frames was written.
pub record AnswersSomeInMemory (capacity : ℕ) (input left output written : Option (List ℕ)) : Type 0 where
  pub bytes : List ℕ
  pub messages : List Message
  pub answers : List Answer
  pub reader : Option (List ℕ)
  pub consumed : Consumes input left bytes
  pub messages_are : MessagesAre bytes messages reader
  pub run : IsRunOfNew capacity messages answers
  pub front : PutsPrefix output written (frames_of answers)

-- The same, and this fault shows how far that went.
pub record AnswersUntil (fault : ServeFault) (capacity : ℕ) (input left output written : Option (List ℕ)) : Type 0 where
  pub some : AnswersSomeInMemory capacity input left output written
  pub left_by : LeftBy fault some.bytes some.answers some.reader output written

-- Why there is no new volume in memory: it would be too small, or memory is short for its blocks. Its label is right.
abbrev pub IsUnmade : ℕ → StoreFault → Type 0
IsUnmade capacity stores.NotBlank = (blocks : List Block) → IsFormatOf (words_on capacity (codes "MEM") 0) blocks → ⊥
IsUnmade capacity stores.Label = IsSome (first_text_fault (label_faults (codes "MEM")))
IsUnmade capacity stores.Small = capacity < LEAST_CAPACITY
IsUnmade capacity stores.Device = ⊤
IsUnmade capacity stores.Memory = ⊤
IsUnmade capacity stores.NotFormatted = ⊥
IsUnmade capacity (stores.Damaged block cause) = ⊥
IsUnmade capacity stores.Full = ⊥
IsUnmade capacity stores.Stopped = ⊥
IsUnmade capacity stores.NoCommit = ⊥
IsUnmade capacity stores.NotFound = ⊥
IsUnmade capacity stores.IsDirectory = ⊥
IsUnmade capacity stores.NotDirectory = ⊥
IsUnmade capacity stores.TooLong = ⊥

-- by the outcome: where there is no new volume, nothing was read or written
abbrev pub AnswersInMemory : {T : Type 0} → Result T Fault → ℕ → Option (List ℕ) → Option (List ℕ) → Option (List ℕ) → Option (List ℕ) → Type 0
AnswersInMemory (Ok x) capacity input left output written = AnswersAll capacity input left output written
AnswersInMemory (Err Usage) capacity input left output written = ⊥
AnswersInMemory (Err Path) capacity input left output written = ⊥
AnswersInMemory (Err Socket) capacity input left output written = ⊥
AnswersInMemory (Err (Stored fault)) capacity input left output written = IsUnmade capacity fault × (left ≡ input) × Keeps output written
AnswersInMemory (Err (Stream fault)) capacity input left output written = AnswersUntil fault capacity input left output written
