-- A volume that is made on a drive, or on the file under a descriptor.
use Rattle.std.specs.Prelude.{◌≡◌, ◌⊎◌, ◌↔◌, ⊤, ◌<◌, ◌≤◌, ℕ, Bool, true, List, [], IsNone, IsSome, IsUtf8, Option, Result, Ok, Err}
use Rattle.limits.specs.declared.TheConstants.{LEAST_CAPACITY, MOMENT_LIMIT}
use Rattle.drive.specs.Journal.{Event}
use Rattle.drive.specs.FileDrive.{journal_of, capacity_of, honest_of, writes_of, BeginsWith}
use Rattle.drive.specs.MemDrive as memory
use Rattle.drive.specs.declared.file.FileDrive.{FileDrive}
use Rattle.drive.specs.declared.memory.MemDrive.{MemDrive}
use Rattle.osta.specs.FirstFault.{first_text_fault}
use Rattle.osta.specs.Label.{label_faults}
use Rattle.recover.specs.declared.fault.StoreFault.{StoreFault}
use Rattle.recover.specs.declared.fault.StoreFault.TheVariants as stores
use Rattle.formatting.specs.NewVolume.{words_on, FormatSurvivesPowerLoss, IsFormatted, IsFormatRefused}
use Rattle.formatting.specs.Beginning.{IsBegun, IsUnbegun}
use Rattle.embedding.specs.declared.fault.Fault.{Fault}
use Rattle.embedding.specs.declared.fault.Fault.TheVariants.{Device, Text, Volume}
use Rattle.embedding.specs.Numbers.{fault_of_store}

-- The label is refused exactly where the text is none, and a capacity that is too small is refused wherever the label is right.
pub record AreWordsRefused {T : Type 0} (label : List ℕ) (capacity : ℕ) (outcome : Result T Fault) : Type 0 where
  pub text : (outcome ≡ Err Text) ↔ IsSome (first_text_fault (label_faults label))
  pub size : IsNone (first_text_fault (label_faults label)) → capacity < LEAST_CAPACITY → outcome ≡ Err Volume

-- The format was finished, so that on an honest drive the new volume is recovered, or what a refusal leaves. A capacity is refused
-- only where it is too small.
abbrev pub Makes : {T : Type 0} → List ℕ → ℕ → ℕ → Result T Fault → List Event → List Event → Bool → Type 0
Makes label moment capacity (Ok x) before afterwards honest = IsFormatted capacity (words_on capacity label moment) before afterwards honest
Makes label moment capacity (Err fault) before afterwards honest =
    (cause : StoreFault) × (fault ≡ fault_of_store cause) × IsFormatRefused capacity (words_on capacity label moment) before afterwards honest cause × (cause ≡ stores.Small → capacity < LEAST_CAPACITY)

-- no volume can have these words: the label is not UTF-8, or it is, and the moment is too late
abbrev pub AreNoWords : {T : Type 0} → List ℕ → ℕ → Result T Fault → Type 0
AreNoWords label moment outcome = ((outcome ≡ Err Text) × (IsUtf8 label → ⊥)) ⊎ ((outcome ≡ Err Volume) × IsUtf8 label × (MOMENT_LIMIT ≤ moment))

-- neither is so
abbrev pub AreWords : List ℕ → ℕ → Type 0
AreWords label moment = IsUtf8 label × (moment < MOMENT_LIMIT)

-- What a look found after the last whole block of the file was refused, and nothing was done.
pub record IsForeign {T : Type 0} (label : List ℕ) (moment : ℕ) (outcome : Result T Fault) (look : Option (List ℕ)) (before afterwards : FileDrive) : Type 0 where
  pub cause : StoreFault
  pub told : outcome ≡ Err (fault_of_store cause)
  pub why : IsUnbegun (capacity_of before) label moment (journal_of before) look cause
  pub journal : journal_of afterwards ≡ journal_of before
  pub writes : writes_of afterwards ≡ writes_of before

-- What a format on a file does, by its outcome and by what a look found after the last whole block. A power loss leaves nothing or
-- the new volume of its writes.
abbrev pub FormatsOn : {T : Type 0} → List ℕ → ℕ → Result T Fault → Option (List ℕ) → FileDrive → FileDrive → Type 0
FormatsOn label moment outcome look before afterwards =
    (AreNoWords label moment outcome × (afterwards ≡ before))
    ⊎ (AreWords label moment × (IsForeign label moment outcome look before afterwards
    ⊎ (IsBegun (capacity_of before) label moment (journal_of before) look × AreWordsRefused label (capacity_of before) outcome
    × Makes label moment (capacity_of before) outcome (journal_of before) (journal_of afterwards) (honest_of afterwards)
    × FormatSurvivesPowerLoss (capacity_of before) (words_on (capacity_of before) label moment) (journal_of before) (writes_of before) (journal_of afterwards) (writes_of afterwards) (honest_of afterwards))))

-- This was done on a drive over the file, from its opening on. What the file has no clause can know: it is whatever blocks the
-- drive's reads agree with, and whatever the look found.
pub record OnFile (capacity : ℕ) (Did : FileDrive → FileDrive → Type 0) : Type 0 where
  pub image : List (List ℕ)
  pub before : FileDrive
  pub begins : BeginsWith image before
  pub size : capacity_of before ≡ capacity
  pub afterwards : FileDrive
  pub did : Did before afterwards

-- The file could not be had, or this was done on it.
abbrev pub FormatsFile : {T : Type 0} → List ℕ → ℕ → ℕ → Result T Fault → Type 0
FormatsFile label moment capacity outcome = (outcome ≡ Err Device) ⊎ ((look : Option (List ℕ)) × OnFile capacity (λ before afterwards. FormatsOn label moment outcome look before afterwards))

-- ---- in memory

-- the drive holds a new volume with these words, which are right, and has room for so many blocks
pub record IsMadeInMemory (label : List ℕ) (moment capacity : ℕ) (drive : MemDrive) : Type 0 where
  pub words : AreWords label moment
  pub text : IsNone (first_text_fault (label_faults label))
  pub large : LEAST_CAPACITY ≤ capacity
  pub made : IsFormatted capacity (words_on capacity label moment) [] (memory.journal_of drive) (memory.honest_of drive)
  pub size : memory.capacity_of drive ≡ capacity

-- A format on a blank drive in memory, which is honest, was refused: for its label exactly where that is none, and for its capacity
-- where the label is right and it is too small.
pub record IsRefusedInMemory (label : List ℕ) (moment capacity : ℕ) (fault : Fault) : Type 0 where
  pub words : AreWords label moment
  pub refused : AreWordsRefused {T = ⊤} label capacity (Err fault)
  pub afterwards : List Event
  pub makes : Makes {T = ⊤} label moment capacity (Err fault) [] afterwards true

-- why it was not made: no volume can have these words, or the format was refused
abbrev pub IsNotMade : List ℕ → ℕ → ℕ → Fault → Type 0
IsNotMade label moment capacity fault = AreNoWords {T = ⊤} label moment (Err fault) ⊎ IsRefusedInMemory label moment capacity fault
