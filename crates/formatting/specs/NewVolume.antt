-- The blocks of a format, one by one and all together, and what a call of `format` leaves of them on a drive.
use Rattle.std.specs.Prelude.{◌≡◌, ◌⊎◌, ℕ, ◌+◌, ◌-◌, ◌<◌, ◌≤◌, min, Bool, IsTrue, List, [], ◌∷◌, ◌++◌, All, length, take, drop, slice_index_or, Some}
use Rattle.limits.specs.declared.TheConstants.{GREATEST_CAPACITY, PARTITION_START, FORMAT_BLOCKS}
use Rattle.ecma.specs.Descriptor.{padded}
use Rattle.icb.specs.Entry.{IsEntry}
use Rattle.icb.specs.FileSet.{IsFileSet}
use Rattle.dir.specs.Directory.{IsDirectory}
use Rattle.vat.specs.Table.{IsTable}
use Rattle.volume.specs.Front.{IsFrontBlock}
use Rattle.drive.specs.Journal.{Event, written, next_of, last_at, held, AddsPrefix}
use Rattle.drive.specs.Writes.{IsLeft, LastIsCut, joined}
use Rattle.model.specs.Session.{State, formatted}
use Rattle.durability.specs.Formats.{Block}
use Rattle.durability.specs.Volume.{RecoversTo}
use Rattle.durability.specs.Torn.{RecoversToNothing}
use Rattle.udf.specs.Udf.{udf, IsBlock}
use Rattle.udf.specs.NewVolume.{root_fields, first_table, new_table_fields, IsNewVolume}
use Rattle.recover.specs.declared.fault.StoreFault.{StoreFault}
use Rattle.recover.specs.declared.fault.StoreFault.TheVariants.{NotBlank, Label, Small, Device, Memory, NotFormatted, Damaged, Full, Stopped, NoCommit, NotFound, IsDirectory as IsDirectoryFault, NotDirectory, TooLong}
use Rattle.formatting.specs.declared.parts.Parts.{Parts}

-- what a volume is formatted with
pub record Words : Type 0 where
  pub volume : ℕ  -- its capacity in blocks
  pub label : List ℕ
  pub moment : ℕ

-- those of a format with this label and moment on a drive of this capacity
abbrev pub words_on : ℕ → List ℕ → ℕ → Words
words_on capacity label moment = record { volume = min capacity GREATEST_CAPACITY; label = label; moment = moment }

abbrev pub words_of : Parts → Words
words_of parts = record { volume = parts.capacity; label = parts.label; moment = parts.moment }

-- ---- the blocks

abbrev pub IsFirstTable : List ℕ → Block → Type 0
IsFirstTable label block = (bytes : List ℕ) × IsTable (first_table label) bytes × (block ≡ padded bytes)

-- the block is at this address of a volume that is formatted with these words
pub record IsBlockAt (words : Words) (at : ℕ) (block : Block) : Type 0 where
  pub front : at < PARTITION_START → IsFrontBlock words.label words.moment words.volume at block
  pub set : at ≡ PARTITION_START → IsFileSet (record { label = words.label; moment = words.moment }) block
  pub names : at ≡ PARTITION_START + 1 → IsDirectory 1 [] 1 40 (block ∷ [])
  pub root : at ≡ PARTITION_START + 2 → IsEntry (root_fields words.moment) 1 block
  pub table : at ≡ PARTITION_START + 3 → IsFirstTable words.label block
  pub mark : at ≡ FORMAT_BLOCKS - 1 → IsEntry (new_table_fields words.moment) 4 block

-- the blocks are those of a format with these words, all of them
pub record IsFormatOf (words : Words) (blocks : List Block) : Type 0 where
  pub bytes : All IsBlock blocks
  pub front : List Block
  pub set : Block
  pub names : Block
  pub root : Block
  pub table : Block
  pub mark : Block
  pub is : IsNewVolume words.volume words.label words.moment front set names root table mark
  pub order : blocks ≡ front ++ set ∷ names ∷ root ∷ table ∷ mark ∷ []

-- words have one list of them
abbrev pub OneFormat : Type 0
OneFormat = (words : Words) (a b : List Block) → IsFormatOf words a → IsFormatOf words b → a ≡ b

-- the blocks are a prefix of a format's, none and all among these
pub record IsFormatPrefix (words : Words) (blocks : List Block) : Type 0 where
  pub whole : List Block
  pub is : IsFormatOf words whole
  pub count : ℕ
  pub front : blocks ≡ take count whole

-- So many blocks of a format were read, from its first on. On an honest drive they are what is held there.
pub record IsFormatRead (words : Words) (journal : List Event) (honest : Bool) (count : ℕ) : Type 0 where
  pub blocks : List Block
  pub long : length blocks ≡ count
  pub bytes : All IsBlock blocks
  pub each : (n : ℕ) → n < count → IsBlockAt words n (slice_index_or blocks n [])
  pub there : IsTrue honest → (n : ℕ) → n < count → last_at journal n ≡ Some (slice_index_or blocks n [])

-- the blocks are those of a format from an address on, up to another
pub record AreBlocks (words : Words) (from to : ℕ) (blocks : List Block) : Type 0 where
  pub long : from + length blocks ≡ to
  pub bytes : All IsBlock blocks
  pub each : (n : ℕ) → n < length blocks → IsBlockAt words (from + n) (slice_index_or blocks n [])

-- ---- what a call leaves

-- On the prefixes of a journal from the one before on there is what was there, and after it the blocks that were missing.
-- Before the last of them nothing is recovered, whatever drive and volume it is read in, and with it the new volume is.
pub record HoldsPrefixes (capacity : ℕ) (words : Words) (blocks : List Block) (before afterwards : List Event) : Type 0 where
  pub began : held before ≡ take (next_of before) blocks
  pub each : (k : ℕ) → length before ≤ k → held (take k afterwards) ≡ take (next_of (take k afterwards)) blocks
  pub nothing : (k other_capacity other_volume : ℕ) (state : State) → length before ≤ k → next_of (take k afterwards) < FORMAT_BLOCKS → RecoversTo udf other_capacity other_volume (held (take k afterwards)) state → ⊥
  pub new : (k : ℕ) → length before ≤ k → next_of (take k afterwards) ≡ FORMAT_BLOCKS → RecoversTo udf capacity words.volume (held (take k afterwards)) (formatted words.moment)

-- The format was finished: the blocks that were missing are written, and on an honest drive the new volume is recovered.
pub record IsFormatted (capacity : ℕ) (words : Words) (before afterwards : List Event) (honest : Bool) : Type 0 where
  pub blocks : List Block
  pub is : IsFormatOf words blocks
  pub short : next_of before ≤ FORMAT_BLOCKS
  pub journal : afterwards ≡ before ++ written (next_of before) (drop (next_of before) blocks)
  pub fronts : IsTrue honest → HoldsPrefixes capacity words blocks before afterwards
  pub holds : IsTrue honest → held afterwards ≡ blocks
  pub stands : IsTrue honest → RecoversTo udf capacity words.volume (held afterwards) (formatted words.moment)

-- The drive failed in a write: a prefix of the blocks that were missing is written, from none to all.
pub record IsFormatCutShort (capacity : ℕ) (words : Words) (before afterwards : List Event) (honest : Bool) : Type 0 where
  pub blocks : List Block
  pub is : IsFormatOf words blocks
  pub short : next_of before ≤ FORMAT_BLOCKS
  pub journal : AddsPrefix before (next_of before) (drop (next_of before) blocks) afterwards
  pub fronts : IsTrue honest → HoldsPrefixes capacity words blocks before afterwards

-- The writes that a call added, each once the one before it was whole: the journal goes on by the blocks of all, or by those of
-- all but the last and a prefix of the last. It added none, or nothing stood before, and whatever a power loss leaves of them
-- after what was there, nothing stands, whatever drive and volume it is read in, or the new volume does.
pub record FormatSurvivesPowerLoss (capacity : ℕ) (words : Words) (before : List Event) (writes : List (List Block)) (afterwards : List Event) (later : List (List Block)) (honest : Bool) : Type 0 where
  pub added : List (List Block)
  pub writes_are : later ≡ writes ++ added
  pub in_turn : (afterwards ≡ before ++ written (next_of before) (joined added)) ⊎ LastIsCut (next_of before) before added afterwards
  pub torn : (added ≡ []) ⊎ (IsTrue honest → RecoversToNothing udf (held before) × ((left : List Block) → IsLeft added left
      → RecoversToNothing udf (held (before ++ written (next_of before) left)) ⊎ RecoversTo udf capacity words.volume (held (before ++ written (next_of before) left)) (formatted words.moment)))

-- What each refusal leaves. Where the drive is honest, `NotBlank` says that it has other blocks than these words give.
abbrev pub IsFormatRefused : ℕ → Words → List Event → List Event → Bool → StoreFault → Type 0
IsFormatRefused capacity words before afterwards honest NotBlank = (afterwards ≡ before) × (IsTrue honest → IsFormatPrefix words (held before) → ⊥)
IsFormatRefused capacity words before afterwards honest Label = afterwards ≡ before
IsFormatRefused capacity words before afterwards honest Small = afterwards ≡ before
IsFormatRefused capacity words before afterwards honest Memory = afterwards ≡ before
IsFormatRefused capacity words before afterwards honest Device = (afterwards ≡ before) ⊎ IsFormatCutShort capacity words before afterwards honest
IsFormatRefused capacity words before afterwards honest NotFormatted = ⊥
IsFormatRefused capacity words before afterwards honest (Damaged block cause) = ⊥
IsFormatRefused capacity words before afterwards honest Full = ⊥
IsFormatRefused capacity words before afterwards honest Stopped = ⊥
IsFormatRefused capacity words before afterwards honest NoCommit = ⊥
IsFormatRefused capacity words before afterwards honest NotFound = ⊥
IsFormatRefused capacity words before afterwards honest IsDirectoryFault = ⊥
IsFormatRefused capacity words before afterwards honest NotDirectory = ⊥
IsFormatRefused capacity words before afterwards honest TooLong = ⊥
