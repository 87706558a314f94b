-- Bytes after the last whole block of an image: whether they begin the next block of a format.
use Rattle.std.specs.Prelude.{◌≡◌, ◌⊎◌, ℕ, ◌<◌, ◌++◌, IsSome, List, [], length, slice_index_or, Option, Some}
use Rattle.limits.specs.declared.TheConstants.{BLOCK_BYTES, LEAST_CAPACITY}
use Rattle.drive.specs.Journal.{Event, next_of}
use Rattle.osta.specs.FirstFault.{first_text_fault}
use Rattle.osta.specs.Label.{label_faults}
use Rattle.recover.specs.declared.fault.StoreFault.{StoreFault}
use Rattle.recover.specs.declared.fault.StoreFault.TheVariants as stores
use Rattle.formatting.specs.NewVolume.{Words, words_on, IsFormatOf}

-- the bytes are a beginning of the block at this address in these blocks
abbrev pub BeginsIn : List (List ℕ) → ℕ → List ℕ → Type 0
BeginsIn blocks at part = (at < length blocks) × ((rest : List ℕ) × (slice_index_or blocks at [] ≡ part ++ rest))

-- the bytes begin the block at this address of a format with these words
abbrev pub Begins : Words → ℕ → List ℕ → Type 0
Begins words at part = (blocks : List (List ℕ)) × IsFormatOf words blocks × BeginsIn blocks at part

-- they begin no block of it there
abbrev pub BeginsNot : Words → ℕ → List ℕ → Type 0
BeginsNot words at part = (blocks : List (List ℕ)) × IsFormatOf words blocks × (BeginsIn blocks at part → ⊥)

-- why bytes are refused as a beginning of a block: they are none of the format there, or there is no such format, or no memory for it
abbrev pub IsNoPart : ℕ → List ℕ → ℕ → ℕ → List ℕ → StoreFault → Type 0
IsNoPart capacity label moment at part fault =
    ((fault ≡ stores.NotBlank) × BeginsNot (words_on capacity label moment) at part)
    ⊎ (((fault ≡ stores.Label) × IsSome (first_text_fault (label_faults label)))
    ⊎ (((fault ≡ stores.Small) × (capacity < LEAST_CAPACITY))
    ⊎ (fault ≡ stores.Memory)))

-- why these bytes, which are left after the last whole block of an image, are refused: the drive failed, or they begin no next block of the format
abbrev pub IsPartUnbegun : ℕ → List ℕ → ℕ → List Event → List ℕ → StoreFault → Type 0
IsPartUnbegun capacity label moment journal part fault =
    (fault ≡ stores.Device)
    ⊎ ((0 < length part) × IsNoPart capacity label moment (next_of journal) part fault)

-- these bytes, which are left after the last whole block of an image, are none, or begin the next block of a format with these words
abbrev pub IsPartBegun : ℕ → List ℕ → ℕ → List Event → List ℕ → Type 0
IsPartBegun capacity label moment journal part = (part ≡ []) ⊎ Begins (words_on capacity label moment) (next_of journal) part

-- What a look found after the last whole block of an image was refused, or it could not be had.
abbrev pub IsUnbegun : ℕ → List ℕ → ℕ → List Event → Option (List ℕ) → StoreFault → Type 0
IsUnbegun capacity label moment journal look fault =
    (fault ≡ stores.Device)
    ⊎ ((part : List ℕ) × (look ≡ Some part) × (0 < length part) × (length part < BLOCK_BYTES) × IsNoPart capacity label moment (next_of journal) part fault)

-- A look found nothing after the last whole block of an image, or bytes that begin the next block of a format with these words.
abbrev pub IsBegun : ℕ → List ℕ → ℕ → List Event → Option (List ℕ) → Type 0
IsBegun capacity label moment journal look = (part : List ℕ) × (look ≡ Some part) × (length part < BLOCK_BYTES) × IsPartBegun capacity label moment journal part
