-- Blocks that go out in writes, each synced before the next begins, and what a power loss leaves of them where a disk keeps the blocks of a write that is not yet synced in any order.
use Rattle.std.specs.Prelude.{◌≡◌, ◌⊎◌, ℕ, suc, ◌+◌, ◌<◌, ◌≤◌, Bool, true, false, if◌then◌else◌, List, [], ◌∷◌, ◌++◌, length, replicate, slice_get, Some}
use Rattle.std.specs.List.{flat_map}
use Rattle.drive.specs.Journal.{Event, AddsPrefix, written}
use Rattle.limits.specs.declared.TheConstants.{BLOCK_BYTES}

-- what is read where a block did not reach the medium and one after it did
abbrev pub unwritten : List ℕ
unwritten = replicate BLOCK_BYTES 0

-- the blocks of all writes
abbrev pub joined : List (List (List ℕ)) → List (List ℕ)
joined writes = flat_map (λ write. write) writes

-- the writes have these blocks, and after them all the last block, which goes out alone
pub record LastIsAlone (blocks : List (List ℕ)) (last : List ℕ) (writes : List (List (List ℕ))) : Type 0 where
  pub before : List (List (List ℕ))
  pub order : joined before ≡ blocks
  pub writes_are : writes ≡ before ++ (last ∷ []) ∷ []

-- The journal has all blocks of these writes but those of the last, from this address on, and then a prefix of the last.
pub record LastIsCut (at : ℕ) (journal : List Event) (writes : List (List (List ℕ))) (journal' : List Event) : Type 0 where
  pub earlier : List (List (List ℕ))
  pub last : List (List ℕ)
  pub order : writes ≡ earlier ++ last ∷ []
  pub front : AddsPrefix (journal ++ written at (joined earlier)) (at + length (joined earlier)) last journal'

-- Each of these writes was made once the one before it had added all its blocks, and none after one that failed. Where none failed, the journal has the blocks of all, from this address on.
pub record WritesInTurn (at : ℕ) (failed : Bool) (journal : List Event) (writes : List (List (List ℕ))) (journal' : List Event) : Type 0 where
  pub all : failed ≡ false → journal' ≡ journal ++ written at (joined writes)
  pub cut : failed ≡ true → LastIsCut at journal writes journal'

-- A run of blocks was given to writes, in order: all of them, or, where a write failed, those up to the last one that it was given.
pub record SplitsRun (at : ℕ) (blocks : List (List ℕ)) (failed : Bool) (journal : List Event) (writes : List (List (List ℕ))) (journal' : List Event) (writes' : List (List (List ℕ))) : Type 0 where
  pub added : List (List (List ℕ))
  pub rest : List (List ℕ)
  pub writes_are : writes' ≡ writes ++ added
  pub order : joined added ++ rest ≡ blocks
  pub whole : failed ≡ false → rest ≡ []
  pub in_turn : WritesInTurn at failed journal added journal'

-- A torn image of a write: as many blocks or fewer, at each place the one that was written or one of zeros.
pub record IsTorn (write left : List (List ℕ)) : Type 0 where
  pub short : length left ≤ length write
  pub each : (i : ℕ) → i < length left → (slice_get left i ≡ slice_get write i) ⊎ (slice_get left i ≡ Some unwritten)

-- What is left of writes: a torn image of the first and nothing of the others, or the first whole and then what is left of the others.
abbrev pub IsLeft : List (List (List ℕ)) → List (List ℕ) → Type 0
IsLeft [] left = left ≡ []
IsLeft (write ∷ writes) left = IsTorn write left ⊎ ((rest : List (List ℕ)) × (left ≡ write ++ rest) × IsLeft writes rest)

-- the blocks that are kept, zeros in place of the others
abbrev pub torn_by : (ℕ → Bool) → List (List ℕ) → List (List ℕ)
torn_by keep [] = []
torn_by keep (block ∷ blocks) = (if keep 0 then block else unwritten) ∷ torn_by (λ i. keep (suc i)) blocks
