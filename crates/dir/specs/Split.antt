-- How the data of a directory splits into identifiers, by their lengths alone.
use Rattle.std.specs.Prelude.{◌≡◌, ◌⊎◌, ℕ, ◌+◌, ◌-◌, ◌%◌, ◌^◌, ◌<◌, ◌≤◌, ◌==◌, if◌then◌else◌, IsTrue, false, Option, MatchOption, List, length, take, drop, replicate, slice_index}
use Rattle.limits.specs.declared.TheConstants.{BLOCK_BYTES}
use Rattle.ecma.specs.Field.{IsAt}
use Rattle.ecma.specs.Numbers.{u16_at, u32_at}
use Rattle.ecma.specs.Tag.{Sealed}
use Rattle.dir.specs.declared.fids.Fid.{Fid}
use Rattle.dir.specs.declared.fids.Fids.{Fids}
use Rattle.dir.specs.Identifier.{Identifier, rounded, plain_size, use_of, head_of}
use Rattle.dir.specs.Kinds.{IsKind}
use Rattle.dir.specs.Layout.{fits}

abbrev pub AreBytes : List ℕ → Type 0
AreBytes bytes = (i : ℕ) → slice_index bytes i < 256

-- the bytes of the name and of the implementation use of the identifier at the beginning
abbrev pub name_size : List ℕ → ℕ
name_size bytes = slice_index bytes 19

abbrev pub use_size : List ℕ → ℕ
use_size bytes = u16_at 36 bytes

-- the bytes of the identifier at the beginning
abbrev pub size_of : List ℕ → ℕ
size_of bytes = rounded (38 + use_size bytes + name_size bytes)

-- an identifier is at the beginning of bytes that begin at a place of a block: within the bytes, and within the block
pub record IsSplit (at : ℕ) (bytes : List ℕ) : Type 0 where
  pub long : 38 ≤ length bytes
  pub whole : size_of bytes ≤ length bytes
  pub within : IsTrue (fits (size_of bytes) (BLOCK_BYTES - at))

-- the slices are those of the identifier at the beginning
pub record ShowsSlices (fid : Fid) (bytes : List ℕ) : Type 0 where
  pub bytes_are : fid.bytes.now ≡ take (size_of bytes) bytes
  pub icb : fid.icb.now ≡ take 16 (drop 20 bytes)
  pub implementation_use : fid.implementation_use.now ≡ take (use_size bytes) (drop 38 bytes)
  pub name : fid.name.now ≡ take (name_size bytes) (drop (38 + use_size bytes) bytes)

-- the slices are those of a whole identifier
pub record IsWholeIdentifier (fid : Fid) : Type 0 where
  pub long : 38 ≤ length fid.bytes.now
  pub shown : ShowsSlices fid fid.bytes.now
  pub size : size_of fid.bytes.now ≡ length fid.bytes.now

-- what the bytes of a whole identifier say
abbrev pub identifier_in : List ℕ → Identifier
identifier_in bytes = record {
  name = take (name_size bytes) (drop (38 + use_size bytes) bytes);
  characteristics = slice_index bytes 18;
  icb = u32_at 24 bytes;
  unique = u32_at 32 bytes;
}

-- the fields are those of an identifier that says what the bytes say
abbrev pub HasIdentifierFields : List ℕ → Type 0
HasIdentifierFields bytes = IsAt 16 (head_of (slice_index bytes 18) (name_size bytes) (u32_at 24 bytes) (u32_at 32 bytes) (use_size bytes)) bytes

-- the fields that say the same in each identifier, and the tag
pub record HasHead (number : ℕ) (bytes : List ℕ) : Type 0 where
  pub «sealed» : Sealed 257 number bytes
  pub kind : IsKind (slice_index bytes 18)
  pub fields : HasIdentifierFields bytes

-- an implementation use lengthens the identifier at a place to its block's end, since what comes after it was not
-- put into the block
pub record IsLengthened (at : ℕ) (bytes after : List ℕ) : Type 0 where
  pub some : 32 ≤ use_size bytes
  pub whole : use_size bytes % 4 ≡ 0
  pub full : at + length bytes ≡ BLOCK_BYTES
  pub next : 38 ≤ length after
  pub left : fits (plain_size (name_size after)) (use_size bytes) ≡ false

-- the implementation use is one that lengthens by as many bytes
abbrev pub IsUse : List ℕ → Type 0
IsUse bytes = take (use_size bytes) (drop 38 bytes) ≡ use_of (use_size bytes)

-- after the name there are zeros
abbrev pub HasZeros : List ℕ → Type 0
HasZeros bytes =
    drop (38 + use_size bytes + name_size bytes) bytes ≡ replicate (length bytes - (38 + use_size bytes + name_size bytes)) 0

-- implementation use and padding are those of the layout
pub record IsPadded (at : ℕ) (bytes after : List ℕ) : Type 0 where
  pub filled : IsUse bytes
  pub padding : HasZeros bytes
  pub lengthened : (use_size bytes ≡ 0) ⊎ IsLengthened at bytes after

-- what an identifier can say
pub record FitsIdentifier (x : Identifier) : Type 0 where
  pub name : length x.name ≤ 255
  pub kind : IsKind x.characteristics
  pub icb : x.icb < 2 ^ 32
  pub unique : x.unique < 2 ^ 32

-- one call of the iterator: none where no identifier is at the beginning within the data and its block; else its slices,
-- and what is left begins right after it
abbrev pub GivesNext : Fids → Option Fid → Fids → Type 0
GivesNext old given new = MatchOption given (¬ IsSplit old.at old.«data».now × (new ≡ old)) (λ fid.
    IsSplit old.at old.«data».now × ShowsSlices fid old.«data».now × (new.«data».now ≡ drop (size_of old.«data».now) old.«data».now)
    × (new.at ≡ (if old.at + size_of old.«data».now == BLOCK_BYTES then 0 else old.at + size_of old.«data».now)))
