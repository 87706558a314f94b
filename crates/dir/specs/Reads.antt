-- What reading one identifier of the data reports.
use Rattle.std.specs.Prelude.{◌≡◌, ◌≢◌, ℕ, ◌+◌, ◌==◌, if◌then◌else◌, Bool, true, false, List, [], ◌∷◌, ◌≤◌, length, take, drop}
use Rattle.limits.specs.declared.TheConstants.{BLOCK_BYTES}
use Rattle.dir.specs.declared.fids.Fids.{Fids}
use Rattle.dir.specs.Identifier.{Identifier}
use Rattle.dir.specs.Split.{size_of, identifier_in, IsSplit, HasHead, IsPadded}

-- the first identifier is the parent's and says no more than an address, and no other is a parent's
abbrev pub IsInPlace : Bool → Identifier → Type 0
IsInPlace true x = (x.characteristics ≡ 0x0A) × (x.name ≡ []) × (x.unique ≡ 0)
IsInPlace false x = x.characteristics ≢ 0x0A

-- the first name is not too long
abbrev pub IsFirstNameShort : List Identifier → Type 0
IsFirstNameShort xs = (y : Identifier) (r : List Identifier) → xs ≡ y ∷ r → length y.name ≤ 255

-- the identifier at the beginning was read, and what is left has gone on after it
pub record ReadsIdentifier (is_first : Bool) (first : ℕ) (old new : Fids) (x : Identifier) : Type 0 where
  pub split : IsSplit old.at old.«data».now
  pub head : HasHead (first + old.index) (take (size_of old.«data».now) old.«data».now)
  pub says : x ≡ identifier_in (take (size_of old.«data».now) old.«data».now)
  pub place : IsInPlace is_first x
  pub padded : IsPadded old.at (take (size_of old.«data».now) old.«data».now) (drop (size_of old.«data».now) old.«data».now)
  pub rest : new.«data».now ≡ drop (size_of old.«data».now) old.«data».now
  pub at : new.at ≡ (if old.at + size_of old.«data».now == BLOCK_BYTES then 0 else old.at + size_of old.«data».now)
  pub index : new.index ≡ (if old.at + size_of old.«data».now == BLOCK_BYTES then old.index + 1 else old.index)
