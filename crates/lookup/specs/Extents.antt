-- Extents that are full, by their allocation descriptors.
use Rattle.std.specs.Prelude.{◌≡◌, ℕ, ◌*◌, ◌/◌, ◌≤◌, List, length}
use Rattle.limits.specs.declared.TheConstants.{EXTENTS, FILE_BYTES}
use Rattle.icb.specs.Extents.{AreExtents}

-- how many bytes are in the extents of these descriptors, if all are full
abbrev pub full_size : List ℕ → ℕ
full_size descriptors = FILE_BYTES * (length descriptors / 16)

-- these are the descriptors of so many extents, each of which is full
pub record AreFull (descriptors : List ℕ) : Type 0 where
  pub long : length descriptors ≡ 16 * (length descriptors / 16)
  pub few : length descriptors / 16 ≤ EXTENTS
  pub are : AreExtents 0 (full_size descriptors) descriptors
