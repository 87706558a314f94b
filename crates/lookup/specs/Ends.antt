-- Where a file ends, for bytes that are appended to it.
use Rattle.std.specs.Prelude.{◌≡◌, false, ℕ, ◌%◌, ◌<◌, ◌≤◌, List, length, Option}
use Rattle.limits.specs.declared.TheConstants.{FILE_BYTES, GREATEST_FILE}
use Rattle.model.specs.Graph.{Stored, is_directory}
use Rattle.durability.specs.Formats.{NodeFields}
use Rattle.durability.specs.Plan.{firsts_of}
use Rattle.durability.specs.Volume.{AreWithin, IsStoredAt, Medium, bytes_in_extents}
use Rattle.udf.specs.Udf.{all_firsts, udf}
use Rattle.lookup.specs.Extents.{full_size}
use Rattle.lookup.specs.declared.end.FileEnd.{FileEnd}

-- if the file's bytes fill its extents, these are known
pub record KnowsExtents (end : FileEnd) : Type 0 where
  pub limit : end.size ≤ GREATEST_FILE
  pub full : end.size % FILE_BYTES ≡ 0 → full_size end.extents ≡ end.size

-- the file has so many bytes; if they fill its extents, these hold them
pub record EndsFile (medium : List (List ℕ)) (whole : List ℕ) (end : FileEnd) : Type 0 where
  pub size : end.size ≡ length whole
  pub within : end.size % FILE_BYTES ≡ 0 → AreWithin medium end.size (all_firsts end.extents)
  pub bytes : end.size % FILE_BYTES ≡ 0 → whole ≡ bytes_in_extents medium end.size (all_firsts end.extents)

-- The file is as long as its entry says. If its bytes fill its extents, these lie where it says.
pub record EndsAsPlaced (medium : Medium) (fields : NodeFields) (end : FileEnd) : Type 0 where
  pub size : end.size ≡ fields.size
  pub firsts : 0 < end.size → end.size % FILE_BYTES ≡ 0 → all_firsts end.extents ≡ firsts_of udf medium fields.size fields.place

-- so does the file under a virtual address
abbrev pub EndsAsStored : Medium → List (Option ℕ) → ℕ → FileEnd → Type 0
EndsAsStored medium table address end = (s : Stored) → (there : IsStoredAt udf medium table address s) → is_directory s ≡ false → EndsAsPlaced medium there.fields end
