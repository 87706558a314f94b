-- Descriptor blocks as they are read.
use Rattle.std.specs.Prelude.{◌≡◌, ℕ, ◌+◌, ◌*◌, ⊤, List, Option, Some, slice_get, take}
use Rattle.limits.specs.declared.TheConstants.{BLOCK_DESCRIPTORS, PARTITION_START}
use Rattle.icb.specs.Extents.{IsDescriptorBlock, descriptors_in, listed}
use Rattle.udf.specs.Udf.{all_firsts}
use Rattle.recover.specs.declared.directory.Extent.{Extent}
use Rattle.recover.specs.declared.fault.StoreFault.{StoreFault}
use Rattle.recover.specs.declared.fault.StoreFault.TheVariants.{Device, Damaged}
use Rattle.recover.specs.Walk.{last_of}

-- the block at this number has the descriptors of extents of so many bytes, and of these and of one before them this ends last
pub record EndsLast (medium : List (List ℕ)) (number size : ℕ) (last now : Option Extent) : Type 0 where
  pub block : List ℕ
  pub there : slice_get medium (number + PARTITION_START) ≡ Some block
  pub is : IsDescriptorBlock size number block
  pub ends : now ≡ last_of last size (all_firsts (take (16 * listed BLOCK_DESCRIPTORS size) (descriptors_in block)))

-- why none was read: the drive failed, or none is there
abbrev pub IsBlockRefused : List (List ℕ) → ℕ → ℕ → StoreFault → Type 0
IsBlockRefused medium number size Device = ⊤
IsBlockRefused medium number size (Damaged at cause) =
    (at ≡ number + PARTITION_START) × ((block : List ℕ) → slice_get medium at ≡ Some block → IsDescriptorBlock size number block → ⊥)
IsBlockRefused medium number size _ = ⊥
