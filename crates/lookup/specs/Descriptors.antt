-- Descriptor blocks as they are read.
use Rattle.std.specs.Prelude.{◌≡◌, ℕ, ◌+◌, ◌*◌, ◌++◌, IsTrue, List, Some, slice_get, take}
use Rattle.limits.specs.declared.TheConstants.{BLOCK_DESCRIPTORS, PARTITION_START}
use Rattle.drive.specs.declared.Drive.{Ghosts}
use Rattle.icb.specs.Extents.{IsDescriptorBlock, descriptors_in, listed}
use Rattle.lookup.specs.Lookups.{below_seen}
use Rattle.lookup.specs.declared.lookup.Lookup.{Lookup}

-- the block at this number has the descriptors of extents of so many bytes
pub record HasDescriptorBlock (medium : List (List ℕ)) (number size : ℕ) : Type 0 where
  pub block : List ℕ
  pub there : slice_get medium (number + PARTITION_START) ≡ Some block
  pub is : IsDescriptorBlock size number block

-- a block was read that has them, and those that are extents' were added
pub record AddsDescriptors {D : Type 0} (drive : Ghosts D) (old new : Lookup D drive) (number size : ℕ) (before after : List ℕ) : Type 0 where
  pub block : List ℕ
  pub there : IsTrue (drive.honest new.drive.now) → slice_get (below_seen drive old) (number + PARTITION_START) ≡ Some block
  pub is : IsDescriptorBlock size number block
  pub items : after ≡ before ++ take (16 * listed BLOCK_DESCRIPTORS size) (descriptors_in block)
