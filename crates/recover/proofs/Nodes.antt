-- What the entry of a node says of the place of its bytes.
use Rattle.std.proofs.Common.{ℕ, ◌+◌, ◌<◌, ◌≤◌, List, Option, Some, None, arith}
use Rattle.std.specs.Prelude.{IfSome}
use Rattle.std.specs.Int.{div_ceil}
use Rattle.limits.specs.declared.TheConstants.{BLOCK_BYTES, PARTITION_BLOCKS, PARTITION_START}
use Rattle.icb.specs.declared.entry.Kind.{Kind}
use Rattle.icb.specs.Entry.{FitsPlace, Place}
use Rattle.icb.specs.Entry.Place.{Nowhere, Extent as IcbExtent, Extents, Inside}
use Rattle.recover.specs.declared.directory.Extent.{Extent}
use Rattle.durability.specs.Volume.{firsts_at}
use Rattle.udf.specs.Udf.{udf}
use Rattle.recover.specs.Walk.{HasDescriptors, LiesBelow, blocks_extent, extent_in}
use Rattle.recover.proofs.LastExtent.{FitsExtent, last_keeps}
use Rattle.recover.proofs.Listed.{blocks_fit, firsts_fit}

module _ (M : List (List ℕ)) where
  -- it is not empty, and lies within the largest partition
  pub extent_fits : (kind : Kind) (size : ℕ) (place : Place) → FitsPlace kind size place → HasDescriptors M size place → IfSome (extent_in M size place) (λ (e : Extent). (0 < e.size) × (e.first ≤ PARTITION_BLOCKS))
  extent_fits kind size Nowhere fits listed = tt
  extent_fits kind size (IcbExtent first) fits listed = (fits.0, (let f = fits in omega arith))
  extent_fits kind size (Extents descriptors) fits listed =
      last_keeps FitsExtent (blocks_extent size descriptors) size (firsts_at udf M size descriptors) (blocks_fit size descriptors fits.2 fits.3) (firsts_fit size descriptors fits.2 fits.3 M listed)
  extent_fits kind size (Inside bytes) fits listed = tt

pub extent_lies : (at : ℕ) (o : Option Extent) → IfSome o (λ (e : Extent). (0 < e.size) × (e.first ≤ PARTITION_BLOCKS)) → IfSome o (λ (e : Extent). e.first + PARTITION_START + div_ceil e.size BLOCK_BYTES ≤ at) → IfSome o (LiesBelow at)
extent_lies at None fits below = tt
extent_lies at (Some e) fits below = record { some = fits.0; first = fits.1; below = below }

pub extent_below : (M : List (List ℕ)) (kind : Kind) (size at : ℕ) (place : Place) → FitsPlace kind size place → HasDescriptors M size place
    → IfSome (extent_in M size place) (λ (e : Extent). e.first + PARTITION_START + div_ceil e.size BLOCK_BYTES ≤ at) → IfSome (extent_in M size place) (LiesBelow at)
extent_below M kind size at place fits listed below = extent_lies at (extent_in M size place) (extent_fits M kind size place fits listed) below
