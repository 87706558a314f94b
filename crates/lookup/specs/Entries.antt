-- What a look-up reads where the entries of nodes stand.
use Rattle.std.specs.Prelude.{◌≡◌, ℕ, ◌+◌, ◌<◌, ◌≤◌, List, IsTrue, Some, length, slice_get}
use Rattle.std.specs.Int.{div_ceil}
use Rattle.limits.specs.declared.TheConstants.{BLOCK_BYTES, PARTITION_BLOCKS, PARTITION_START}
use Rattle.drive.specs.Journal.{AreWhole, Event, Once, held}
use Rattle.drive.specs.declared.Drive.{Ghosts}
use Rattle.model.specs.Graph.{Stored}
use Rattle.model.specs.Graph.Body.{Bytes}
use Rattle.recover.specs.Below.{IsUsed}
use Rattle.lookup.specs.Cache.{IsEntryThere}
use Rattle.lookup.specs.Lookups.{graph_seen}
use Rattle.lookup.specs.declared.lookup.Lookup.{Lookup}
use Rattle.lookup.specs.declared.nodes.EntryAt.{EntryAt}
use Rattle.lookup.specs.declared.nodes.Placed.{Placed}

-- the block with this number in the partition, and its address
pub record IsBlockThere {D : Type 0} (drive : Ghosts D) (old new : Lookup D drive) (number : ℕ) (read : List ℕ × ℕ) : Type 0 where
  pub address : read.1 ≡ number + PARTITION_START
  pub block : IsTrue (drive.honest new.drive.now) → slice_get (held (drive.journal old.drive.now)) (number + PARTITION_START) ≡ Some read.0
  pub whole : AreWhole (drive.journal old.drive.now)

-- the block and its address from which what is stored at a virtual address is read
pub record IsEntryBlock {D : Type 0} (drive : Ghosts D) (old new : Lookup D drive) (address : ℕ) (read : List ℕ × ℕ) : Type 0 where
  pub block : IsTrue (drive.honest new.drive.now) → (s : Stored) (there : graph_seen drive old address s) → (there.block ≡ read.0) × (read.1 ≡ there.number + PARTITION_START)
  pub used : IsUsed address old.nodes.numbers.now
  pub whole : AreWhole (drive.journal old.drive.now)

-- what the entry of a directory that stands there says, whose data lie below the table
pub record IsPlacedThere {D : Type 0} (drive : Ghosts D) (old new : Lookup D drive) (at : EntryAt) (placed : Placed) : Type 0 where
  pub at_is : placed.at ≡ at
  pub entry : IsTrue (drive.honest new.drive.now) → IsEntryThere (drive.journal old.drive.now) placed
  pub some : 0 < placed.extent.size
  pub first : placed.extent.first ≤ PARTITION_BLOCKS
  pub below : placed.extent.first + PARTITION_START + div_ceil placed.extent.size BLOCK_BYTES ≤ old.nodes.vat_icb_address

-- the moment of what is stored, and of a file its size
pub record IsMomentAndSize (journal : List Event) (s : Stored) (read : ℕ × ℕ) : Type 0 where
  pub moment : read.0 ≡ s.moment
  pub size : Once journal → (bytes : List ℕ) → s.body ≡ Bytes bytes → read.1 ≡ length bytes
