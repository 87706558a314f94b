-- What was read of a medium, and is not read again.
use Rattle.std.specs.Prelude.{◌≡◌, ◌⊎◌, ◌+◌, ◌<◌, ◌≤◌, ◌==◌, ◌&&◌, ℕ, ⊤, Bool, IsTrue, List, take, Some, None, IfSome, get_or, slice_get, All}
use Rattle.std.specs.HashMap.{get}
use Rattle.limits.specs.declared.TheConstants.{PARTITION_START}
use Rattle.drive.specs.Journal.{held}
use Rattle.drive.specs.Reads.{ReadsOnly}
use Rattle.drive.specs.declared.Drive.{Ghosts}
use Rattle.durability.specs.Volume.{AreListed, descriptor_blocks}
use Rattle.icb.specs.Entry.{Fields, IsEntry, Place}
use Rattle.icb.specs.Entry.Place.{Nowhere, Extent as IcbExtent, Extents, Inside}
use Rattle.icb.specs.Extents.{next_number}
use Rattle.dir.specs.Directory.{IsDirectory}
use Rattle.udf.specs.Udf.{IsBlock, udf}
use Rattle.volume.specs.Front.{IsFront}
use Rattle.recover.specs.declared.directory.Extent.{Extent}
use Rattle.recover.specs.declared.fault.StoreFault.{StoreFault}
use Rattle.recover.specs.declared.fault.StoreFault.TheVariants.{Device, Damaged}
use Rattle.recover.specs.declared.read_cache.ReadCache.{ReadCache}
use Rattle.recover.specs.declared.kept.Directories.{Directories}
use Rattle.recover.specs.declared.kept.Entries.{Entries}
use Rattle.recover.specs.declared.kept.EntryPlace.{EntryPlace}
use Rattle.recover.specs.declared.kept.Names.{Names}
use Rattle.recover.specs.declared.kept.NodeEntry.{NodeEntry}
use Rattle.recover.specs.Nodes.{data_of}
use Rattle.recover.specs.Seen.{AreSeen}
use Rattle.recover.specs.Walk.{HasDescriptors, extent_in}

-- the entry there is that of the node with this virtual address, and says this
pub record IsEntrySaid (medium : List (List ℕ)) (place : EntryPlace) (entry : NodeEntry) : Type 0 where
  pub block : List ℕ
  pub there : slice_get medium place.at ≡ Some block
  pub fields : Fields
  pub is : IsEntry fields place.address block
  pub kind : entry.kind ≡ fields.kind
  pub unique : entry.unique ≡ fields.unique
  pub links : entry.links ≡ fields.links
  pub listed : HasDescriptors medium fields.size fields.place
  pub extent : entry.extent ≡ extent_in medium fields.size fields.place

-- an address among those of the descriptor blocks to which an entry's place leads
abbrev pub IsAmongDescriptors : ℕ → ℕ → Place → Type 0
IsAmongDescriptors at size Nowhere = ⊥
IsAmongDescriptors at size (IcbExtent first) = ⊥
IsAmongDescriptors at size (Extents descriptors) = (next_number descriptors + PARTITION_START ≤ at) × (at < next_number descriptors + PARTITION_START + descriptor_blocks size)
IsAmongDescriptors at size (Inside bytes) = ⊥

-- the damage is at the entry, or in one of its descriptor blocks
abbrev pub IsDamageAt : List (List ℕ) → EntryPlace → ℕ → Type 0
IsDamageAt medium place at =
    (at ≡ place.at) ⊎ ((block : List ℕ) × (fields : Fields) × (slice_get medium place.at ≡ Some block) × IsEntry fields place.address block × IsAmongDescriptors at fields.size fields.place)

-- why the descriptor blocks of an entry were not read: the drive failed, or they are not all below an address
abbrev pub IsUnlisted : List (List ℕ) → ℕ → ℕ → ℕ → List ℕ → StoreFault → Type 0
IsUnlisted medium below entry_at size descriptors Device = ⊤
IsUnlisted medium below entry_at size descriptors (Damaged at cause) =
    ((at ≡ entry_at) ⊎ IsAmongDescriptors at size (Extents descriptors)) × (AreListed udf (take below medium) size descriptors → ⊥)
IsUnlisted medium below entry_at size descriptors _ = ⊥

-- the same of the place of any node
abbrev pub IsUnplaced : List (List ℕ) → ℕ → ℕ → ℕ → Place → StoreFault → Type 0
IsUnplaced medium below entry_at size Nowhere fault = ⊥
IsUnplaced medium below entry_at size (IcbExtent first) fault = ⊥
IsUnplaced medium below entry_at size (Extents descriptors) fault = IsUnlisted medium below entry_at size descriptors fault
IsUnplaced medium below entry_at size (Inside bytes) fault = ⊥

-- why no entry was read: the drive failed, or none of that node is there whose descriptor blocks are below an address
abbrev pub IsUnsaid : List (List ℕ) → ℕ → EntryPlace → StoreFault → Type 0
IsUnsaid medium below place Device = ⊤
IsUnsaid medium below place (Damaged at cause) =
    IsDamageAt medium place at
    × ((block : List ℕ) (fields : Fields) → slice_get medium place.at ≡ Some block → IsEntry fields place.address block → HasDescriptors (take below medium) fields.size fields.place → ⊥)
IsUnsaid medium below place _ = ⊥

-- the blocks of this extent hold the directory, and each of its files that is kept is where it was found
pub record IsCachedListing (medium : List (List ℕ)) (extent : Extent) (names : Names) : Type 0 where
  pub are : All IsBlock (data_of medium extent)
  pub is : IsDirectory names.dir.parent names.dir.entries.entries extent.first extent.size (data_of medium extent)
  pub seen : AreSeen medium names.dir.entries.entries names.files

-- each entry that is kept for a virtual address is what the medium has there
abbrev pub AreCachedEntries : List (List ℕ) → Entries → Type 0
AreCachedEntries medium entries = (address : ℕ) → IfSome (get_or entries.kept.items address None) (λ k. IsEntrySaid medium (record { at = k.at; address = address }) k.entry)

-- as extents are compared
abbrev pub same_extent : Extent → Extent → Bool
same_extent x y = (x.first == y.first) && (x.size == y.size)

-- each directory that is kept is what the medium has there
abbrev pub AreCachedDirectories : List (List ℕ) → Directories → Type 0
AreCachedDirectories medium directories = (extent : Extent) → IfSome (get same_extent directories.kept extent) (IsCachedListing medium extent)

-- and so is the volume header
pub record IsKnown (medium : List (List ℕ)) (known : ReadCache) : Type 0 where
  pub front : IfSome known.front (λ f. IsFront f.label f.moment f.capacity (take PARTITION_START medium))
  pub entries : AreCachedEntries medium known.entries
  pub before : AreCachedDirectories medium known.before
  pub met : AreCachedDirectories medium known.met

-- the drive was only read, and what is known afterwards is right, whatever was found
pub record ReadsAndKnows {D : Type 0} (drive : Ghosts D) (failed : ℕ) (old new : D) (cache : ReadCache) : Type 0 where
  pub reads : ReadsOnly drive failed old new
  pub known : IsTrue (drive.honest new) → IsKnown (held (drive.journal new)) cache
