-- The directories that are kept: each is the one whose entry is there, and that lies where the entry says.
use Rattle.std.specs.Prelude.{◌≡◌, ℕ, ◌+◌, ◌≤◌, List, Contains, Some, slice_get}
use Rattle.std.specs.Int.{div_ceil}
use Rattle.limits.specs.declared.TheConstants.{BLOCK_BYTES, PARTITION_START}
use Rattle.drive.specs.Journal.{Event, held, next_of}
use Rattle.icb.specs.Entry as icb
use Rattle.dir.specs.Directory.{IsDirectory}
use Rattle.recover.specs.declared.directory.Extent.{Extent}
use Rattle.recover.specs.Nodes.{data_of}
use Rattle.lookup.specs.declared.content.Content.{Content}
use Rattle.lookup.specs.declared.cache.DirectoryCache.{DirectoryCache}
use Rattle.lookup.specs.declared.nodes.EntryAt.{EntryAt}
use Rattle.lookup.specs.declared.nodes.Placed.{Placed}

-- the block is the entry of this virtual address, and says that the data lie in this extent and that this is the moment
pub record SaysPlace (address : ℕ) (extent : Extent) (moment : ℕ) (block : List ℕ) : Type 0 where
  pub fields : icb.Fields
  pub is : icb.IsEntry fields address block
  pub place : fields.place ≡ icb.Place.Extent extent.first
  pub size : fields.size ≡ extent.size
  pub time : fields.moment ≡ moment

-- a journal holds such an entry there
pub record IsEntryThere (journal : List Event) (placed : Placed) : Type 0 where
  pub block : List ℕ
  pub there : slice_get (held journal) (placed.at.number + PARTITION_START) ≡ Some block
  pub says : SaysPlace placed.at.address placed.extent placed.moment block

-- the entry is there on what a journal holds, and the directory lies where it says
pub record LiesThere (journal : List Event) (placed : Placed) (content : Content) : Type 0 where
  pub entry : IsEntryThere journal placed
  pub within : placed.extent.first + PARTITION_START + div_ceil placed.extent.size BLOCK_BYTES ≤ next_of journal
  pub is : IsDirectory content.dir.parent content.dir.entries.entries placed.extent.first placed.extent.size (data_of (held journal) placed.extent)

abbrev pub AreKept : List Event → DirectoryCache → Type 0
AreKept journal directories = (at : EntryAt) (kept : Placed × Content) → Contains directories.cache.entries (at, kept) → (kept.0.at ≡ at) × LiesThere journal kept.0 kept.1
