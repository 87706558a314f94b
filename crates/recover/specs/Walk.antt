-- What the walk through the nodes of a tree sees, and what it keeps.
use Rattle.std.specs.Prelude.{◌≡◌, ℕ, ◌+◌, ◌<◌, ◌≤◌, ◌^◌, ◌*◌, ◌-◌, ◌==◌, nat_lt, if◌then◌else◌, min, Bool, IsTrue, List, [], ◌∷◌, Option, Some, None, IfSome, true, take, slice_get, All}
use Rattle.std.specs.Int.{div_ceil}
use Rattle.limits.specs.declared.TheConstants.{BLOCK_BYTES, FILE_BYTES, PARTITION_START, PARTITION_BLOCKS, PATH_NAMES}
use Rattle.drive.specs.Journal.{Event, held, next_of}
use Rattle.icb.specs.declared.entry.Kind.{Kind as IcbKind}
use Rattle.icb.specs.declared.entry.Kind.TheVariants as icb_kinds
use Rattle.icb.specs.Entry.{Fields, Place, IsEntry}
use Rattle.icb.specs.Extents.{next_number}
use Rattle.icb.specs.Entry.Place.{Nowhere, Extent as IcbExtent, Extents, Inside}
use Rattle.dir.specs.declared.entry.Dir.{Dir}
use Rattle.dir.specs.declared.entry.Entry.{Entry as DirEntry}
use Rattle.dir.specs.declared.entry.Kind.{Kind}
use Rattle.dir.specs.declared.entry.Kind.TheVariants.{File, Directory}
use Rattle.dir.specs.Directory.{is_directory, IsDirectory}
use Rattle.model.specs.Graph.{Graph, Stored, entries_of, is_directory as stored_is_directory}
use Rattle.durability.specs.Volume.{AreListed, descriptor_blocks, firsts_at, graph_of}
use Rattle.udf.specs.Said.{said_entries}
use Rattle.udf.specs.Udf.{IsBlock, udf}
use Rattle.recover.specs.declared.directory.Extent.{Extent}
use Rattle.recover.specs.declared.walk.Body.{Body}
use Rattle.recover.specs.declared.walk.Named.{Named}
use Rattle.recover.specs.declared.walk.Walk.{Walk}
use Rattle.recover.specs.Forest.{Forest, IsAssigned, IsSeen, IsWalked, AreAssigned, Adds, InsertsNumber, Numbers, by_address, by_identity, height, files_in, directories_in, entries_named}
use Rattle.recover.specs.Forest.Forest.{End, Seen}
use Rattle.recover.specs.IdSet.{marked}
use Rattle.recover.specs.Nodes.{data_of, links_of}

-- there are bytes, and they lie within the largest partition and below an address
pub record LiesBelow (at : ℕ) (extent : Extent) : Type 0 where
  pub some : 0 < extent.size
  pub first : extent.first ≤ PARTITION_BLOCKS
  pub below : extent.first + PARTITION_START + div_ceil extent.size BLOCK_BYTES ≤ at

abbrev pub icb_kind : Kind → IcbKind
icb_kind File = icb_kinds.File
icb_kind Directory = icb_kinds.Directory

-- the block number after its last block
abbrev pub end_of : Extent → ℕ
end_of extent = extent.first + div_ceil extent.size BLOCK_BYTES

-- an extent, or one before it that ends after it
abbrev pub later_of : Option Extent → Extent → Extent
later_of None extent = extent
later_of (Some last) extent = if nat_lt (end_of last) (end_of extent) then extent else last

-- the one that ends last, of one and those of so many bytes from these block numbers on, each but the last of FILE_BYTES
abbrev pub last_of : Option Extent → ℕ → List ℕ → Option Extent
last_of last size [] = last
last_of last size (first ∷ firsts) = last_of (Some (later_of last (record { first = first; size = min size FILE_BYTES }))) (size - FILE_BYTES) firsts

-- the extent of the descriptor blocks of a file of this size, if it has some
abbrev pub blocks_extent : ℕ → List ℕ → Option Extent
blocks_extent size descriptors = if descriptor_blocks size == 0 then None else Some (record { first = next_number descriptors; size = BLOCK_BYTES * descriptor_blocks size })

-- of these and of the file's extents, the one that ends last
abbrev pub last_listed : List (List ℕ) → ℕ → List ℕ → Option Extent
last_listed medium size descriptors = last_of (blocks_extent size descriptors) size (firsts_at udf medium size descriptors)

-- where the bytes of a node lie, if blocks hold them: of several extents and their descriptor blocks, the one that ends last
abbrev pub extent_in : List (List ℕ) → ℕ → Place → Option Extent
extent_in medium size Nowhere = None
extent_in medium size (IcbExtent first) = Some (record { first = first; size = size })
extent_in medium size (Extents descriptors) = last_listed medium size descriptors
extent_in medium size (Inside bytes) = None

-- the descriptor blocks of a node's entry, if it has some, are on the medium
abbrev pub HasDescriptors : List (List ℕ) → ℕ → Place → Type 0
HasDescriptors medium size Nowhere = Unit {0}
HasDescriptors medium size (IcbExtent first) = Unit {0}
HasDescriptors medium size (Extents descriptors) = AreListed udf medium size descriptors
HasDescriptors medium size (Inside bytes) = Unit {0}

-- the entry of a node is at this address, is what the directory above says, and says this
pub record HasFileEntry (medium : List (List ℕ)) (entry_at : ℕ) (node : Named) (body : Body) : Type 0 where
  pub block : List ℕ
  pub there : slice_get medium entry_at ≡ Some block
  pub fields : Fields
  pub is : IsEntry fields node.address block
  pub kind : fields.kind ≡ icb_kind node.kind
  pub unique : fields.unique ≡ node.unique
  pub links : fields.links ≡ body.links
  pub file : node.kind ≡ File → fields.links ≡ 1
  pub listed : HasDescriptors medium fields.size fields.place
  pub extent : body.extent ≡ extent_in medium fields.size fields.place

-- such an entry is there, and the bytes that it names lie below an address
abbrev pub HasEntry : List (List ℕ) → ℕ → ℕ → Named → Type 0
HasEntry medium at entry_at node = (body : Body) × HasFileEntry medium entry_at node body × IfSome body.extent (LiesBelow at)

-- It was read so if the drive is honest, and the bytes that it names lie below an address.
pub record IsBodyRead (honest : Bool) (medium : List (List ℕ)) (at entry_at : ℕ) (node : Named) (body : Body) : Type 0 where
  pub entry : IsTrue honest → HasFileEntry medium entry_at node body
  pub extent : IfSome body.extent (LiesBelow at)

-- these blocks are a directory's with this address above it, and with so many links
pub record HasListing (medium : List (List ℕ)) (above count : ℕ) (extent : Extent) (directory : Dir) : Type 0 where
  pub parent : directory.parent ≡ above
  pub links : count ≡ links_of directory.entries.entries
  pub are : All IsBlock (data_of medium extent)
  pub is : IsDirectory directory.parent directory.entries.entries extent.first extent.size (data_of medium extent)

-- an address of the partition that was written
pub record IsInPartition (journal : List Event) (at : ℕ) : Type 0 where
  pub low : PARTITION_START ≤ at
  pub within : at < next_of journal

-- the virtual address leads to this address
pub record LeadsTo (table : List (Option ℕ)) (address entry_at : ℕ) : Type 0 where
  pub number : ℕ
  pub used : slice_get table address ≡ Some (Some number)
  pub is : entry_at ≡ number + PARTITION_START

-- the virtual addresses that were reached, and the unique IDs that were seen
abbrev pub reached_in : Walk → Numbers
reached_in walk = marked walk.reached

abbrev pub uniques_in : Walk → Numbers
uniques_in walk = marked walk.uniques

-- what is stored under the virtual addresses of the walk
abbrev pub nodes_of : List Event → Walk → Graph
nodes_of journal walk = graph_of udf (take walk.at (held journal)) walk.entries.now

-- so many were counted, while the count is below its top
abbrev pub Tallied : ℕ → ℕ → ℕ → Type 0
Tallied before n after = (before ≤ after) × (after < 2 ^ 32 - 1 → after ≡ before + n) × (after ≤ before + n)

-- the walk goes on in the same table, with as many directories or more
pub record GoesOn (old new : Walk) : Type 0 where
  pub at : new.at ≡ old.at
  pub entries : new.entries.now ≡ old.entries.now
  pub next_unique : new.next_unique ≡ old.next_unique
  pub more : old.directories ≤ new.directories

-- nothing of the walk changes but which virtual addresses were reached
pub record OnlyReaches (old new : Walk) : Type 0 where
  pub at : new.at ≡ old.at
  pub entries : new.entries ≡ old.entries
  pub next_unique : new.next_unique ≡ old.next_unique
  pub uniques : new.uniques ≡ old.uniques
  pub files : new.files ≡ old.files
  pub directories : new.directories ≡ old.directories

-- nothing of the walk changes but which unique IDs were seen
pub record OnlySeesUniques (old new : Walk) : Type 0 where
  pub at : new.at ≡ old.at
  pub entries : new.entries ≡ old.entries
  pub next_unique : new.next_unique ≡ old.next_unique
  pub reached : new.reached ≡ old.reached
  pub files : new.files ≡ old.files
  pub directories : new.directories ≡ old.directories

-- nothing of the walk changes but what was seen of files
pub record OnlySeesFiles (old new : Walk) : Type 0 where
  pub at : new.at ≡ old.at
  pub entries : new.entries ≡ old.entries
  pub next_unique : new.next_unique ≡ old.next_unique
  pub directories : new.directories ≡ old.directories

-- the node has a unique ID that it may have and that no node had, and now it has been seen
pub record TakesUnique (old : Walk) (node : Named) (new : Walk) : Type 0 where
  pub drawn : IsAssigned old.next_unique node.address node.unique
  pub uniques : InsertsNumber (uniques_in old) node.unique (uniques_in new)

-- what the walk keeps of the nodes that it saw between two states, at a depth
pub record CountsWalk (before after : Walk) (depth : ℕ) (forest : Forest) : Type 0 where
  pub shallow : depth + height forest ≤ PATH_NAMES + 1
  pub drawn : AreAssigned before.next_unique forest
  pub reached : Adds by_address (reached_in before) forest (reached_in after)
  pub uniques : Adds by_identity (uniques_in before) forest (uniques_in after)
  pub files : Tallied before.files (files_in forest) after.files
  pub directories : Tallied before.directories (directories_in forest) after.directories

-- the node and all below it were seen
pub record Visits (graph : Graph) (before after : Walk) (node : Named) : Type 0 where
  pub stored : Stored
  pub below : Forest
  pub kind : stored_is_directory stored ≡ is_directory node.kind
  pub identity : stored.identity ≡ node.unique
  pub walked : IsWalked graph node.above (Seen [] node.address stored below End)
  pub counts : CountsWalk before after node.depth (Seen [] node.address stored below End)

-- a directory was entered, and the first of its nodes were seen
pub record Begun (graph : Graph) (before now : Walk) (node : Named) (entries : List (List ℕ × DirEntry)) (i : ℕ) : Type 0 where
  pub stored : Stored
  pub seen : IsSeen graph node.above node.address stored
  pub entries_are : entries_of stored ≡ said_entries entries
  pub is : stored_is_directory stored ≡ true
  pub identity : stored.identity ≡ node.unique
  pub below : Forest
  pub walked : IsWalked graph node.address below
  pub names : entries_named below ≡ said_entries (take i entries)
  pub counts : CountsWalk before now node.depth (Seen [] node.address stored below End)
