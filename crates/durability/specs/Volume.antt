-- Which state a medium recovers to, and which states it recovered to before.
use Rattle.std.specs.Prelude.{◌≡◌, ℕ, zero, suc, ◌+◌, ◌*◌, ◌-◌, ◌<◌, ◌≤◌, min, List, [], ◌∷◌, ◌++◌, length, take, drop, slice_get, Option, Some}
use Rattle.std.specs.List.{flat_map}
use Rattle.std.specs.Int.{div_ceil}
use Rattle.limits.specs.declared.TheConstants.{BLOCK_BYTES, FILE_BYTES, ENTRY_DESCRIPTORS, BLOCK_DESCRIPTORS, PARTITION_START, FORMAT_BLOCKS, FIRST_UNIQUE}
use Rattle.model.specs.Tree.{IsTree, files_of, directories_of}
use Rattle.model.specs.Session.{State}
use Rattle.model.specs.Graph.{Graph, Stored, Body, Entry, MakesTree}
use Rattle.model.specs.Graph.Body.{Bytes, Entries}
use Rattle.model.specs.Identities.{HasIdentities}
use Rattle.durability.specs.Formats.{Block, NodePlace, NodeFields, Table_, Formats}
use Rattle.durability.specs.Formats.Kind.{Directory, File, Table}
use Rattle.durability.specs.Formats.NodePlace.{Nowhere, Extent, Extents, Inside}

-- a medium: its blocks from address 0 on
abbrev pub Medium : Type 0
Medium = List Block

-- where the partition begins: a block number is an address less this
abbrev pub partition_start : ℕ
partition_start = PARTITION_START

abbrev pub blocks_for : ℕ → ℕ
blocks_for size = div_ceil size BLOCK_BYTES

-- so many bytes from this block number on are on the medium
abbrev pub IsWithin : Medium → ℕ → ℕ → Type 0
IsWithin medium first size = first + partition_start + blocks_for size ≤ length medium

-- the blocks that hold them
abbrev pub extent : Medium → ℕ → ℕ → List Block
extent medium first size = take (blocks_for size) (drop (first + partition_start) medium)

abbrev pub bytes_in_blocks : ℕ → List Block → List ℕ
bytes_in_blocks size blocks = take size (flat_map (λ b. b) blocks)

-- so many bytes are on the medium in extents from these block numbers on, each but the last of FILE_BYTES
abbrev pub AreWithin : Medium → ℕ → List ℕ → Type 0
AreWithin medium size [] = size ≡ 0
AreWithin medium size (first ∷ firsts) = (0 < size) × IsWithin medium first (min size FILE_BYTES) × AreWithin medium (size - FILE_BYTES) firsts

-- the bytes in them, one extent after the other
abbrev pub bytes_in_extents : Medium → ℕ → List ℕ → List ℕ
bytes_in_extents medium size [] = []
bytes_in_extents medium size (first ∷ firsts) =
    bytes_in_blocks (min size FILE_BYTES) (extent medium first (min size FILE_BYTES)) ++ bytes_in_extents medium (size - FILE_BYTES) firsts

-- how many descriptor blocks a file of this size has: its entry has no room for the descriptors in them
abbrev pub descriptor_blocks : ℕ → ℕ
descriptor_blocks size = div_ceil (div_ceil size FILE_BYTES - ENTRY_DESCRIPTORS) (BLOCK_DESCRIPTORS - 1)

module _ (formats : Formats) where
  -- those to which an entry's descriptors lead
  abbrev pub descriptors_at : Medium → ℕ → List ℕ → List Block
  descriptors_at medium size descriptors = take (descriptor_blocks size) (drop (formats.next descriptors + partition_start) medium)

  -- they are on the medium
  pub record AreListed (medium : Medium) (size : ℕ) (descriptors : List ℕ) : Type 0 where
    pub there : length (descriptors_at medium size descriptors) ≡ descriptor_blocks size
    pub are : formats.HaveDescriptors size (formats.next descriptors) (descriptors_at medium size descriptors)

  -- the block numbers at which the extents of a file begin
  abbrev pub firsts_at : Medium → ℕ → List ℕ → List ℕ
  firsts_at medium size descriptors = formats.firsts descriptors (descriptors_at medium size descriptors)

  -- the bytes of a file
  abbrev pub HoldsFile : Medium → ℕ → NodePlace → List ℕ → Type 0
  HoldsFile medium size Nowhere bytes = bytes ≡ []
  HoldsFile medium size (Inside inside) bytes = bytes ≡ inside
  HoldsFile medium size (Extent first) bytes = IsWithin medium first size × (bytes ≡ bytes_in_blocks size (extent medium first size))
  HoldsFile medium size (Extents descriptors) bytes =
      AreListed medium size descriptors × AreWithin medium size (firsts_at medium size descriptors)
      × (bytes ≡ bytes_in_extents medium size (firsts_at medium size descriptors))

  abbrev pub HoldsDirectory : Medium → ℕ → NodePlace → ℕ → List Entry → Type 0
  HoldsDirectory medium size Nowhere parent entries = ⊥
  HoldsDirectory medium size (Inside inside) parent entries = ⊥
  HoldsDirectory medium size (Extents descriptors) parent entries = ⊥
  HoldsDirectory medium size (Extent first) parent entries = IsWithin medium first size × formats.IsDirectory parent entries first size (extent medium first size)

  abbrev pub HoldsBody : Medium → NodeFields → Body → Type 0
  HoldsBody medium fields (Bytes bytes) = (fields.kind ≡ File) × HoldsFile medium fields.size fields.place bytes
  HoldsBody medium fields (Entries parent entries) = (fields.kind ≡ Directory) × HoldsDirectory medium fields.size fields.place parent entries

  -- what the VAT ICB of a virtual address leads to on the medium
  pub record IsStoredAt (medium : Medium) (table : List (Option ℕ)) (address : ℕ) (stored : Stored) : Type 0 where
    pub number : ℕ
    pub used : slice_get table address ≡ Some (Some number)
    pub block : Block
    pub there : slice_get medium (number + partition_start) ≡ Some block
    pub fields : NodeFields
    pub entry : formats.IsEntry fields block address
    pub moment : fields.moment ≡ stored.moment
    pub identity : fields.identity ≡ stored.identity
    pub links : fields.links ≡ stored.links
    pub body : HoldsBody medium fields stored.body

  abbrev pub graph_of : Medium → List (Option ℕ) → Graph
  graph_of medium table = λ address stored. IsStoredAt medium table address stored

  -- The block imitates where it would be at this address: it is a VAT ICB there.
  abbrev pub IsVatIcbAt : Block → ℕ → Type 0
  IsVatIcbAt block address = (partition_start ≤ address) × (fields : NodeFields) × (fields.kind ≡ Table) × formats.IsEntry fields block (address - partition_start)

  -- none of the blocks, which lie from this address on, imitates
  abbrev pub NoneImitates : ℕ → List Block → Type 0
  NoneImitates at [] = Unit {0}
  NoneImitates at (block ∷ blocks) = (IsVatIcbAt block at → ⊥) × NoneImitates (suc at) blocks

  -- the last table entry of a medium, and its address
  pub record IsLast (medium : Medium) (at : ℕ) (block : Block) : Type 0 where
    pub there : slice_get medium at ≡ Some block
    pub is : IsVatIcbAt block at
    pub no_later : (later : ℕ) (other : Block) → at < later → slice_get medium later ≡ Some other → IsVatIcbAt other later → ⊥

  -- the table whose entry this block is at this address, of this moment; its data are on the blocks below
  pub record HasTable (below : Medium) (at : ℕ) (block : Block) (table : Table_) (moment : ℕ) : Type 0 where
    pub fields : NodeFields
    pub kind : fields.kind ≡ Table
    pub entry : formats.IsEntry fields block (at - partition_start)
    pub moment_is : fields.moment ≡ moment
    pub first : ℕ
    pub place : fields.place ≡ Extent first
    pub within : IsWithin below first fields.size
    pub is : formats.IsTable table (at - partition_start) (bytes_in_blocks fields.size (extent below first fields.size))

  -- The block at this address, and all that it leads to on the blocks below, says the state, on a drive of this capacity in a volume of that one.
  pub record Describes (capacity volume : ℕ) (below : Medium) (at : ℕ) (block : Block) (state : State) : Type 0 where
    pub table : Table_
    pub has : HasTable below at block table state.moment
    pub commits : table.commits ≡ state.commits
    pub next_identity : table.next_identity ≡ state.next_identity
    pub records : table.records ≡ state.records
    pub table_length : length table.entries ≡ state.table_length
    pub formatted : ℕ  -- the moment of the format
    pub front : formats.IsFront table.label formatted volume (take partition_start below)
    pub fits : volume ≤ capacity
    pub set_number : ℕ
    pub set_used : slice_get table.entries 0 ≡ Some (Some set_number)
    pub set_block : Block
    pub set_there : slice_get below (set_number + partition_start) ≡ Some set_block
    pub set_is : formats.IsFileSet table.label formatted set_block
    pub tree : IsTree state.tree
    pub makes : MakesTree (graph_of below table.entries) state.tree
    pub identities : HasIdentities state.tree state.next_identity
    pub files : table.files ≡ files_of state.tree
    pub directories : table.directories ≡ directories_of state.tree
    pub few_commits : 2 * state.commits + (FORMAT_BLOCKS - 1) ≤ at
    pub few_identities : state.next_identity ≤ FIRST_UNIQUE + state.commits

  -- The medium recovers to the state: the last table entry says it.
  pub record RecoversTo (capacity volume : ℕ) (medium : Medium) (state : State) : Type 0 where
    pub at : ℕ
    pub block : Block
    pub last : IsLast medium at block
    pub tells : Describes capacity volume (take at medium) at block state

  -- the last table entry of a medium with its table
  pub record LastTable (medium : Medium) : Type 0 where
    pub at : ℕ
    pub block : Block
    pub last : IsLast medium at block
    pub table : Table_
    pub moment : ℕ
    pub has : HasTable (take at medium) at block table moment

  -- so many steps back along the chain of tables, this state was recovered
  abbrev pub RecoveredBefore : ℕ → ℕ → ℕ → Medium → State → Type 0
  RecoveredBefore zero capacity volume medium state = RecoversTo capacity volume medium state
  RecoveredBefore (suc steps) capacity volume medium state =
      (last : LastTable medium) × (previous : ℕ) × (last.table.previous ≡ Some previous)
      × (before : LastTable (take (previous + (partition_start + 1)) medium)) × (before.at ≡ previous + partition_start) × (before.table.commits + 1 ≡ last.table.commits)
      × RecoveredBefore steps capacity volume (take (previous + (partition_start + 1)) medium) state

  -- the state after the first `commits` commits
  abbrev pub RecoveredTo : ℕ → ℕ → Medium → ℕ → State → Type 0
  RecoveredTo capacity volume medium commits state = (last : LastTable medium) × (steps : ℕ) × (commits + steps ≡ last.table.commits) × RecoveredBefore steps capacity volume medium state
