-- The blocks that a request writes: which nodes, in which order and where, and the table after them.
use Rattle.std.specs.Prelude.{◌≡◌, ℕ, zero, suc, ◌+◌, ◌*◌, ◌-◌, ◌<◌, ◌≤◌, ◌==◌, if◌then◌else◌, List, [], ◌∷◌, ◌++◌, ◌⊎◌, length, take, drop, replicate, slice_set, Contains, Option, Some, None}
use Rattle.limits.specs.declared.TheConstants.{BLOCK_BYTES, FILE_BYTES}
use Rattle.model.specs.Tree.{Name, Path, Content, parent_of, last_of, has_names, files_of, directories_of}
use Rattle.model.specs.Tree.Content.{File, Directory}
use Rattle.model.specs.Operation.{Operation, code_of}
use Rattle.model.specs.Operation.Operation.{Create, Replace, Append, MakeDir, Rename, Remove}
use Rattle.model.specs.Session.{State, Request, after_one}
use Rattle.model.specs.Addresses.{free_address}
use Rattle.model.specs.Graph.{Graph, Stored, Entry, Body, as_stored, entries_of, is_directory}
use Rattle.model.specs.Graph.Body.{Bytes, Entries}
use Rattle.model.specs.Change.{Found, with_entries, with_parent, new_body, without, renamed}
use Rattle.durability.specs.Formats.{Block, Kind, NodePlace, Table_, Formats}
use Rattle.durability.specs.Formats.Kind.{File as FileEntry, Directory as DirectoryEntry, Table as TableEntry}
use Rattle.durability.specs.Formats.NodePlace.{Nowhere, Extent, Extents, Inside}
use Rattle.durability.specs.Volume.{Medium, partition_start, blocks_for, descriptor_blocks, firsts_at, AreWithin, bytes_in_extents, NoneImitates, RecoversTo, graph_of}
use Rattle.durability.specs.Commit.{most_inside, table_size}

abbrev pub zeros : Block
zeros = replicate BLOCK_BYTES 0

-- so many blocks of the bytes, zeros after them
abbrev pub blocks_from : ℕ → List ℕ → List Block
blocks_from zero bytes = []
blocks_from (suc n) bytes = (take BLOCK_BYTES bytes ++ replicate (BLOCK_BYTES - length (take BLOCK_BYTES bytes)) 0) ∷ blocks_from n (drop BLOCK_BYTES bytes)

-- the bytes in blocks, zeros after them in the last
abbrev pub packed : List ℕ → List Block
packed bytes = blocks_from (blocks_for (length bytes)) bytes

-- a node to be written under a virtual address; so many of a file's bytes stay where they are, in extents from these block numbers on
pub record Writing : Type 0 where
  pub address : ℕ
  pub kept : ℕ
  pub firsts : List ℕ
  pub stored : Stored

-- the block number of the entry that was written for a virtual address
pub record Written : Type 0 where
  pub address : ℕ
  pub number : ℕ

abbrev pub kind_of_body : Body → Kind
kind_of_body (Bytes bytes) = FileEntry
kind_of_body (Entries parent entries) = DirectoryEntry

-- a VAT ICB, changed or added at its end
abbrev pub with_entry : List (Option ℕ) → ℕ → Option ℕ → List (Option ℕ)
with_entry table address entry = if address == length table then table ++ entry ∷ [] else slice_set table address entry

abbrev pub with_written : List (Option ℕ) → List Written → List (Option ℕ)
with_written table [] = table
with_written table (w ∷ written) = with_written (with_entry table w.address (Some w.number)) written

abbrev pub without_all : List (Option ℕ) → List ℕ → List (Option ℕ)
without_all table [] = table
without_all table (address ∷ gone) = without_all (with_entry table address None) gone

-- the table after a commit: the entries of what was removed are unused, those of what was written lead there
abbrev pub entries_after : List (Option ℕ) → List Written → List ℕ → List (Option ℕ)
entries_after table written gone = with_written (without_all table gone) written

-- a new node and its entry in the directory above it
pub record PlansAddition (graph : Graph) (free : ℕ) (path : Path) (content : Content) (moment identity : ℕ) (nodes : List Writing) : Type 0 where
  pub above : Found graph (parent_of path)
  pub name : Name
  pub last : last_of path ≡ name ∷ []
  pub nodes_are : nodes ≡
      record { address = free; kept = 0; firsts = []; stored = as_stored identity moment (new_body above.address content) }
      ∷ record {
        address = above.address;
        kept = 0;
        firsts = [];
        stored = as_stored above.stored.identity moment
            (with_entries (λ entries. entries ++ record { name = name; is_directory = has_names content; address = free; identity = identity } ∷ []) above.stored.body);
      }
      ∷ []

-- a file's bytes; no directory is written
pub record PlansReplacement (graph : Graph) (path : Path) (bytes : List ℕ) (moment : ℕ) (nodes : List Writing) : Type 0 where
  pub file : Found graph path
  pub nodes_are : nodes ≡ record { address = file.address; kept = 0; firsts = []; stored = as_stored file.stored.identity moment (Bytes bytes) } ∷ []

-- bytes after those that the file has; no directory is written
pub record PlansAppend (graph : Graph) (path : Path) (offset : ℕ) (bytes : List ℕ) (moment : ℕ) (nodes : List Writing) : Type 0 where
  pub file : Found graph path
  pub front : List ℕ
  pub holds : file.stored.body ≡ Bytes front
  pub size : length front ≡ offset
  pub firsts : List ℕ
  pub nodes_are : nodes ≡ record { address = file.address; kept = offset; firsts = firsts; stored = as_stored file.stored.identity moment (Bytes (front ++ bytes)) } ∷ []

-- the directory above, without the name; what was there is unused from now on
pub record PlansRemoval (graph : Graph) (path : Path) (moment : ℕ) (nodes : List Writing) (gone : List ℕ) : Type 0 where
  pub above : Found graph (parent_of path)
  pub node : Found graph path
  pub gone_is : gone ≡ node.address ∷ []
  pub nodes_are : nodes ≡ record { address = above.address; kept = 0; firsts = []; stored = as_stored above.stored.identity moment (with_entries (without path) above.stored.body) } ∷ []

-- another name within one directory
pub record PlansRenaming (graph : Graph) (from to : Path) (moment : ℕ) (nodes : List Writing) : Type 0 where
  pub beside : parent_of from ≡ parent_of to
  pub above : Found graph (parent_of from)
  pub moved : Entry
  pub from_last : last_of from ≡ moved.name ∷ []
  pub contains : Contains (entries_of above.stored) moved
  pub name : Name
  pub to_last : last_of to ≡ name ∷ []
  pub nodes_are : nodes ≡ record {
    address = above.address;
    kept = 0;
    firsts = [];
    stored = as_stored above.stored.identity moment
        (with_entries (λ entries. without from entries ++ renamed name moved ∷ []) above.stored.body);
  } ∷ []

-- a directory that is moved names the directory above it anew; a file is not written
abbrev pub turned : Entry → Stored → ℕ → List Writing
turned moved stored above =
    if is_directory stored then record { address = moved.address; kept = 0; firsts = []; stored = as_stored stored.identity stored.moment (with_parent above stored.body) } ∷ [] else []

-- to another directory: what is moved, the directory that loses the name, the directory that gets one
pub record PlansMove (graph : Graph) (from to : Path) (moment : ℕ) (nodes : List Writing) : Type 0 where
  pub elsewhere : parent_of from ≡ parent_of to → ⊥
  pub above : Found graph (parent_of from)
  pub moved : Entry
  pub from_last : last_of from ≡ moved.name ∷ []
  pub contains : Contains (entries_of above.stored) moved
  pub stored : Stored
  pub there : graph moved.address stored
  pub beyond : Found graph (parent_of to)
  pub name : Name
  pub to_last : last_of to ≡ name ∷ []
  pub nodes_are : nodes ≡
      turned moved stored beyond.address
      ++ record { address = above.address; kept = 0; firsts = []; stored = as_stored above.stored.identity moment (with_entries (without from) above.stored.body) }
      ∷ record { address = beyond.address; kept = 0; firsts = []; stored = as_stored beyond.stored.identity moment (with_entries (λ entries. entries ++ renamed name moved ∷ []) beyond.stored.body) }
      ∷ []

-- the nodes that an operation answered 0 writes, in their order, and the virtual addresses that are unused after it
abbrev pub Plans : Graph → ℕ → Operation → ℕ → ℕ → List Writing → List ℕ → Type 0
Plans graph free (Create path bytes) moment identity nodes gone = PlansAddition graph free path (File bytes) moment identity nodes × (gone ≡ [])
Plans graph free (MakeDir path) moment identity nodes gone = PlansAddition graph free path (Directory []) moment identity nodes × (gone ≡ [])
Plans graph free (Replace path bytes) moment identity nodes gone = PlansReplacement graph path bytes moment nodes × (gone ≡ [])
Plans graph free (Append path offset bytes) moment identity nodes gone = PlansAppend graph path offset bytes moment nodes × (gone ≡ [])
Plans graph free (Rename from to) moment identity nodes gone = (PlansRenaming graph from to moment nodes ⊎ PlansMove graph from to moment nodes) × (gone ≡ [])
Plans graph free (Remove path) moment identity nodes gone = PlansRemoval graph path moment nodes gone

module _ (formats : Formats) where
  -- the least start from a block number on at which none of the data's blocks imitates; it lies no further than there are blocks
  pub record IsClearStart (blocks : List Block) (from start : ℕ) : Type 0 where
    pub low : from ≤ start
    pub high : start ≤ from + length blocks
    pub clear : NoneImitates formats (start + partition_start) blocks
    pub least : (earlier : ℕ) → from ≤ earlier → earlier < start → NoneImitates formats (earlier + partition_start) blocks → ⊥

  -- data at the least clear start, blocks of zeros before it
  pub record IsPlaced (bytes : List ℕ) (from first : ℕ) (blocks : List Block) : Type 0 where
    pub start : IsClearStart (packed bytes) from first
    pub whole : blocks ≡ replicate (first - from) zeros ++ packed bytes

  -- the blocks before a file's entry, and where the entry says that its bytes are
  pub data PlacesFile (medium : Medium) (kept : ℕ) (firsts : List ℕ) (bytes : List ℕ) (from : ℕ) (blocks : List Block) (place : NodePlace) : Type 0 where
    nowhere : kept ≡ 0 → length bytes ≡ 0 → blocks ≡ [] → place ≡ Nowhere → PlacesFile medium kept firsts bytes from blocks place
    inside : kept ≡ 0 → 1 ≤ length bytes → length bytes ≤ most_inside → blocks ≡ [] → place ≡ Inside bytes → PlacesFile medium kept firsts bytes from blocks place
    outside : kept ≡ 0 → most_inside < length bytes → (first : ℕ) → IsPlaced bytes from first blocks → place ≡ Extent first → PlacesFile medium kept firsts bytes from blocks place
    -- one extent more: those before it are on the medium, and full; descriptor blocks, if there are any, follow the data
    appended : (front more : List ℕ) → bytes ≡ front ++ more → length front ≡ kept → 0 < kept → kept ≡ FILE_BYTES * length firsts
        → AreWithin medium kept firsts → front ≡ bytes_in_extents medium kept firsts → 0 < length more → length more ≤ FILE_BYTES
        → (first : ℕ) (placed listed : List Block) → IsPlaced more from first placed → blocks ≡ placed ++ listed → length listed ≡ descriptor_blocks (length bytes)
        → (descriptors : List ℕ) → (0 < length listed → formats.next descriptors ≡ from + length placed) → formats.HaveDescriptors (length bytes) (formats.next descriptors) listed
        → formats.firsts descriptors listed ≡ firsts ++ first ∷ [] → place ≡ Extents descriptors
        → PlacesFile medium kept firsts bytes from blocks place

  -- the blocks before a node's entry, from a block number on, and what the entry says of them
  abbrev pub PlacesBody : Medium → ℕ → List ℕ → Body → ℕ → List Block → NodePlace → ℕ → Type 0
  PlacesBody medium kept firsts (Bytes bytes) from blocks place size = (size ≡ length bytes) × PlacesFile medium kept firsts bytes from blocks place
  PlacesBody medium kept firsts (Entries parent entries) from blocks place size = (place ≡ Extent from) × (length blocks ≡ blocks_for size) × formats.IsDirectory parent entries from size blocks

  -- the blocks of a node from a block number on: its data, and then its entry, which has this number
  pub record WritesNode (medium : Medium) (node : Writing) (from : ℕ) (blocks : List Block) (number : ℕ) : Type 0 where
    pub before : List Block
    pub entry : Block
    pub blocks_are : blocks ≡ before ++ entry ∷ []
    pub number_is : number ≡ from + length before
    pub place : NodePlace
    pub size : ℕ
    pub body : PlacesBody medium node.kept node.firsts node.stored.body from before place size
    pub is : formats.IsEntry (record { kind = kind_of_body node.stored.body; moment = node.stored.moment; links = node.stored.links; identity = node.stored.identity; size = size; place = place }) entry node.address

  -- the blocks of these nodes after the medium, one after the other, and where their entries are
  abbrev pub WritesNodes : Medium → List Writing → ℕ → List Block → List Written → Type 0
  WritesNodes medium [] from blocks written = (blocks ≡ []) × (written ≡ [])
  WritesNodes medium (node ∷ nodes) from blocks written =
      (first : List Block) × (others : List Block) × (number : ℕ) × (rest : List Written)
      × (blocks ≡ first ++ others) × (written ≡ record { address = node.address; number = number } ∷ rest)
      × WritesNode medium node from first number × WritesNodes (medium ++ first) nodes (from + length first) others rest

  -- the block numbers at which the extents of a file of this size begin
  abbrev pub firsts_of : Medium → ℕ → NodePlace → List ℕ
  firsts_of medium size Nowhere = []
  firsts_of medium size (Inside bytes) = []
  firsts_of medium size (Extent first) = first ∷ []
  firsts_of medium size (Extents descriptors) = firsts_at formats medium size descriptors

  -- A file that keeps bytes is there already: it has as many, where its entry says.
  abbrev pub KeepsPlace : Medium → List (Option ℕ) → Writing → Type 0
  KeepsPlace medium table node = 0 < node.kept
      → (path : Path) × (file : Found (graph_of formats medium table) path) × (bytes : List ℕ)
      × (file.address ≡ node.address) × (file.stored.body ≡ Bytes bytes) × (file.is.fields.size ≡ node.kept) × (node.firsts ≡ firsts_of medium file.is.fields.size file.is.fields.place)

  abbrev pub KeepPlaces : Medium → List (Option ℕ) → List Writing → Type 0
  KeepPlaces medium table [] = Unit {0}
  KeepPlaces medium table (node ∷ nodes) = KeepsPlace medium table node × KeepPlaces medium table nodes

  -- The planned blocks of a request at the recovered state, and its table entry after them.
  pub record IsPlanned (capacity volume : ℕ) (medium : Medium) (S : State) (stands : RecoversTo formats capacity volume medium S) (request : Request) (blocks : List Block) (mark : Block) : Type 0 where
    pub nodes : List Writing
    pub gone : List ℕ
    pub done : code_of request.operation S.tree ≡ 0 → Plans (graph_of formats (take stands.at medium) stands.tells.table.entries) (free_address stands.tells.table.entries) request.operation request.moment S.next_identity nodes gone
    pub refused : (code_of request.operation S.tree ≡ 0 → ⊥) → (nodes ≡ []) × (gone ≡ [])
    pub keep : KeepPlaces (take stands.at medium) stands.tells.table.entries nodes
    pub node_blocks : List Block
    pub written : List Written
    pub writes : WritesNodes medium nodes (length medium - partition_start) node_blocks written
    pub table : Table_
    pub table_is : table ≡ record {
      label = stands.tells.table.label;
      previous = Some (stands.at - partition_start);
      files = files_of (after_one S request).tree;
      directories = directories_of (after_one S request).tree;
      next_identity = (after_one S request).next_identity;
      commits = (after_one S request).commits;
      records = (after_one S request).records;
      entries = entries_after stands.tells.table.entries written gone;
    }
    pub bytes : List ℕ
    pub size : length bytes ≡ table_size (length table.records) (length table.entries)
    pub first : ℕ
    pub table_blocks : List Block
    pub placed : IsPlaced bytes (length medium - partition_start + length node_blocks) first table_blocks
    pub blocks_are : blocks ≡ node_blocks ++ table_blocks
    pub spelled : formats.IsTable table (length medium + length blocks - partition_start) bytes
    pub mark_is : formats.IsEntry (record { kind = TableEntry; moment = request.moment; links = 0; identity = 0; size = length bytes; place = Extent first }) mark (length medium + length blocks - partition_start)
