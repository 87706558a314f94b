-- How many blocks a commit may take, computed from the sizes of what it writes.
use Rattle.std.specs.Prelude.{◌≡◌, ℕ, ◌+◌, ◌*◌, ◌<◌, ◌≤◌, List, [], ◌∷◌, ◌++◌, length, map, take, slice_index_or, Option, Some, None, All}
use Rattle.std.specs.Int.{div_ceil}
use Rattle.limits.specs.declared.TheConstants.{BLOCK_BYTES, FILE_BYTES}
use Rattle.model.specs.Tree.{Name}
use Rattle.model.specs.Operation.{code_of}
use Rattle.model.specs.Session.{State, Request}
use Rattle.model.specs.Graph.{Body}
use Rattle.model.specs.Graph.Body.{Bytes, Entries}
use Rattle.durability.specs.Formats.{identifiers_size}
use Rattle.durability.specs.Volume.{Medium, blocks_for, descriptor_blocks, RecoversTo}
use Rattle.durability.specs.Plan.{Writing, Written}
use Rattle.durability.specs.Commit.{most_for_append, most_for_directory, table_size, need}
use Rattle.udf.specs.Udf.{udf, spelled_length}
use Rattle.udf.specs.Said.{model_table}
use Rattle.vat.specs.Table.{Table}
use Rattle.table_update.specs.declared.node.NewNode.{NewNode}
use Rattle.recover.specs.declared.node.Node.{Node}
use Rattle.table_update.specs.NextTable.{ChangesVolume, begun}
use Rattle.table_update.specs.Outside.{outside_after}

-- the bytes of a file that are written, after so many that stay where they are
pub record FileData : Type 0 where
  pub kept : ℕ
  pub bytes : List ℕ

abbrev pub most_for_bytes : Option FileData → ℕ
most_for_bytes None = 0
most_for_bytes (Some file) = most_for_append file.kept (length file.bytes)

abbrev pub most_for_directories : List (List Name) → ℕ
most_for_directories [] = 0
most_for_directories (names ∷ directories) = most_for_directory spelled_length names + most_for_directories directories

-- by a file that is written, if one is, the names of each directory that is, and the table with the node that is made
abbrev pub reckoned : Option FileData → List (List Name) → Table → ℕ
reckoned file directories t = most_for_bytes file + most_for_directories directories + (2 * blocks_for (table_size (length t.records) (length t.entries)) + 1)

-- a directory's body with these names
abbrev pub HasNames : Body → List Name → Type 0
HasNames (Bytes bytes) names = ⊥
HasNames (Entries parent entries) names = map (λ e. e.name) entries ≡ names

abbrev pub AreDirectories : List (List Name) → List Writing → Type 0
AreDirectories [] [] = Unit {0}
AreDirectories [] (node ∷ nodes) = ⊥
AreDirectories (names ∷ directories) [] = ⊥
AreDirectories (names ∷ directories) (node ∷ nodes) = HasNames node.stored.body names × AreDirectories directories nodes

-- the node is a file whose bytes end with these
pub record EndsWith (file : FileData) (node : Writing) : Type 0 where
  pub kept : node.kept ≡ file.kept
  pub front : List ℕ
  pub size : length front ≡ file.kept
  pub body : node.stored.body ≡ Bytes (front ++ file.bytes)

-- the nodes are a file of which these bytes are written, where one is, and then directories with these names
abbrev pub AreOf : Option FileData → List (List Name) → List Writing → Type 0
AreOf None directories nodes = AreDirectories directories nodes
AreOf (Some file) directories [] = ⊥
AreOf (Some file) directories (node ∷ nodes) = EndsWith file node × AreDirectories directories nodes

-- it is what the request may need at the recovered state
abbrev pub NeedIsComputed : Type 0
NeedIsComputed =
    (capacity volume : ℕ) (medium : Medium) (S : State) (stands : RecoversTo udf capacity volume medium S) (request : Request) (nodes : List Writing) (unused : List ℕ) (written : List Written)
    (made : Option NewNode) (taken : Option Node) (t : Table) (file : Option FileData) (directories : List (List Name))
    → model_table t ≡ stands.tells.table → ChangesVolume capacity volume medium S stands request nodes unused written made taken → AreOf file directories nodes
    → reckoned file directories (begun stands.at request.client request.number (code_of request.operation S.tree) made t) ≡ need spelled_length S request

-- ---- as they are counted in turn

-- one name more
abbrev pub NamesAreCounted : Type 0
NamesAreCounted =
    (names : List Name) (i : ℕ) (name : Name) → i < length names → name ≡ slice_index_or names i name
    → identifiers_size spelled_length (take (i + 1) names) ≡ identifiers_size spelled_length (take i names) + div_ceil (38 + spelled_length name) 4 * 4

-- so many names take no more
abbrev pub NamesAreShort : Type 0
NamesAreShort = (names : List Name) → All (λ name. spelled_length name ≤ 255) names → identifiers_size spelled_length names ≤ 40 + 296 * length names

-- a request's bytes of a file after so many that stay, where they are outside its entry, the file's descriptor blocks, and the entry
abbrev pub FilesAreCounted : Type 0
FilesAreCounted =
    (kept : ℕ) (bytes : List ℕ) → length bytes ≤ FILE_BYTES
    → 2 * div_ceil (length (outside_after kept bytes)) BLOCK_BYTES + descriptor_blocks (kept + length bytes) + 1 ≡ most_for_append kept (length bytes)
