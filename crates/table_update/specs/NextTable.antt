-- The table of the next commit, by the changes that make it, and what it says in the model's words.
use Rattle.std.specs.Prelude.{◌≡◌, ℕ, ◌-◌, List, [], ◌∷◌, length, map, take, Option, Some, None, IfSome}
use Rattle.dir.specs.declared.entry.Kind.TheVariants.{File, Directory}
use Rattle.model.specs.Tree.{Tree, is_directory_at, files_of, directories_of}
use Rattle.model.specs.Operation.{Operation, code_of}
use Rattle.model.specs.Operation.Operation.{Create, Replace, Append, MakeDir, Rename, Remove}
use Rattle.model.specs.Session.{State, Request, after_one}
use Rattle.model.specs.Addresses.{free_address}
use Rattle.durability.specs.Formats.{Table_}
use Rattle.durability.specs.Volume.{Medium, partition_start, RecoversTo, graph_of}
use Rattle.durability.specs.Plan.{Writing, Written, Plans, entries_after}
use Rattle.durability.specs.Commit.{table_size}
use Rattle.udf.specs.Words.{name_kind}
use Rattle.udf.specs.Udf.{udf}
use Rattle.udf.specs.Said.{model_table}
use Rattle.vat.specs.Table.{Table, IsTable}
use Rattle.table_update.specs.declared.node.NewNode.{NewNode}
use Rattle.recover.specs.declared.node.Node.{Node}
use Rattle.recover.specs.Below.{IsUsed}
use Rattle.table_update.specs.TableChange.{with_node, committed, placed, removed, with_number, IsFree, IsRemovable}

-- with a node that is made, and placed later
abbrev pub with_new_node : Option NewNode → Table → Table
with_new_node None t = t
with_new_node (Some made) t = with_node made.kind made.address 0 t

-- with the entries of the nodes that are written, in order
abbrev pub all_placed : List Written → Table → Table
all_placed [] t = t
all_placed (w ∷ written) t = all_placed written (placed w.address w.number t)

-- without a node that goes
abbrev pub without_gone : Option Node → Table → Table
without_gone None t = t
without_gone (Some node) t = removed node.kind node.address t

-- with the reply to a request, and the node that it makes
abbrev pub begun : ℕ → ℕ → ℕ → ℕ → Option NewNode → Table → Table
begun at client number code made t = with_new_node made (committed at client number code t)

-- the table after a request, where the entry of the table before is at an address
abbrev pub next_table : ℕ → ℕ → ℕ → ℕ → Option NewNode → List Written → Option Node → Table → Table
next_table at client number code made written taken t = without_gone taken (all_placed written (begun at client number code made t))

-- the node that an operation makes
abbrev pub made_by : Operation → ℕ → Option NewNode
made_by (Create path bytes) free = Some (record { kind = File; address = free })
made_by (MakeDir path) free = Some (record { kind = Directory; address = free })
made_by (Replace path bytes) free = None
made_by (Append path offset bytes) free = None
made_by (Rename from to) free = None
made_by (Remove path) free = None

-- the node that an operation takes away, whose address is unused after it
abbrev pub RemovesNode : Operation → Tree → List ℕ → Option Node → Type 0
RemovesNode (Create path bytes) tree unused taken = taken ≡ None
RemovesNode (MakeDir path) tree unused taken = taken ≡ None
RemovesNode (Replace path bytes) tree unused taken = taken ≡ None
RemovesNode (Append path offset bytes) tree unused taken = taken ≡ None
RemovesNode (Rename from to) tree unused taken = taken ≡ None
RemovesNode (Remove path) tree unused taken = (node : Node) × (taken ≡ Some node) × (unused ≡ node.address ∷ []) × (node.kind ≡ name_kind (is_directory_at tree path))

-- What a request writes at the recovered state: the nodes, the addresses that are unused after it, where the nodes' entries are, and the node that is made and the one that goes.
pub record ChangesVolume (capacity volume : ℕ) (medium : Medium) (S : State) (stands : RecoversTo udf capacity volume medium S) (request : Request) (nodes : List Writing) (unused : List ℕ) (written : List Written) (made : Option NewNode) (taken : Option Node) : Type 0 where
  pub done : code_of request.operation S.tree ≡ 0
      → Plans (graph_of udf (take stands.at medium) stands.tells.table.entries) (free_address stands.tells.table.entries) request.operation request.moment S.next_identity nodes unused
      × (made ≡ made_by request.operation (free_address stands.tells.table.entries)) × RemovesNode request.operation S.tree unused taken
  pub refused : (code_of request.operation S.tree ≡ 0 → ⊥) → (nodes ≡ []) × (unused ≡ []) × (made ≡ None) × (taken ≡ None)
  pub addresses : map (λ w. w.address) written ≡ map (λ n. n.address) nodes

-- the table that a plan asks for
abbrev pub planned_table : State → Request → ℕ → Table_ → List Written → List ℕ → Table_
planned_table S request at before written unused = record {
  label = before.label;
  previous = Some (at - partition_start);
  files = files_of (after_one S request).tree;
  directories = directories_of (after_one S request).tree;
  next_identity = (after_one S request).next_identity;
  commits = (after_one S request).commits;
  records = (after_one S request).records;
  entries = entries_after before.entries written unused;
}

-- the table that the changes make says what the plan asks for
abbrev pub NextTablesFollow : Type 0
NextTablesFollow =
    (capacity volume : ℕ) (medium : Medium) (S : State) (stands : RecoversTo udf capacity volume medium S) (request : Request) (nodes : List Writing) (unused : List ℕ) (written : List Written)
    (made : Option NewNode) (taken : Option Node) (t : Table) → model_table t ≡ stands.tells.table → ChangesVolume capacity volume medium S stands request nodes unused written made taken
    → model_table (next_table stands.at request.client request.number (code_of request.operation S.tree) made written taken t) ≡ planned_table S request stands.at stands.tells.table written unused

-- ---- each change finds what it asks for

-- each address that is written leads somewhere at its turn
abbrev pub AreUsed : List Written → List (Option ℕ) → Type 0
AreUsed [] entries = Unit {0}
AreUsed (w ∷ written) entries = IsUsed w.address entries × AreUsed written (with_number w.address (Some w.number) entries)

-- the address of the node that is made is free, those that are written are used, and the node that goes is there
pub record AreTaken (made : Option NewNode) (written : List Written) (taken : Option Node) (t : Table) : Type 0 where
  pub free : IfSome made (λ node. IsFree node.address t.entries)
  pub used : AreUsed written (with_new_node made t).entries
  pub there : IfSome taken (λ node. IsRemovable node.kind node.address (all_placed written (with_new_node made t)))

abbrev pub ChangesAreTaken : Type 0
ChangesAreTaken =
    (capacity volume : ℕ) (medium : Medium) (S : State) (stands : RecoversTo udf capacity volume medium S) (request : Request) (nodes : List Writing) (unused : List ℕ) (written : List Written)
    (made : Option NewNode) (taken : Option Node) (t : Table) → model_table t ≡ stands.tells.table → ChangesVolume capacity volume medium S stands request nodes unused written made taken
    → AreTaken made written taken (committed stands.at request.client request.number (code_of request.operation S.tree) t)

-- ---- sizes

-- How long the table is once the node is made, which is how long it stays.
pub record IsLong (S : State) (request : Request) (t : Table) : Type 0 where
  pub records : length t.records ≡ length (after_one S request).records
  pub entries : length t.entries ≡ (after_one S request).table_length

abbrev pub NextTablesAreLong : Type 0
NextTablesAreLong =
    (capacity volume : ℕ) (medium : Medium) (S : State) (stands : RecoversTo udf capacity volume medium S) (request : Request) (nodes : List Writing) (unused : List ℕ) (written : List Written)
    (made : Option NewNode) (taken : Option Node) (t : Table) → model_table t ≡ stands.tells.table → ChangesVolume capacity volume medium S stands request nodes unused written made taken
    → IsLong S request (begun stands.at request.client request.number (code_of request.operation S.tree) made t)

-- its bytes are as many as a plan asks for
abbrev pub NextTablesAreSized : Type 0
NextTablesAreSized =
    (at client number code : ℕ) (made : Option NewNode) (written : List Written) (taken : Option Node) (t : Table) (bytes : List ℕ) → IsTable (next_table at client number code made written taken t) bytes
    → length bytes ≡ table_size (length (model_table (next_table at client number code made written taken t)).records) (length (model_table (next_table at client number code made written taken t)).entries)
