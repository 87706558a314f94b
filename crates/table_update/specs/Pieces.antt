-- The pieces of a commit make its plan: its nodes' blocks, and its table's bytes and entry after them.
use Rattle.std.specs.Prelude.{◌≡◌, ℕ, ◌+◌, ◌-◌, List, ◌++◌, length, map, take, Option}
use Rattle.model.specs.Operation.{code_of}
use Rattle.model.specs.Session.{State, Request}
use Rattle.durability.specs.Formats.{Block}
use Rattle.durability.specs.Formats.Kind.{Table as TableEntry}
use Rattle.durability.specs.Formats.NodePlace.{Extent}
use Rattle.durability.specs.Volume.{Medium, partition_start, RecoversTo}
use Rattle.durability.specs.Plan.{Writing, Written, WritesNodes, IsPlaced, KeepPlaces, IsPlanned}
use Rattle.udf.specs.Udf.{udf}
use Rattle.udf.specs.Said.{model_table}
use Rattle.vat.specs.Table.{Table, IsTableAt}
use Rattle.table_update.specs.declared.node.NewNode.{NewNode}
use Rattle.recover.specs.declared.node.Node.{Node}
use Rattle.table_update.specs.NextTable.{ChangesVolume, next_table}

-- entries are written for the nodes, in their order
abbrev pub NodesAreWritten : Type 0
NodesAreWritten =
    (medium : Medium) (nodes : List Writing) (from : ℕ) (blocks : List Block) (written : List Written) → WritesNodes udf medium nodes from blocks written → map (λ w. w.address) written ≡ map (λ n. n.address) nodes

-- The table's bytes lie after the nodes' blocks, and its entry after them.
pub record IsTableBehind (medium : Medium) (request : Request) (table : Table) (node_blocks : List Block) (bytes : List ℕ) (first : ℕ) (table_blocks : List Block) (mark : Block) : Type 0 where
  pub placed : IsPlaced udf bytes (length medium - partition_start + length node_blocks) first table_blocks
  pub spelled : IsTableAt (length medium + length (node_blocks ++ table_blocks) - partition_start) table bytes
  pub entry : udf.IsEntry
      (record { kind = TableEntry; moment = request.moment; links = 0; identity = 0; size = length bytes; place = Extent first })
      mark (length medium + length (node_blocks ++ table_blocks) - partition_start)

abbrev pub PiecesArePlanned : Type 0
PiecesArePlanned =
    (capacity volume : ℕ) (medium : Medium) (S : State) (stands : RecoversTo udf capacity volume medium S) (request : Request) (nodes : List Writing) (unused : List ℕ) (written : List Written)
    (made : Option NewNode) (taken : Option Node) (t : Table) → model_table t ≡ stands.tells.table → ChangesVolume capacity volume medium S stands request nodes unused written made taken
    → KeepPlaces udf (take stands.at medium) stands.tells.table.entries nodes → (node_blocks : List Block) → WritesNodes udf medium nodes (length medium - partition_start) node_blocks written
    → (bytes : List ℕ) (first : ℕ) (table_blocks : List Block) (mark : Block)
    → IsTableBehind medium request (next_table stands.at request.client request.number (code_of request.operation S.tree) made written taken t) node_blocks bytes first table_blocks mark
    → IsPlanned udf capacity volume medium S stands request (node_blocks ++ table_blocks) mark
