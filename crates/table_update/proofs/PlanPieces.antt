-- The pieces of a commit make its plan.
use Rattle.std.proofs.Common.{◌≡◌, ℕ, ◌+◌, ◌-◌, List, [], ◌∷◌, ◌++◌, length, map, take, refl, ap, ◌∙◌}
use Rattle.std.specs.Prelude.{Option}
use Rattle.model.specs.Operation.{code_of}
use Rattle.model.specs.Session.{State, Request}
use Rattle.durability.specs.Formats.{Block}
use Rattle.durability.specs.Volume.{Medium, RecoversTo, partition_start}
use Rattle.durability.specs.Plan.{Writing, Written, WritesNodes, KeepPlaces}
use Rattle.udf.specs.Said.{model_table}
use Rattle.udf.specs.Udf.{udf}
use Rattle.udf.proofs.Said.{tables_agree}
use Rattle.vat.specs.Table.{Table}
use Rattle.table_update.specs.declared.node.NewNode.{NewNode}
use Rattle.recover.specs.declared.node.Node.{Node}
use Rattle.table_update.specs.NextTable.{ChangesVolume, next_table}
use Rattle.table_update.specs.Pieces.{IsTableBehind, NodesAreWritten, PiecesArePlanned}
use Rattle.table_update.proofs.NextTables.{next_tables_follow}
use Rattle.table_update.proofs.NextSizes.{next_tables_are_sized}

pub nodes_are_written : NodesAreWritten
nodes_are_written medium [] from blocks written (b, w) = ap (λ (ws : List Written). map (λ v. v.address) ws) w
nodes_are_written medium (node ∷ nodes) from blocks written (first, others, number, rest, b, w, one, all) =
    ap (λ (ws : List Written). map (λ v. v.address) ws) w ∙ ap (λ (ns : List ℕ). node.address ∷ ns) (nodes_are_written (medium ++ first) nodes (from + length first) others rest all)

pub pieces_are_planned : PiecesArePlanned
pieces_are_planned capacity volume medium S stands r nodes unused written made taken t is h keep node_blocks writes bytes first table_blocks mark afterwards = record {
  nodes = nodes;
  gone = unused;
  done = λ e. (h.done e).0;
  refused = λ other. ((h.refused other).0, (h.refused other).1);
  keep = keep;
  node_blocks = node_blocks;
  written = written;
  writes = writes;
  table = model_table (next_table stands.at r.client r.number (code_of r.operation S.tree) made written taken t);
  table_is = next_tables_follow capacity volume medium S stands r nodes unused written made taken t is h;
  bytes = bytes;
  size = next_tables_are_sized stands.at r.client r.number (code_of r.operation S.tree) made written taken t bytes afterwards.spelled.table;
  first = first;
  table_blocks = table_blocks;
  placed = afterwards.placed;
  blocks_are = refl;
  spelled = tables_agree (next_table stands.at r.client r.number (code_of r.operation S.tree) made written taken t) (length medium + length (node_blocks ++ table_blocks) - partition_start) bytes afterwards.spelled;
  mark_is = afterwards.entry;
}

-- whose table is the one that the changes make
pub pieces_table : (capacity volume : ℕ) (medium : Medium) (S : State) (stands : RecoversTo udf capacity volume medium S) (r : Request) (nodes : List Writing) (unused : List ℕ) (written : List Written) (made : Option NewNode) (taken : Option Node) (t : Table)
    → (is : model_table t ≡ stands.tells.table) (h : ChangesVolume capacity volume medium S stands r nodes unused written made taken)
    → (keep : KeepPlaces udf (take stands.at medium) stands.tells.table.entries nodes) (node_blocks : List Block) (writes : WritesNodes udf medium nodes (length medium - partition_start) node_blocks written)
    → (bytes : List ℕ) (first : ℕ) (table_blocks : List Block) (mark : Block) (afterwards : IsTableBehind medium r (next_table stands.at r.client r.number (code_of r.operation S.tree) made written taken t) node_blocks bytes first table_blocks mark)
    → (pieces_are_planned capacity volume medium S stands r nodes unused written made taken t is h keep node_blocks writes bytes first table_blocks mark afterwards).table ≡ model_table (next_table stands.at r.client r.number (code_of r.operation S.tree) made written taken t)
unfolding pieces_are_planned
pieces_table capacity volume medium S stands r nodes unused written made taken t is h keep node_blocks writes bytes first table_blocks mark afterwards = refl
