-- The table of a volume after which a commit is planned.
use Rattle.std.specs.Prelude.{◌≡◌, ℕ, ◌+◌, ◌*◌, ◌-◌, ◌<◌, ◌≤◌, List, Option, map, take}
use Rattle.std.specs.FinMap.{len}
use Rattle.limits.specs.declared.TheConstants.{LEAST_CAPACITY, GREATEST_CAPACITY, FORMAT_BLOCKS, FIRST_UNIQUE, NODES}
use Rattle.drive.specs.Journal.{Event, held, next_of}
use Rattle.drive.specs.declared.Drive.{Ghosts}
use Rattle.model.specs.Addresses.{free_address}
use Rattle.model.specs.Tree.{Tree}
use Rattle.request.specs.declared.message.Request.{Request}
use Rattle.durability.specs.Volume.{Medium}
use Rattle.durability.specs.Plan.{KeepPlaces, Writing, Written}
use Rattle.request.specs.Numbers.{code_number}
use Rattle.udf.specs.Udf.{udf}
use Rattle.vat.specs.Table.{FitsTable, Table, view}
use Rattle.vat.specs.declared.table.Vat.{Vat}
use Rattle.recover.specs.Below.{AreBelow}
use Rattle.table_update.specs.NextTable.{AreTaken, begun}
use Rattle.table_update.specs.TableChange.{committed}
use Rattle.table_update.specs.declared.node.NewNode.{NewNode}
use Rattle.lookup.specs.Asked.{model_operation}
use Rattle.lookup.specs.Shows.{HasNodesOf, graph_below}
use Rattle.lookup.specs.declared.cache.DirectoryCache.{DirectoryCache}
use Rattle.planning.specs.Changes.{IsChangeOf}
use Rattle.planning.specs.Needs.{change_need}
use Rattle.planning.specs.Writings.{change_writings}
use Rattle.planning.specs.declared.change.Change.{Change}
use Rattle.planning.specs.declared.plan.LastTable.{LastTable}

-- a table whose entry is at this address
pub record HasTableBelow (at : ℕ) (vat : Vat) : Type 0 where
  pub low : FORMAT_BLOCKS - 1 ≤ at
  pub fits : FitsTable (view vat)
  pub entries : AreBelow at vat.entries.items
  pub few_commits : 2 * vat.sessions.commits + (FORMAT_BLOCKS - 1) ≤ at
  pub few_unique : vat.sessions.next_unique ≤ FIRST_UNIQUE + vat.sessions.commits

-- it is before an address, on a drive with this capacity
pub record IsLastTableBefore (next capacity : ℕ) (last : LastTable) : Type 0 where
  pub keeps : HasTableBelow last.vat_icb_address last.vat.now
  pub on : last.vat_icb_address < next
  pub least : LEAST_CAPACITY ≤ last.capacity
  pub most : last.capacity ≤ GREATEST_CAPACITY
  pub fits : last.capacity ≤ capacity

-- it is on a drive with this journal and capacity
abbrev pub IsLastTableOn : List Event → ℕ → LastTable → Type 0
IsLastTableOn journal = IsLastTableBefore (next_of journal)

-- the nodes of the table's state make a tree, on a drive that is honest to the end
abbrev pub HasTree : {D : Type 0} (drive : Ghosts D) → D → D → DirectoryCache → LastTable → Tree → Type 0
HasTree drive old new cache last tree = HasNodesOf (drive.honest new) (drive.journal old) cache last.vat_icb_address last.vat.now.entries.items tree

-- the table counts the tree's nodes
pub record IsCounted (last : LastTable) (tree : Tree) : Type 0 where
  pub count : last.vat.now.files + last.vat.now.directories ≡ len tree
  pub few : last.vat.now.files + last.vat.now.directories ≤ NODES

-- the change is the one that a request makes of the table's state at a moment
abbrev pub IsChangeIn : List Event → LastTable → Tree → Request → ℕ → Change → Type 0
IsChangeIn journal last tree request moment change =
    IsChangeOf (held journal) (graph_below last.vat_icb_address last.vat.now.entries.items journal) (free_address last.vat.now.entries.items) tree (model_operation request.op) moment last.vat.now.sessions.next_unique change

-- what its file keeps is where the file's entry says, in the table's state
abbrev pub KeepsIn : List Event → LastTable → ℕ → Change → Type 0
KeepsIn journal last moment change = KeepPlaces udf (take last.vat_icb_address (held journal)) last.vat.now.entries.items (change_writings (held journal) moment change)

-- whatever the numbers of the entries are, the table takes this new node, and what the change writes and removes
abbrev pub IsTakenWith : Medium → Option NewNode → ℕ → Change → Table → Type 0
IsTakenWith medium made moment change base =
    (written : List Written) → map (λ (w : Written). w.address) written ≡ map (λ (n : Writing). n.address) (change_writings medium moment change) → AreTaken made written change.removed base

-- it takes the change
abbrev pub IsTakenBy : Medium → ℕ → Change → Table → Type 0
IsTakenBy medium moment change base = IsTakenWith medium change.made moment change base

-- the most blocks that a request's change may take
abbrev pub need_of : LastTable → Request → Change → ℕ
need_of last request change = change_need change (begun last.vat_icb_address request.client request.number (code_number change.code) change.made (view last.vat.now))

-- what the next table says of a request, before any of its nodes is placed
abbrev pub table_committed : LastTable → Request → Change → Table
table_committed last request change = committed last.vat_icb_address request.client request.number (code_number change.code) (view last.vat.now)
