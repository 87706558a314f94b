-- What a look-up sees in the nodes of a state, and what each of its calls leaves.
use Rattle.std.specs.Prelude.{◌≡◌, ℕ, ◌+◌, ◌≤◌, true, List, take, IsTrue, IfOk, IfErr, Result}
use Rattle.std.specs.Int.{div_ceil}
use Rattle.limits.specs.declared.TheConstants.{BLOCK_BYTES, PARTITION_START}
use Rattle.drive.specs.Journal.{held}
use Rattle.drive.specs.Reads.{ReadsOnly}
use Rattle.drive.specs.declared.Drive.{Ghosts}
use Rattle.model.specs.Addresses.{free_address}
use Rattle.model.specs.Tree.{Path, Tree}
use Rattle.model.specs.Graph.{Graph, Stored, is_directory}
use Rattle.recover.specs.Faults.{IsShortage}
use Rattle.recover.specs.declared.fault.StoreFault.{StoreFault}
use Rattle.udf.specs.Said.{names_directory}
use Rattle.recover.specs.declared.node.Node.{Node}
use Rattle.lookup.specs.Cache.{AreKept, LiesThere}
use Rattle.lookup.specs.Shows.{HasNodesOf, IsNodeAt, graph_below}
use Rattle.lookup.specs.declared.content.Content.{Content}
use Rattle.lookup.specs.declared.lookup.Lookup.{Lookup}
use Rattle.lookup.specs.declared.nodes.Placed.{Placed}

-- ---- what is seen

-- what is stored under the virtual addresses of its nodes
abbrev pub graph_seen : {D : Type 0} (drive : Ghosts D) → Lookup D drive → Graph
graph_seen drive l = graph_below l.nodes.vat_icb_address l.nodes.numbers.now (drive.journal l.drive.now)

-- what lies below the VAT ICB
abbrev pub below_seen : {D : Type 0} (drive : Ghosts D) → Lookup D drive → List (List ℕ)
below_seen drive l = take l.nodes.vat_icb_address (held (drive.journal l.drive.now))

-- the least of them that is unused
abbrev pub free_seen : {D : Type 0} {drive : Ghosts D} → Lookup D drive → ℕ
free_seen l = free_address l.nodes.numbers.now

-- the drive is honest to the end, and what was in the cache at first lies there
pub record IsReliable {D : Type 0} (drive : Ghosts D) (old new : Lookup D drive) : Type 0 where
  pub honest : IsTrue (drive.honest new.drive.now)
  pub kept : AreKept (drive.journal old.drive.now) old.cache.now

-- and the nodes make this tree
abbrev pub Sees : {D : Type 0} (drive : Ghosts D) → Lookup D drive → Lookup D drive → Tree → Type 0
Sees drive old new tree = HasNodesOf (drive.honest new.drive.now) (drive.journal old.drive.now) old.cache.now old.nodes.vat_icb_address old.nodes.numbers.now tree

-- and a path leads to this node
abbrev pub SeesNode : {D : Type 0} (drive : Ghosts D) → Lookup D drive → Lookup D drive → Tree → Path → Node → Type 0
SeesNode drive old new tree path node = Sees drive old new tree × IsNodeAt (graph_seen drive old) path node

-- a path leads to a directory, whose virtual address is this
pub record IsDirectoryAt (graph : Graph) (path : Path) (address : ℕ) : Type 0 where
  pub node : Node
  pub there : IsNodeAt graph path node
  pub directory : names_directory node.kind ≡ true
  pub address_is : node.address ≡ address

abbrev pub SeesDirectory : {D : Type 0} (drive : Ghosts D) → Lookup D drive → Lookup D drive → Tree → Path → ℕ → Type 0
SeesDirectory drive old new tree path address = Sees drive old new tree × IsDirectoryAt (graph_seen drive old) path address

-- ---- what is said

-- of what is stored at a virtual address, where the drive is honest
abbrev pub OfNode : {D : Type 0} (drive : Ghosts D) → Lookup D drive → Lookup D drive → ℕ → (Stored → Type 0) → Type 0
OfNode drive old new address says = IsTrue (drive.honest new.drive.now) → (s : Stored) → graph_seen drive old address s → says s

-- of a directory that is stored there, where the cache is right too
abbrev pub OfDirectory : {D : Type 0} (drive : Ghosts D) → Lookup D drive → Lookup D drive → ℕ → (Stored → Type 0) → Type 0
OfDirectory drive old new address says = IsReliable drive old new → (s : Stored) → graph_seen drive old address s → is_directory s ≡ true → says s

-- of what is stored at the virtual address of a node that has its kind
abbrev pub OfStoredNode : {D : Type 0} (drive : Ghosts D) → Lookup D drive → Lookup D drive → Node → (Stored → Type 0) → Type 0
OfStoredNode drive old new node says = IsReliable drive old new → (s : Stored) → graph_seen drive old node.address s → names_directory node.kind ≡ is_directory s → says s

-- what is answered, and that nothing is refused but for the drive's failure or for memory
abbrev pub Answers : {T : Type 0} → Result T StoreFault → (T → Type 0) → Type 0
Answers result says = IfOk result says × IfErr result IsShortage

-- ---- what is left

-- it has what it was lent, has only read, and the cache is right if it was
pub record Looks {D : Type 0} (drive : Ghosts D) (failed : ℕ) (old new : Lookup D drive) : Type 0 where
  pub same_drive : new.drive.ghost_name ≡ old.drive.ghost_name
  pub same_cache : new.cache.ghost_name ≡ old.cache.ghost_name
  pub nodes : new.nodes ≡ old.nodes
  pub reads : ReadsOnly drive failed old.drive.now new.drive.now
  pub kept : IsTrue (drive.honest new.drive.now) → AreKept (drive.journal old.drive.now) old.cache.now → AreKept (drive.journal old.drive.now) new.cache.now

-- it has what it was lent, and has put a directory into the cache
pub record KeepsToo {D : Type 0} (drive : Ghosts D) (placed : Placed) (content : Content) (old new : Lookup D drive) : Type 0 where
  pub same_drive : new.drive.ghost_name ≡ old.drive.ghost_name
  pub same_cache : new.cache.ghost_name ≡ old.cache.ghost_name
  pub nodes : new.nodes ≡ old.nodes
  pub drive_now : new.drive.now ≡ old.drive.now
  pub kept : LiesThere (drive.journal old.drive.now) placed content → AreKept (drive.journal old.drive.now) old.cache.now → AreKept (drive.journal old.drive.now) new.cache.now

-- a directory that was read or taken from the cache lies there, below the table of this state
pub record OpensDirectory {D : Type 0} (drive : Ghosts D) (old new : Lookup D drive) (placed : Placed) (content : Content) : Type 0 where
  pub lies : IsReliable drive old new → LiesThere (drive.journal old.drive.now) placed content
  pub below : placed.extent.first + PARTITION_START + div_ceil placed.extent.size BLOCK_BYTES ≤ old.nodes.vat_icb_address
