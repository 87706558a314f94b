-- Why a walk through the nodes of a tree ends: no tree has what it expects.
use Rattle.std.specs.Prelude.{◌≡◌, ℕ, ◌<◌, ◌≤◌, ⊤, true, false, List, ◌++◌, length, IfSome, All}
use Rattle.limits.specs.declared.TheConstants.{PATH_NAMES}
use Rattle.dir.specs.declared.entry.Entry.{Entry as DirEntry}
use Rattle.dir.specs.Directory.{is_directory, IsDirectory}
use Rattle.model.specs.Graph.{Graph, HasParent, MakesTree, Reach, Stored, is_directory as stored_is_directory}
use Rattle.model.specs.Identities.{HasIdentities}
use Rattle.model.specs.Tree.{Has, IsTree, Path, Tree, identity_at}
use Rattle.udf.specs.Udf.{IsBlock}
use Rattle.recover.specs.declared.directory.Extent.{Extent}
use Rattle.recover.specs.declared.fault.StoreFault.{StoreFault}
use Rattle.recover.specs.declared.fault.StoreFault.TheVariants.{Device, Memory, Damaged}
use Rattle.recover.specs.declared.walk.Body.{Body}
use Rattle.recover.specs.declared.walk.Named.{Named}
use Rattle.recover.specs.declared.walk.Walk.{Walk}
use Rattle.recover.specs.Forest.{IsAssigned}
use Rattle.recover.specs.Nodes.{data_of, links_of}
use Rattle.recover.specs.Walk.{HasFileEntry, LeadsTo, LiesBelow, reached_in, uniques_in}

-- why no entry was reached: the table leads to none below its own, or it was reached before, or the path is too long
abbrev pub IsReachRefused : Walk → Named → StoreFault → Type 0
IsReachRefused before node Memory = ⊤
IsReachRefused before node (Damaged block cause) =
    (entry_at : ℕ) → LeadsTo before.entries.now node.address entry_at → entry_at < before.at → reached_in before node.address ≡ false → node.depth ≤ PATH_NAMES → ⊥
IsReachRefused before node _ = ⊥

-- the node has no entry there with bytes that lie below, or its unique ID is not its own
abbrev pub HasNoBody : List (List ℕ) → Walk → ℕ → Named → Type 0
HasNoBody medium before entry_at node =
    (body : Body) → HasFileEntry medium entry_at node body → IfSome body.extent (LiesBelow before.at) → IsAssigned before.next_unique node.address node.unique → uniques_in before node.unique ≡ false → ⊥

-- why an entry was not taken
abbrev pub IsBodyRefused : List (List ℕ) → Walk → ℕ → Named → StoreFault → Type 0
IsBodyRefused medium before entry_at node Device = ⊤
IsBodyRefused medium before entry_at node Memory = ⊤
IsBodyRefused medium before entry_at node (Damaged block cause) = HasNoBody medium before entry_at node
IsBodyRefused medium before entry_at node _ = ⊥

-- the blocks are no directory's with this address above it and with so many links
abbrev pub HaveNoNames : List (List ℕ) → ℕ → ℕ → Extent → Type 0
HaveNoNames medium above count extent =
    (entries : List (List ℕ × DirEntry)) → All IsBlock (data_of medium extent) → IsDirectory above entries extent.first extent.size (data_of medium extent) → count ≡ links_of entries → ⊥

-- why no names were read
abbrev pub IsNamesRefused : List (List ℕ) → ℕ → ℕ → Extent → StoreFault → Type 0
IsNamesRefused medium above count extent Device = ⊤
IsNamesRefused medium above count extent Memory = ⊤
IsNamesRefused medium above count extent (Damaged block cause) = HaveNoNames medium above count extent
IsNamesRefused medium above count extent _ = ⊥

-- a path that does not go on from the end of another
abbrev pub IsBeside : Path → Path → Type 0
IsBeside path other = (more : Path) → other ≡ path ++ more → ⊥

-- the tree has the node at the end of this path, and all that was seen before it at other ones
pub record Expects (graph : Graph) (tree : Tree) (before : Walk) (node : Named) (path : Path) : Type 0 where
  pub reach : Reach graph path node.address
  pub depth : length path ≡ node.depth
  pub stored : Stored
  pub there : graph node.address stored
  pub kind : stored_is_directory stored ≡ is_directory node.kind
  pub identity : stored.identity ≡ node.unique
  pub parent : stored_is_directory stored ≡ true → HasParent stored node.above
  pub reached : (address : ℕ) → reached_in before address ≡ true → (other : Path) × Reach graph other address × IsBeside path other
  pub uniques : (identity : ℕ) → uniques_in before identity ≡ true → (other : Path) × Has tree other × (identity_at tree other ≡ identity) × IsBeside path other

-- no tree has the node
abbrev pub IsUnexpected : Graph → Walk → Named → Type 0
IsUnexpected graph before node = (tree : Tree) (path : Path) → IsTree tree → MakesTree graph tree → HasIdentities tree before.next_unique → Expects graph tree before node path → ⊥

-- why a node was refused, or one below it
abbrev pub IsVisitRefused : Graph → Walk → Named → StoreFault → Type 0
IsVisitRefused graph before node Device = ⊤
IsVisitRefused graph before node Memory = ⊤
IsVisitRefused graph before node (Damaged block cause) = IsUnexpected graph before node
IsVisitRefused graph before node _ = ⊥
