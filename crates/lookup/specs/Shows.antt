-- What is at the nodes of a state, and what a walk through them finds.
use Rattle.std.specs.Prelude.{◌≡◌, ℕ, Bool, true, false, IsTrue, List, [], take, Option, Some, None}
use Rattle.std.specs.FinMap.{get}
use Rattle.drive.specs.Journal.{Event, held}
use Rattle.recover.specs.Nodes.{data_of}
use Rattle.model.specs.Tree.{Path, Tree, IsTree, is_directory_at, identity_at}
use Rattle.model.specs.Graph.{Graph, Stored, Entry, MakesTree, is_directory}
use Rattle.model.specs.Graph.Body.{Entries}
use Rattle.model.specs.Change.{Found}
use Rattle.durability.specs.Volume.{graph_of}
use Rattle.udf.specs.Udf.{udf}
use Rattle.udf.specs.Said.{said_entries, names_directory}
use Rattle.lookup.specs.declared.content.Content.{Content}
use Rattle.lookup.specs.declared.cache.DirectoryCache.{DirectoryCache}
use Rattle.lookup.specs.declared.nodes.Placed.{Placed}
use Rattle.recover.specs.declared.node.Node.{Node}
use Rattle.lookup.specs.Cache.{AreKept}

-- what is stored under virtual addresses, on what a journal holds below the address of a VAT ICB
abbrev pub graph_below : ℕ → List (Option ℕ) → List Event → Graph
graph_below at entries journal = graph_of udf (take at (held journal)) entries

-- the data of a directory that is stored lie in an extent
pub record LiesIn (journal : List Event) (placed : Placed) (s : Stored) : Type 0 where
  pub parent : ℕ
  pub entries : List Entry
  pub body : s.body ≡ Entries parent entries
  pub is : udf.IsDirectory parent entries placed.extent.first placed.extent.size (data_of (held journal) placed.extent)
  pub moment : placed.moment ≡ s.moment

-- what was read is the directory that is stored
pub record MatchesStored (s : Stored) (placed : Placed) (content : Content) : Type 0 where
  pub body : s.body ≡ Entries content.dir.parent (said_entries content.dir.entries.entries)
  pub moment : placed.moment ≡ s.moment

-- an honest drive, kept directories that lie there, and nodes that make the tree
pub record HasNodesOf (is_honest : Bool) (journal : List Event) (directories : DirectoryCache) (at : ℕ) (entries : List (Option ℕ)) (t : Tree) : Type 0 where
  pub honest : IsTrue is_honest
  pub kept : AreKept journal directories
  pub tree : IsTree t
  pub makes : MakesTree (graph_below at entries journal) t
  pub root : identity_at t [] ≡ 0

-- the node is what the path leads to
pub record IsNodeAt (graph : Graph) (path : Path) (node : Node) : Type 0 where
  pub found : Found graph path
  pub address : node.address ≡ found.address
  pub kind : names_directory node.kind ≡ is_directory found.stored
  pub identity : node.unique ≡ found.stored.identity

-- the node that the tree has at a path, if it has one
abbrev pub IsFound : Graph → Tree → Path → Option Node → Type 0
IsFound graph tree path None = get tree path ≡ None
IsFound graph tree path (Some node) = IsNodeAt graph path node

-- the directory that it has there
abbrev pub IsFoundDirectory : Graph → Tree → Path → Option Node → Type 0
IsFoundDirectory graph tree path None = is_directory_at tree path ≡ false
IsFoundDirectory graph tree path (Some node) = IsNodeAt graph path node × (names_directory node.kind ≡ true)
