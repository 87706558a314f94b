-- What is asked of a node that gets another path.
use Rattle.std.specs.Prelude.{◌≡◌, ℕ, true, List, [], ◌∷◌, ◌++◌, length, nat_le, if◌then◌else◌, None, Result}
use Rattle.std.specs.FinMap.{get}
use Rattle.limits.specs.declared.TheConstants.{DIRECTORY_NAMES}
use Rattle.model.specs.Tree.{Name, Path, Tree, Has, names_at}
use Rattle.model.specs.Graph.{Graph, Stored, Entry}
use Rattle.model.specs.Operation.{code_of}
use Rattle.model.specs.Operation.Operation.{Rename}
use Rattle.drive.specs.declared.Drive.{Ghosts}
use Rattle.durability.specs.Plan.{Writing, turned}
use Rattle.recover.specs.declared.fault.StoreFault.{StoreFault}
use Rattle.lookup.specs.Lookups.{Answers, Sees}
use Rattle.lookup.specs.declared.lookup.Lookup.{Lookup}
use Rattle.planning.specs.Changes.{IsChangeSeen}
use Rattle.planning.specs.declared.change.Change.{Change}
use Rattle.udf.specs.Said.{names_directory}
use Rattle.recover.specs.declared.node.Node.{Node}
use Rattle.lookup.specs.Shows.{IsNodeAt}

-- another name in one directory, which does not have it
pub record IsMoveWithin (graph : Graph) (tree : Tree) (from to : Path) (parent : Node) (old new : Name) : Type 0 where
  pub above : Path
  pub from_is : from ≡ above ++ old ∷ []
  pub to_is : to ≡ above ++ new ∷ []
  pub here : Has tree from
  pub new_there : get tree to ≡ None
  pub parent_at : IsNodeAt graph above parent
  pub directory : names_directory parent.kind ≡ true
  pub code_is : code_of (Rename from to) tree ≡ 0

-- to another directory, which does not have the name, and may be full
pub record IsBetween (graph : Graph) (tree : Tree) (from to : Path) (node source_dir target_dir : Node) (old new : Name) : Type 0 where
  pub above : Path
  pub beyond : Path
  pub from_is : from ≡ above ++ old ∷ []
  pub to_is : to ≡ beyond ++ new ∷ []
  pub elsewhere : above ≡ beyond → ⊥
  pub node_at : IsNodeAt graph from node
  pub new_there : get tree to ≡ None
  pub loses_at : IsNodeAt graph above source_dir
  pub loses_directory : names_directory source_dir.kind ≡ true
  pub gains_at : IsNodeAt graph beyond target_dir
  pub gains_directory : names_directory target_dir.kind ≡ true
  pub code_is : code_of (Rename from to) tree ≡ (if nat_le DIRECTORY_NAMES (length (names_at tree beyond)) then 9 else 0)

-- what is written of the node at this address, which gets another parent
abbrev pub Turns : ℕ → Stored → ℕ → List Writing → Type 0
Turns address s parent nodes = (moved : Entry) → moved.address ≡ address → nodes ≡ turned moved s parent

-- for a move of which this holds in the tree that is seen
abbrev pub Moves : {D : Type 0} (drive : Ghosts D) → Lookup D drive → Lookup D drive → (Tree → Path → Path → Type 0) → ℕ → Result Change StoreFault → Type 0
Moves drive old new holds moment result = (tree : Tree) (from to : Path) (identity : ℕ) → Sees drive old new tree → holds tree from to → Answers result (IsChangeSeen drive old tree (Rename from to) moment identity)
