-- A directory that is written again, with other names.
use Rattle.std.specs.Prelude.{◌≡◌, ℕ, List, [], ◌∷◌, ◌++◌, Option, nat_eq}
use Rattle.std.specs.Cmp.Lexicographic.{pointwise}
use Rattle.std.specs.Map.{lookup, remove_entry}
use Rattle.dir.specs.declared.entry.Entry.{Entry}
use Rattle.lookup.specs.Shows.{MatchesStored}
use Rattle.lookup.specs.declared.content.Content.{Content}
use Rattle.lookup.specs.declared.nodes.Placed.{Placed}
use Rattle.model.specs.Graph.{Stored}
use Rattle.model.specs.Tree.{Name}
use Rattle.planning.specs.declared.change.Change.{Change}
use Rattle.planning.specs.declared.change.NewDirectory.{NewDirectory}
use Rattle.recover.specs.declared.node.Node.{Node}

-- the directory of a node, with this moment and these names
pub record IsRewritten (node : Node) (moment : ℕ) (content : Content) (entries : List (Name × Entry)) (d : NewDirectory) : Type 0 where
  pub address : d.address ≡ node.address
  pub unique : d.unique ≡ node.unique
  pub moment_is : d.moment ≡ moment
  pub parent : d.content.dir.parent ≡ content.dir.parent
  pub entries_are : d.content.dir.entries.entries ≡ entries

-- it is written after the others
abbrev pub Rewrites : Node → ℕ → Content → List (Name × Entry) → Change → Change → Type 0
Rewrites node moment content entries old new = (d : NewDirectory) × (new.directories.items ≡ old.directories.items ++ d ∷ []) × IsRewritten node moment content entries d

-- of a directory that is stored, a name's entry is found, and the directory is written without that name
pub record TakesName (s : Stored) (node : Node) (moment : ℕ) (name : Name) (found : Option Entry) (old new : Change) : Type 0 where
  pub placed : Placed
  pub content : Content
  pub shown : MatchesStored s placed content
  pub found_is : found ≡ lookup (pointwise nat_eq name) content.dir.entries.entries
  pub written : Rewrites node moment content (remove_entry (pointwise nat_eq name) content.dir.entries.entries) old new
