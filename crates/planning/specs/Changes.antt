-- What a request does to the nodes, in the model's words.
use Rattle.std.specs.Prelude.{◌≡◌, ℕ, Bool, List, [], ◌∷◌, Option, Some, None, IfSome, if◌then◌else◌, nat_le}
use Rattle.limits.specs.declared.TheConstants.{NODES, DIRECTORY_NAMES}
use Rattle.model.specs.Tree.{Path, Tree, Content}
use Rattle.model.specs.Tree.Content.{File as FileContent, Directory as DirectoryContent}
use Rattle.model.specs.Change.{new_body}
use Rattle.model.specs.Graph.{Graph, as_stored}
use Rattle.model.specs.Operation.{Operation, code_of}
use Rattle.model.specs.Operation.Operation.{Create, MakeDir}
use Rattle.drive.specs.Journal.{held}
use Rattle.drive.specs.declared.Drive.{Ghosts}
use Rattle.durability.specs.Volume.{Medium}
use Rattle.durability.specs.Plan.{KeepPlaces, Plans, Writing}
use Rattle.lookup.specs.Lookups.{below_seen, free_seen, graph_seen}
use Rattle.lookup.specs.declared.lookup.Lookup.{Lookup}
use Rattle.request.specs.Numbers.{code_number}
use Rattle.request.specs.declared.answer.Code.{Code}
use Rattle.request.specs.declared.answer.Code.TheVariants as code
use Rattle.planning.specs.declared.change.Change.{Change}
use Rattle.planning.specs.declared.file.NewFile.{NewFile}
use Rattle.planning.specs.declared.change.NewContent.{NewContent}
use Rattle.planning.specs.declared.change.NewContent.TheVariants as thing
use Rattle.recover.specs.declared.node.Node.{Node}
use Rattle.table_update.specs.NextTable.{made_by, RemovesNode}
use Rattle.planning.specs.Writings.{AreKeptOn, change_writings}
use Rattle.udf.specs.Udf.{udf}

-- a new path with this at it
abbrev pub addition : Path → NewContent → Operation
addition path (thing.File bytes) = Create path bytes.now
addition path thing.Directory = MakeDir path

abbrev pub content_of_thing : NewContent → Content
content_of_thing (thing.File bytes) = FileContent bytes.now
content_of_thing thing.Directory = DirectoryContent []

-- what is written of it, below a directory
abbrev pub new_writing : (address identity moment parent : ℕ) → NewContent → Writing
new_writing address identity moment parent what = record { address = address; kept = 0; firsts = []; stored = as_stored identity moment (new_body parent (content_of_thing what)) }

-- the code of an addition, by whether the directory has the name, how many names it has, and how many nodes there are
abbrev pub code_by_names : Bool → ℕ → ℕ → ℕ
code_by_names has names nodes = if has then 3 else (if nat_le DIRECTORY_NAMES names then 9 else (if nat_le NODES nodes then 10 else 0))

abbrev pub addresses_in : Option Node → List ℕ
addresses_in None = []
addresses_in (Some node) = node.address ∷ []

-- the addresses that are unused afterwards
abbrev pub gone_of : Change → List ℕ
gone_of change = addresses_in change.removed

-- nothing is done, with this code
pub record IsChangeRefused (code : Code) (change : Change) : Type 0 where
  pub code_is : change.code ≡ code
  pub file : change.file ≡ None
  pub directories : change.directories.items ≡ []
  pub made : change.made ≡ None
  pub removed : change.removed ≡ None

-- The change has the operation's code. With code 0 it is the one that the operation plans, with the node that it makes and
-- the one that goes, and else nothing is done. The medium has the bytes that its file keeps.
pub record IsChangeOf (medium : Medium) (graph : Graph) (free : ℕ) (tree : Tree) (operation : Operation) (moment identity : ℕ) (change : Change) : Type 0 where
  pub code_is : code_number change.code ≡ code_of operation tree
  pub done : code_of operation tree ≡ 0
      → Plans graph free operation moment identity (change_writings medium moment change) (gone_of change)
      × (change.made ≡ made_by operation free) × RemovesNode operation tree (gone_of change) change.removed
  pub refused : (code_of operation tree ≡ 0 → ⊥) → (change_writings medium moment change ≡ []) × (gone_of change ≡ []) × (change.made ≡ None) × (change.removed ≡ None)
  pub kept : IfSome change.file (AreKeptOn medium)

-- the change of an operation on the state that a look-up sees
abbrev pub IsChangeSeen : {D : Type 0} (drive : Ghosts D) → Lookup D drive → Tree → Operation → ℕ → ℕ → Change → Type 0
IsChangeSeen drive l tree operation moment identity change = IsChangeOf (held (drive.journal l.drive.now)) (graph_seen drive l) (free_seen l) tree operation moment identity change

-- what its file keeps is where the file's entry says, on the state that a look-up sees
abbrev pub KeepsSeen : {D : Type 0} (drive : Ghosts D) → Lookup D drive → ℕ → Change → Type 0
KeepsSeen drive l moment change = KeepPlaces udf (below_seen drive l) l.nodes.numbers.now (change_writings (held (drive.journal l.drive.now)) moment change)

-- a file is written for a node: after what it keeps it gets these bytes
pub record WritesFile (node : Node) (extents bytes : List ℕ) (change : Change) : Type 0 where
  pub file : NewFile
  pub file_is : change.file ≡ Some file
  pub address : file.address ≡ node.address
  pub unique : file.unique ≡ node.unique
  pub kept : file.kept ≡ extents
  pub bytes_are : file.bytes.now ≡ bytes
  pub code : change.code ≡ code.Done
  pub directories : change.directories.items ≡ []
  pub made : change.made ≡ None
  pub removed : change.removed ≡ None

-- nothing but the directories that are written is another
pub record IsSameButDirectories (old new : Change) : Type 0 where
  pub code : new.code ≡ old.code
  pub file : new.file ≡ old.file
  pub made : new.made ≡ old.made
  pub removed : new.removed ≡ old.removed
