-- Files as they were found under the names of a directory.
use Rattle.std.specs.Prelude.{◌≡◌, ◌+◌, ◌≤◌, ℕ, List, Some, None, IfSome, take, get_or, slice_get}
use Rattle.limits.specs.declared.TheConstants.{FIRST_UNIQUE, PARTITION_START}
use Rattle.drive.specs.Journal.{Event, held, next_of}
use Rattle.dir.specs.declared.entry.Entry.{Entry}
use Rattle.dir.specs.declared.entry.Kind.TheVariants.{File}
use Rattle.model.specs.Graph.{Graph}
use Rattle.recover.specs.declared.checked.CheckedFile.{CheckedFile}
use Rattle.recover.specs.declared.checked.CheckedFiles.{CheckedFiles}
use Rattle.recover.specs.declared.walk.Named.{Named}
use Rattle.recover.specs.declared.walk.Walk.{Walk}
use Rattle.recover.specs.Walk.{Begun, HasEntry, Visits, nodes_of}

-- this file: whatever directory names it so, its entry says the same, and it lies below its top with all its bytes
pub record IsFileSeen (medium : List (List ℕ)) (file : CheckedFile) : Type 0 where
  pub is_no_root : file.address ≡ 1 → ⊥
  pub drawn : FIRST_UNIQUE ≤ file.unique
  pub has : (node : Named) → node.kind ≡ File → node.address ≡ file.address → node.unique ≡ file.unique → HasEntry (take file.top medium) file.top (file.number + PARTITION_START) node

-- it is the one that the name at this place stands for
pub record IsNameSeen (medium : List (List ℕ)) (entries : List (List ℕ × Entry)) (index : ℕ) (file : CheckedFile) : Type 0 where
  pub name : List ℕ × Entry
  pub there : slice_get entries index ≡ Some name
  pub kind : name.1.kind ≡ File
  pub address : name.1.virtual_address ≡ file.address
  pub unique : name.1.unique ≡ file.unique
  pub seen : IsFileSeen medium file

-- each that is kept
abbrev pub AreSeen : List (List ℕ) → List (List ℕ × Entry) → CheckedFiles → Type 0
AreSeen medium entries files = (index : ℕ) → IfSome (get_or files.files.items index None) (IsNameSeen medium entries index)

-- the node is the one that the name at this place stands for
pub record IsNamedAt (entries : List (List ℕ × Entry)) (index : ℕ) (node : Named) : Type 0 where
  pub name : List ℕ × Entry
  pub there : slice_get entries index ≡ Some name
  pub kind : node.kind ≡ name.1.kind
  pub address : node.address ≡ name.1.virtual_address
  pub unique : node.unique ≡ name.1.unique

-- the node was seen that the name at this place stands for, so many names deep
abbrev pub VisitsName : Graph → Walk → Walk → List (List ℕ × Entry) → ℕ → ℕ → Type 0
VisitsName graph before after entries index depth =
    (name : List ℕ × Entry) × (slice_get entries index ≡ Some name)
    × ((child : Named) → child.kind ≡ name.1.kind → child.address ≡ name.1.virtual_address → child.unique ≡ name.1.unique → child.depth ≡ depth → Visits graph before after child)

-- the file that is kept at the place of a name was seen, so many names deep
abbrev pub VisitsKept : Walk → Walk → CheckedFiles → ℕ → ℕ → Type 0
VisitsKept before after files index depth =
    (journal : List Event) (entries : List (List ℕ × Entry)) → before.at ≤ next_of journal → AreSeen (held journal) entries files → VisitsName (nodes_of journal before) before after entries index depth

-- Where the nodes of a directory, so many names deep, were seen up to one place, they are seen up to another: those between
-- are among its files that are kept.
abbrev pub WalksOn : Walk → Walk → CheckedFiles → ℕ → ℕ → ℕ → Type 0
WalksOn before after files depth from to =
    (journal : List Event) (start : Walk) (node : Named) (entries : List (List ℕ × Entry)) → before.at ≤ next_of journal → AreSeen (held journal) entries files
    → node.depth ≡ depth → before.next_unique ≡ start.next_unique → Begun (nodes_of journal before) start before node entries from → Begun (nodes_of journal before) start after node entries to
