-- What a walk through the nodes under virtual addresses sees: under each name a node, and below a directory what it names.
use Rattle.std.specs.Prelude.{◌≡◌, ◌⊎◌, ⊤, ℕ, ◌+◌, ◌<◌, ◌≤◌, ◌==◌, max, Bool, true, false, if◌then◌else◌, List, [], ◌∷◌, map}
use Rattle.std.specs.List.{IsDistinct}
use Rattle.std.specs.Str.{bytes_eq}
use Rattle.limits.specs.declared.TheConstants.{PATH_NAMES, FIRST_UNIQUE}
use Rattle.model.specs.Tree.{Name, Path}
use Rattle.model.specs.Graph.{Graph, Stored, Entry, entries_of, is_directory, links_in, HasParent}

-- nodes beside each other, each with its name, its virtual address, and the nodes below it
pub data Forest : Type 0 where
  End : Forest
  Seen : (name : Name) (address : ℕ) (stored : Stored) (below rest : Forest) → Forest

-- the entries that a directory with these nodes has
abbrev pub entries_named : Forest → List Entry
entries_named End = []
entries_named (Seen name address stored below rest) = record { name = name; is_directory = is_directory stored; address = address; identity = stored.identity } ∷ entries_named rest

-- a node that is stored in a directory with this address, with the links and the names that a node may have
pub record IsSeen (graph : Graph) (above address : ℕ) (stored : Stored) : Type 0 where
  pub there : graph address stored
  pub links : stored.links ≡ links_in stored.body
  pub parent : is_directory stored ≡ true → HasParent stored above
  pub distinct : IsDistinct bytes_eq (map (λ (e : Entry). e.name) (entries_of stored))

-- each node is seen, and below it are the nodes that it names
abbrev pub IsWalked : Graph → ℕ → Forest → Type 0
IsWalked graph above End = ⊤
IsWalked graph above (Seen name address stored below rest) =
    IsSeen graph above address stored × (entries_named below ≡ entries_of stored) × IsWalked graph address below × IsWalked graph above rest

-- a node at the end of this path
abbrev pub At : Forest → Path → ℕ → Stored → Type 0
At End path address stored = ⊥
At (Seen name here node below rest) path address stored =
    ((path ≡ name ∷ []) × (address ≡ here) × (stored ≡ node)) ⊎ (((path' : Path) × (path ≡ name ∷ path') × At below path' address stored) ⊎ At rest path address stored)

-- the names of the longest path
abbrev pub height : Forest → ℕ
height End = 0
height (Seen name address stored below rest) = max (1 + height below) (height rest)

-- how many of the nodes are files, and how many directories
abbrev pub files_in : Forest → ℕ
files_in End = 0
files_in (Seen name address stored below rest) = (if is_directory stored then 0 else 1) + (files_in below + files_in rest)

abbrev pub directories_in : Forest → ℕ
directories_in End = 0
directories_in (Seen name address stored below rest) = (if is_directory stored then 1 else 0) + (directories_in below + directories_in rest)

-- the identity of a node with this address that is below the next one
abbrev pub IsAssigned : ℕ → ℕ → ℕ → Type 0
IsAssigned next address identity = (address ≡ 1 → identity ≡ 0) × ((address ≡ 1 → ⊥) → (FIRST_UNIQUE ≤ identity) × (identity < next))

abbrev pub AreAssigned : ℕ → Forest → Type 0
AreAssigned next End = ⊤
AreAssigned next (Seen name address stored below rest) = IsAssigned next address stored.identity × AreAssigned next below × AreAssigned next rest

-- a set of numbers
abbrev pub Numbers : Type 0
Numbers = ℕ → Bool

-- the numbers with one that was not among them
abbrev pub InsertsNumber : Numbers → ℕ → Numbers → Type 0
InsertsNumber before n after = (before n ≡ false) × ((x : ℕ) → after x ≡ (if x == n then true else before x))

-- the numbers with one of each node, none of them twice
abbrev pub Adds : (ℕ → Stored → ℕ) → Numbers → Forest → Numbers → Type 0
Adds key before End after = (x : ℕ) → after x ≡ before x
Adds key before (Seen name address stored below rest) after =
    (here : Numbers) × InsertsNumber before (key address stored) here × (under : Numbers) × Adds key here below under × Adds key under rest after

abbrev pub by_address : ℕ → Stored → ℕ
by_address address stored = address

abbrev pub by_identity : ℕ → Stored → ℕ
by_identity address stored = stored.identity

-- the root with all below it
abbrev pub whole : Stored → Forest → Forest
whole root below = Seen [] 1 root below End

-- Each node that the root leads to is as the directory above says, none is reached twice, and no identity is drawn twice.
pub record IsWholeForest (graph : Graph) (next : ℕ) (root : Stored) (below : Forest) : Type 0 where
  pub walked : IsWalked graph 1 (whole root below)
  pub is_root : is_directory root ≡ true
  pub shallow : height (whole root below) ≤ PATH_NAMES + 1
  pub drawn : AreAssigned next (whole root below)
  pub addresses : (after : Numbers) × Adds by_address (λ x. false) (whole root below) after
  pub identities : (after : Numbers) × Adds by_identity (λ x. false) (whole root below) after
