-- What a commit adds to a medium, and what is recovered on its prefixes.
use Rattle.std.specs.Prelude.{◌≡◌, ℕ, ◌+◌, ◌-◌, ◌<◌, ◌≤◌, List, [], ◌++◌, length, take, slice_get, Some}
use Rattle.limits.specs.declared.TheConstants.{FORMAT_BLOCKS, FIRST_UNIQUE}
use Rattle.model.specs.Tree.{files_of, directories_of}
use Rattle.model.specs.Operation.{code_of}
use Rattle.model.specs.Session.{State, Request, after_one}
use Rattle.model.specs.Graph.{Graph, as_stored}
use Rattle.model.specs.Graph.Body.{Entries}
use Rattle.model.specs.Change.{ChangesNodes, IsReached, IsKeptUnder}
use Rattle.durability.specs.Formats.{Block, Table_, Formats}
use Rattle.durability.specs.Volume.{Medium, partition_start, IsStoredAt, NoneImitates, HasTable, RecoversTo, RecoveredTo, graph_of}

-- What is stored changes as the request's operation does; where the request is refused, what paths reach stays.
pub record FollowsRequest (graph graph' : Graph) (state : State) (request : Request) : Type 0 where
  pub done : code_of request.operation state.tree ≡ 0 → ChangesNodes graph graph' request.operation request.moment state.next_identity
  pub refused : (code_of request.operation state.tree ≡ 0 → ⊥) → (address : ℕ) → IsReached graph address → IsKeptUnder graph graph' address

module _ (formats : Formats) where
  -- The medium goes on from the one before. At each prefix before its end the old state is recovered, at its end the new one.
  pub record Moves (capacity volume : ℕ) (before : Medium) (S : State) (afterwards : Medium) (S' : State) : Type 0 where
    pub more : (added : List Block) × (afterwards ≡ before ++ added)
    pub fronts : (k : ℕ) → length before ≤ k → k < length afterwards → RecoversTo formats capacity volume (take k afterwards) S
    pub ends : RecoversTo formats capacity volume afterwards S'
    -- and what was recovered before is remembered
    pub past : (commits : ℕ) (state : State) → RecoveredTo formats capacity volume before commits state → RecoveredTo formats capacity volume afterwards commits state

  -- The blocks of a commit, and its table entry after them, carry out the request at the recovered state.
  pub record CarriesOut (capacity volume : ℕ) (medium : Medium) (S : State) (stands : RecoversTo formats capacity volume medium S) (request : Request) (blocks : List Block) (mark : Block) : Type 0 where
    pub none : NoneImitates formats (length medium) blocks
    pub some : 1 ≤ length blocks
    pub table : Table_
    pub has : HasTable formats (medium ++ blocks) (length medium + length blocks) mark table (after_one S request).moment
    pub label : table.label ≡ stands.tells.table.label
    pub previous : table.previous ≡ Some (stands.at - partition_start)
    pub commits : table.commits ≡ (after_one S request).commits
    pub next_identity : table.next_identity ≡ (after_one S request).next_identity
    pub records : table.records ≡ (after_one S request).records
    pub table_length : length table.entries ≡ (after_one S request).table_length
    pub files : table.files ≡ files_of (after_one S request).tree
    pub directories : table.directories ≡ directories_of (after_one S request).tree
    pub set : slice_get table.entries 0 ≡ slice_get stands.tells.table.entries 0
    pub follows : FollowsRequest (graph_of formats (take stands.at medium) stands.tells.table.entries) (graph_of formats (medium ++ blocks) table.entries) S request

  -- The blocks of a format, and its table entry after them.
  pub record IsFormat (capacity volume : ℕ) (label : List ℕ) (moment : ℕ) (blocks : List Block) (mark : Block) : Type 0 where
    pub long : length blocks ≡ FORMAT_BLOCKS - 1
    pub none : NoneImitates formats 0 blocks
    pub front : formats.IsFront label moment volume (take partition_start blocks)
    pub fits : volume ≤ capacity
    pub table : Table_
    pub has : HasTable formats blocks (FORMAT_BLOCKS - 1) mark table moment
    pub label_is : table.label ≡ label
    pub commits : table.commits ≡ 0
    pub next_identity : table.next_identity ≡ FIRST_UNIQUE
    pub records : table.records ≡ []
    pub table_length : length table.entries ≡ 2
    pub files : table.files ≡ 0
    pub directories : table.directories ≡ 1
    pub set_number : ℕ
    pub set_used : slice_get table.entries 0 ≡ Some (Some set_number)
    pub set_block : Block
    pub set_there : slice_get blocks (set_number + partition_start) ≡ Some set_block
    pub set_is : formats.IsFileSet label moment set_block
    pub root : IsStoredAt formats blocks table.entries 1 (as_stored 0 moment (Entries 1 []))
