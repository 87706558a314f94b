-- The table of virtual addresses, apart from what its entries say: which addresses are used, and which a new node gets.
use Rattle.std.specs.Prelude.{suc, ◌≡◌, ◌↔◌, ℕ, ◌<◌, ◌==◌, Bool, true, false, if◌then◌else◌, nat_lt, List, [], ◌∷◌, ◌++◌, length, drop, slice_get, slice_set, Option, Some, None, is_some, count_by}
use Rattle.model.specs.Operation.{Operation}
use Rattle.model.specs.Operation.Operation.{Create, Replace, Append, MakeDir, Rename, Remove}
use Rattle.model.specs.Graph.{Graph}
use Rattle.model.specs.Change.{ChangesNodes, IsReached}

-- under each address where something begins, or nothing
abbrev pub AddressTable : Type 0
AddressTable = List (Option ℕ)

abbrev pub used_entry : Option (Option ℕ) → Bool
used_entry None = false
used_entry (Some entry) = is_some entry

abbrev pub is_used : AddressTable → ℕ → Bool
is_used table address = used_entry (slice_get table address)

-- how many addresses are used
abbrev pub used_in : AddressTable → ℕ
used_in table = count_by is_some table

-- Address 0 is the file set's, which no path reaches, and each other used one is that of a node which a path reaches.
pub record HoldsNodes (graph : Graph) (table : AddressTable) : Type 0 where
  pub set : is_used table 0 ≡ true
  pub apart : IsReached graph 0 → ⊥
  pub nodes : (address : ℕ) → 0 < address → (is_used table address ≡ true) ↔ IsReached graph address

-- how many entries there are before the first unused one
abbrev pub used_first : AddressTable → ℕ
used_first [] = 0
used_first (None ∷ table) = 0
used_first (Some start ∷ table) = suc (used_first table)

-- what a new node gets: the least unused address from 2 on, else the one past the table's end
abbrev pub free_address : AddressTable → ℕ
free_address table = suc (suc (used_first (drop 2 table)))

-- the table with an entry at an address that is not past its end
abbrev pub with_address : ℕ → ℕ → AddressTable → AddressTable
with_address address start table = if nat_lt address (length table) then slice_set table address (Some start) else table ++ Some start ∷ []

-- the table without an entry that was used: its address becomes unused, and the table does not get shorter
abbrev pub without_entry : ℕ → AddressTable → AddressTable
without_entry address table = slice_set table address None

-- Which addresses are used after an operation that is answered 0: a new node's too, and that of a node that is gone no more.
abbrev pub UsedAfter : (graph graph' : Graph) (op : Operation) (moment identity : ℕ) → ChangesNodes graph graph' op moment identity → AddressTable → AddressTable → Type 0
UsedAfter graph graph' (Create path bytes) moment identity change table table' = (0 < change.address) × ((address : ℕ) → is_used table' address ≡ (if address == change.address then true else is_used table address))
UsedAfter graph graph' (MakeDir path) moment identity change table table' = (0 < change.address) × ((address : ℕ) → is_used table' address ≡ (if address == change.address then true else is_used table address))
UsedAfter graph graph' (Replace path bytes) moment identity change table table' = (address : ℕ) → is_used table' address ≡ is_used table address
UsedAfter graph graph' (Append path offset bytes) moment identity change table table' = (address : ℕ) → is_used table' address ≡ is_used table address
UsedAfter graph graph' (Rename from to) moment identity change table table' = (address : ℕ) → is_used table' address ≡ is_used table address
UsedAfter graph graph' (Remove path) moment identity change table table' = (address : ℕ) → is_used table' address ≡ (if address == change.gone.address then false else is_used table address)
