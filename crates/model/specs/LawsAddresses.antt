-- The laws of virtual addresses.
use Rattle.std.specs.Prelude.{◌≡◌, ℕ, ◌+◌, ◌<◌, ◌≤◌, max, ◌==◌, if◌then◌else◌, true, false, Option, length}
use Rattle.std.specs.FinMap.{len}
use Rattle.model.specs.Tree.{Tree, IsTree}
use Rattle.model.specs.Graph.{Stored, MakesTree}
use Rattle.model.specs.Operation.{Operation, code_of}
use Rattle.model.specs.Change.{ChangesNodes, IsReached, stored_in}
use Rattle.model.specs.Addresses.{AddressTable, HoldsNodes, UsedAfter, is_used, used_in, free_address, with_address, without_entry}

-- the file set and each node have an address, and nothing else has
abbrev pub UsedAreNodes : Type 0
UsedAreNodes = (graph : ℕ → Option Stored) (tree : Tree) (table : AddressTable) → IsTree tree → MakesTree (stored_in graph) tree → HoldsNodes (stored_in graph) table → used_in table ≡ 1 + len tree

-- A new node's address is unused, no path reaches it, it is 2 or more, not past the table's end, and the least such.
pub record IsLeastFree (graph : ℕ → Option Stored) (table : AddressTable) (address : ℕ) : Type 0 where
  pub unused : is_used table address ≡ false
  pub unreached : IsReached (stored_in graph) address → ⊥
  pub from_two : 2 ≤ address
  pub within : address ≤ length table
  pub least : (other : ℕ) → 2 ≤ other → other < address → is_used table other ≡ true

abbrev pub FreeIsFree : Type 0
FreeIsFree = (graph : ℕ → Option Stored) (table : AddressTable) → HoldsNodes (stored_in graph) table → 2 ≤ length table → IsLeastFree graph table (free_address table)

-- with a new node the table is as long as it was, or as the nodes then need
pub record IsWith (table : AddressTable) (nodes start : ℕ) : Type 0 where
  pub used : used_in (with_address (free_address table) start table) ≡ used_in table + 1
  pub each : (other : ℕ) → is_used (with_address (free_address table) start table) other ≡ (if other == free_address table then true else is_used table other)
  pub long : length (with_address (free_address table) start table) ≡ max (length table) (1 + (nodes + 1))

abbrev pub NewEntries : Type 0
NewEntries = (table : AddressTable) (nodes start : ℕ) → 2 ≤ length table → is_used table 0 ≡ true → is_used table 1 ≡ true → used_in table ≡ 1 + nodes → IsWith table nodes start

-- and without one it is as long as it was
pub record IsWithout (table : AddressTable) (address : ℕ) : Type 0 where
  pub used : used_in (without_entry address table) + 1 ≡ used_in table
  pub long : length (without_entry address table) ≡ length table
  pub each : (other : ℕ) → is_used (without_entry address table) other ≡ (if other == address then false else is_used table other)

abbrev pub GoneEntries : Type 0
GoneEntries = (table : AddressTable) (address : ℕ) → is_used table address ≡ true → IsWithout table address

-- so the table goes on to hold the nodes
abbrev pub EntriesFollow : Type 0
EntriesFollow = (op : Operation) (moment identity : ℕ) (tree : Tree) (before after : ℕ → Option Stored) (table table' : AddressTable) → IsTree tree → code_of op tree ≡ 0
    → MakesTree (stored_in before) tree → HoldsNodes (stored_in before) table → (change : ChangesNodes (stored_in before) (stored_in after) op moment identity)
    → UsedAfter (stored_in before) (stored_in after) op moment identity change table table' → HoldsNodes (stored_in after) table'
