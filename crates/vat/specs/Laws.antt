-- What holds of tables, each the contract of a public function.
use Rattle.std.specs.Prelude.{◌≡◌, ℕ, ◌+◌, ◌*◌, ◌≤◌, List, length}
use Rattle.limits.specs.declared.TheConstants.{ADDRESSES, ADDRESS_BYTES, TABLE_HEAD_BYTES}
use Rattle.vat.specs.Version.{record_size}
use Rattle.vat.specs.Table.{Table, FitsTable, IsTable, IsTableAt}

-- bytes are one table at most, wherever its entry is
abbrev pub OneTable : Type 0
OneTable = (icb other : ℕ) (t u : Table) (bytes : List ℕ) → IsTableAt icb t bytes → IsTableAt other u bytes → t ≡ u

-- each node and the file set have an entry, and there is an end to them
abbrev pub NodesHaveEntries : Type 0
NodesHaveEntries = (t : Table) → FitsTable t → (1 + (t.files + t.directories) ≤ length t.entries) × (length t.entries ≤ ADDRESSES)

-- how many bytes a table takes
abbrev pub TakesSoMany : Type 0
TakesSoMany = (t : Table) (bytes : List ℕ) → IsTable t bytes → length bytes ≡ TABLE_HEAD_BYTES + (record_size t.version * length t.records + ADDRESS_BYTES * length t.entries)

-- a table that is valid is valid for every later entry too
abbrev pub IsValidLater : Type 0
IsValidLater = (icb later : ℕ) (t : Table) (bytes : List ℕ) → icb ≤ later → IsTableAt icb t bytes → IsTableAt later t bytes
