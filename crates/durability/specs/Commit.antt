-- How many blocks a commit may take, from sizes alone.
use Rattle.std.specs.Prelude.{ℕ, ◌+◌, ◌*◌, ◌/◌, if◌then◌else◌, ◌==◌, nat_lt, List, [], length}
use Rattle.limits.specs.declared.TheConstants.{INSIDE_BYTES, LEAST_FILLED_BYTES, TABLE_HEAD_BYTES, RECORD_BYTES, ADDRESS_BYTES}
use Rattle.model.specs.Tree.{Name, Tree, names_at, parent_of, is_directory_at, paths_eq}
use Rattle.model.specs.Operation.{Operation, code_of}
use Rattle.model.specs.Operation.Operation.{Create, Replace, Append, MakeDir, Rename, Remove}
use Rattle.model.specs.Session.{State, Request, after_one}
use Rattle.durability.specs.Formats.{identifiers_size}
use Rattle.durability.specs.Volume.{blocks_for, descriptor_blocks}

-- the most bytes of a file that are in its entry
abbrev pub most_inside : ℕ
most_inside = INSIDE_BYTES

-- the blocks of a file's bytes outside its entry
abbrev pub file_blocks : ℕ → ℕ
file_blocks size = if nat_lt most_inside size then blocks_for size else 0

-- the most blocks that a file's data and its entry take: before the data there may be as many blocks of zeros
abbrev pub most_for_file : List ℕ → ℕ
most_for_file bytes = 2 * file_blocks (length bytes) + 1

-- the most that so many bytes take after those that a file has, of which there are `offset`, with the file's descriptor blocks and its entry
abbrev pub most_for_append : ℕ → ℕ → ℕ
most_for_append offset size = if offset == 0 then 2 * file_blocks size + 1 else 2 * blocks_for size + descriptor_blocks (offset + size) + 1

-- the most blocks that a directory's data and its entry take
abbrev pub most_for_directory : (Name → ℕ) → List Name → ℕ
most_for_directory spelled names = 2 + identifiers_size spelled names / LEAST_FILLED_BYTES

-- the bytes of a table with so many records and entries
abbrev pub table_size : ℕ → ℕ → ℕ
table_size records entries = TABLE_HEAD_BYTES + RECORD_BYTES * records + ADDRESS_BYTES * entries

-- the most blocks that a table's data and its entry take
abbrev pub most_for_table : State → ℕ
most_for_table state = 2 * blocks_for (table_size (length state.records) state.table_length) + 1

abbrev pub most_for_directory_at : (Name → ℕ) → Tree → List Name → ℕ
most_for_directory_at spelled tree path = most_for_directory spelled (names_at tree path)

-- the most blocks of the nodes that an operation answered 0 writes, by the tree that it leaves
abbrev pub most_for_nodes : (Name → ℕ) → Operation → Tree → ℕ
most_for_nodes spelled (Create path bytes) tree = most_for_file bytes + most_for_directory_at spelled tree (parent_of path)
most_for_nodes spelled (MakeDir path) tree = most_for_directory spelled [] + most_for_directory_at spelled tree (parent_of path)
most_for_nodes spelled (Replace path bytes) tree = most_for_file bytes
most_for_nodes spelled (Append path offset bytes) tree = most_for_append offset (length bytes)
most_for_nodes spelled (Rename from to) tree =
    if paths_eq (parent_of from) (parent_of to) then most_for_directory_at spelled tree (parent_of to)
    else (if is_directory_at tree to then most_for_directory_at spelled tree to else 0)
    + most_for_directory_at spelled tree (parent_of from) + most_for_directory_at spelled tree (parent_of to)
most_for_nodes spelled (Remove path) tree = most_for_directory_at spelled tree (parent_of path)

-- the most blocks that a request writes at a state
abbrev pub need : (Name → ℕ) → State → Request → ℕ
need spelled state request =
    (if code_of request.operation state.tree == 0 then most_for_nodes spelled request.operation (after_one state request).tree else 0)
    + most_for_table (after_one state request)
