-- The most blocks that a table may take, from its sizes alone.
use Rattle.std.specs.Prelude.{ℕ, ◌+◌, ◌*◌, length}
use Rattle.std.specs.Int.{div_ceil}
use Rattle.limits.specs.declared.TheConstants.{BLOCK_BYTES}
use Rattle.durability.specs.Commit.{table_size}
use Rattle.vat.specs.Table.{Table}

-- before data there may be as many blocks of zeros
abbrev pub table_need : Table → ℕ
table_need t = 2 * div_ceil (table_size (length t.records) (length t.entries)) BLOCK_BYTES + 1
