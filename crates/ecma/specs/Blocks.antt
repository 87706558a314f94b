-- Bytes in blocks.
use Rattle.std.specs.Prelude.{ℕ, ◌+◌, ◌-◌, ◌/◌}
use Rattle.limits.specs.declared.TheConstants.{BLOCK_BYTES}

-- how many blocks so many bytes take
abbrev pub block_count : ℕ → ℕ
block_count size = (size + (BLOCK_BYTES - 1)) / BLOCK_BYTES
