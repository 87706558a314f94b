-- The most blocks that a commit may take, from sizes alone.
use Rattle.std.specs.Prelude.{ℕ, ◌+◌, ◌*◌, ◌/◌, List, [], ◌∷◌, length, Option, Some, None}
use Rattle.std.specs.Int.{div_ceil}
use Rattle.limits.specs.declared.TheConstants.{BLOCK_BYTES, LEAST_FILLED_BYTES}
use Rattle.icb.specs.Extents.{descriptor_blocks}
use Rattle.dir.specs.Size.{name_sizes, plain_sizes}
use Rattle.vat.specs.Table.{Table}
pub use Rattle.table_update.specs.Needs.{table_need}
use Rattle.table_update.specs.Outside.{outside_after}
use Rattle.lookup.specs.Extents.{full_size}
use Rattle.planning.specs.declared.change.Change.{Change}
use Rattle.planning.specs.declared.file.NewFile.{NewFile}
use Rattle.planning.specs.declared.change.NewDirectory.{NewDirectory}

-- before data there may be as many blocks of zeros, and after them are the file's descriptor blocks
abbrev pub file_need : Option NewFile → ℕ
file_need None = 0
file_need (Some f) = 2 * div_ceil (length (outside_after (full_size f.kept) f.bytes.now)) BLOCK_BYTES + descriptor_blocks (full_size f.kept + length f.bytes.now) + 1

-- a block of a directory that another one follows is used up to byte 1,720 at least
abbrev pub directory_need : NewDirectory → ℕ
directory_need d = 2 + (40 + plain_sizes (name_sizes d.content.dir.entries.entries)) / LEAST_FILLED_BYTES

abbrev pub directories_need : List NewDirectory → ℕ
directories_need [] = 0
directories_need (d ∷ ds) = directory_need d + directories_need ds

-- for a change, where the table is as long as this one
abbrev pub change_need : Change → Table → ℕ
change_need change t = table_need t + file_need change.file + directories_need change.directories.items
