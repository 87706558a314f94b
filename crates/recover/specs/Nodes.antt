-- What directories say of the nodes in them.
use Rattle.std.specs.Prelude.{◌≡◌, ℕ, ◌+◌, ⊤, List}
use Rattle.std.specs.Int.{div_ceil}
use Rattle.limits.specs.declared.TheConstants.{BLOCK_BYTES, PARTITION_START}
use Rattle.dir.specs.declared.entry.Entry.{Entry}
use Rattle.dir.specs.Directory.{directory_count, IsDirectory}
use Rattle.recover.specs.declared.directory.Extent.{Extent}
use Rattle.recover.specs.declared.fault.StoreFault.{StoreFault}
use Rattle.recover.specs.declared.fault.StoreFault.TheVariants.{Device, Memory, Damaged}
use Rattle.recover.specs.Blocks.{blocks_at}

-- the links of a directory: one, and one for each directory in it
abbrev pub links_of : List (List ℕ × Entry) → ℕ
links_of entries = 1 + directory_count entries

-- the blocks of a node's bytes
abbrev pub data_of : List (List ℕ) → Extent → List (List ℕ)
data_of medium extent = blocks_at medium (extent.first + PARTITION_START) (div_ceil extent.size BLOCK_BYTES)

-- why no directory was read from these blocks
abbrev pub IsDirectoryRefused : Extent → List (List ℕ) → StoreFault → Type 0
IsDirectoryRefused extent blocks Device = ⊤
IsDirectoryRefused extent blocks Memory = ⊤
IsDirectoryRefused extent blocks (Damaged block cause) =
    (block ≡ extent.first + PARTITION_START) × ((parent : ℕ) (entries : List (List ℕ × Entry)) → IsDirectory parent entries extent.first extent.size blocks → ⊥)
IsDirectoryRefused extent blocks _ = ⊥
