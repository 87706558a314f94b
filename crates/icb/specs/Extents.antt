-- The extents of a file, each but the last of FILE_BYTES, and their allocation descriptors: those in its entry, and where
-- there are more, those in descriptor blocks, which lie one after another. The last descriptor before a block leads to it.
use Rattle.std.specs.Prelude.{◌≡◌, ℕ, suc, ◌*◌, ◌+◌, ◌-◌, ◌/◌, ◌<◌, ◌≤◌, ◌^◌, min, nat_le, if◌then◌else◌, List, [], ◌∷◌, ◌++◌, length, take, drop, replicate}
use Rattle.std.specs.Int.{w16, w32, to_le_bytes}
use Rattle.std.specs.List.{concat}
use Rattle.limits.specs.declared.TheConstants.{BLOCK_BYTES, FILE_BYTES, ENTRY_DESCRIPTORS, BLOCK_DESCRIPTORS, PARTITION_BLOCKS}
use Rattle.ecma.specs.Blocks.{block_count}
use Rattle.ecma.specs.Descriptor.{IsDescriptor}
use Rattle.ecma.specs.Field.{IsAt}
use Rattle.ecma.specs.Numbers.{u32_at}

-- a long descriptor of an extent that is recorded, in the physical partition
abbrev pub long_descriptor : ℕ → ℕ → List ℕ
long_descriptor size first = concat (to_le_bytes w32 size ∷ to_le_bytes w32 first ∷ to_le_bytes w16 0 ∷ replicate 6 0 ∷ [])

-- how many extents so many bytes are in
abbrev pub extent_count : ℕ → ℕ
extent_count size = (size + (FILE_BYTES - 1)) / FILE_BYTES

-- how many of them are in an extent
abbrev pub extent_size : ℕ → ℕ → ℕ
extent_size size k = min (size - FILE_BYTES * k) FILE_BYTES

-- how many are in the last
abbrev pub last_size : ℕ → ℕ
last_size size = extent_size size (extent_count size - 1)

-- at a place there is the descriptor of an extent of so many bytes, which ends in the partition
abbrev pub IsExtent : ℕ → ℕ → List ℕ → Type 0
IsExtent at size bytes = (first : ℕ) × (first + block_count size ≤ PARTITION_BLOCKS) × IsAt at (long_descriptor size first) bytes

-- from a place on there are those of the extents of so many bytes, one after another
abbrev pub AreExtents : ℕ → ℕ → List ℕ → Type 0
AreExtents at size bytes = (k : ℕ) → k < extent_count size → IsExtent (at + 16 * k) (extent_size size k) bytes

-- how many descriptors are in a place with room for so many: one for each extent, or as many as there is room for
abbrev pub slots : ℕ → ℕ → ℕ
slots room size = min (extent_count size) room

-- how many of them are extents': all, or all but the last, which leads to the first descriptor block
abbrev pub listed : ℕ → ℕ → ℕ
listed room size = if nat_le (extent_count size) room then extent_count size else room - 1

-- a descriptor that leads to a descriptor block (ECMA-167 4/14.14.1.1)
abbrev pub next_descriptor : ℕ → List ℕ
next_descriptor number = long_descriptor (3 * 2 ^ 30 + BLOCK_BYTES) number

-- from a place on, with room for so many, there are the descriptors of the extents of so many bytes; if others follow, they do from this block number on
pub record AreDescriptors (room at size next : ℕ) (bytes : List ℕ) : Type 0 where
  pub extents : (k : ℕ) → k < listed room size → IsExtent (at + 16 * k) (extent_size size k) bytes
  pub leads : room < extent_count size → IsAt (at + 16 * (room - 1)) (next_descriptor next) bytes

-- how many descriptor blocks a file of so many bytes has
abbrev pub descriptor_blocks : ℕ → ℕ
descriptor_blocks size = (extent_count size - ENTRY_DESCRIPTORS + (BLOCK_DESCRIPTORS - 2)) / (BLOCK_DESCRIPTORS - 1)

-- those in an entry, whose descriptor blocks end in the partition
abbrev pub AreEntryDescriptors : ℕ → ℕ → List ℕ → Type 0
AreEntryDescriptors at size bytes = (next : ℕ) × (next + descriptor_blocks size ≤ PARTITION_BLOCKS) × AreDescriptors ENTRY_DESCRIPTORS at size next bytes

-- what is after the tag of a descriptor block
abbrev pub descriptors_body : List ℕ → List ℕ
descriptors_body descriptors =
    concat (
    to_le_bytes w32 0  -- 16 previous allocation extent location
    ∷ to_le_bytes w32 (length descriptors)  -- 20 length of allocation descriptors
    ∷ descriptors  -- 24 allocation descriptors
    ∷ [])

-- the block has the descriptors of the extents of so many bytes, at this block number (ECMA-167 4/14.5)
pub record IsDescriptorBlock (size number : ℕ) (block : List ℕ) : Type 0 where
  pub descriptors : List ℕ
  pub long : length descriptors ≡ 16 * slots BLOCK_DESCRIPTORS size
  pub are : AreDescriptors BLOCK_DESCRIPTORS 0 size (suc number) descriptors
  pub whole : IsDescriptor 258 number (descriptors_body descriptors) block

-- the blocks have those of the extents of so many bytes, one after another from this block number on
abbrev pub AreDescriptorBlocks : ℕ → ℕ → List (List ℕ) → Type 0
AreDescriptorBlocks size number [] = Unit {0}
AreDescriptorBlocks size number (block ∷ blocks) = IsDescriptorBlock size number block × AreDescriptorBlocks (size - FILE_BYTES * (BLOCK_DESCRIPTORS - 1)) (suc number) blocks

-- the blocks have those of a file of so many bytes that are not in its entry
abbrev pub HaveDescriptors : ℕ → ℕ → List (List ℕ) → Type 0
HaveDescriptors size number blocks = AreDescriptorBlocks (size - FILE_BYTES * (ENTRY_DESCRIPTORS - 1)) number blocks

-- the descriptors in such a block
abbrev pub descriptors_in : List ℕ → List ℕ
descriptors_in block = take (u32_at 20 block) (drop 24 block)

-- the block number to which the last of the descriptors leads
abbrev pub next_number : List ℕ → ℕ
next_number descriptors = u32_at (length descriptors - 12) descriptors

-- the descriptors of all extents, of those in an entry and in these blocks
abbrev pub all_descriptors : List ℕ → List (List ℕ) → List ℕ
all_descriptors descriptors [] = descriptors
all_descriptors descriptors (block ∷ blocks) = take (length descriptors - 16) descriptors ++ all_descriptors (descriptors_in block) blocks

-- those that a block at this block number has, of those of all extents that do not come before
abbrev pub block_list : List ℕ → ℕ → List ℕ
block_list descriptors number =
    if nat_le (length descriptors) (16 * BLOCK_DESCRIPTORS) then descriptors else take (16 * (BLOCK_DESCRIPTORS - 1)) descriptors ++ next_descriptor (suc number)
