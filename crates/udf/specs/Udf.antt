-- The byte formats of this profile: what blocks and bytes stand for by the codecs.
use Rattle.std.specs.Prelude.{◌≡◌, ℕ, zero, suc, ◌/◌, ◌<◌, ◌≤◌, List, [], ◌∷◌, length, drop, slice_index, All}
use Rattle.limits.specs.declared.TheConstants.{BLOCK_BYTES, PARTITION_BLOCKS}
use Rattle.osta.specs.Compressed.{compressed}
use Rattle.model.specs.Tree.{Name}
use Rattle.model.specs.Graph.{Entry}
use Rattle.durability.specs.Formats.{Block, Formats}
use Rattle.ecma.specs.Numbers.{u32_at}
use Rattle.icb.specs.Entry.{IsEntry}
use Rattle.icb.specs.Extents.{HaveDescriptors, all_descriptors, next_number}
use Rattle.icb.specs.FileSet.{IsFileSet}
use Rattle.dir.specs.Directory.{IsDirectory}
use Rattle.vat.specs.Table.{IsTableAt}
use Rattle.vat.specs.declared.table.Version.{Version}
use Rattle.volume.specs.Front.{IsFront}
use Rattle.udf.specs.Words.{icb_fields, directory_entries, table_of}

-- what a medium has at each address: 2,048 bytes
pub record IsBlock (block : Block) : Type 0 where
  pub size : length block ≡ BLOCK_BYTES
  pub bytes : (i : ℕ) → slice_index block i < 256

-- the blocks hold a directory, from a block number on that an extent can begin at
pub record HoldsDirectory (parent : ℕ) (entries : List Entry) (first size : ℕ) (blocks : List Block) : Type 0 where
  pub blocks_are : All IsBlock blocks
  pub low : first ≤ PARTITION_BLOCKS
  pub is : IsDirectory parent (directory_entries entries) first size blocks

-- the block numbers at which the extents of so many long descriptors begin
abbrev pub firsts_in : ℕ → List ℕ → List ℕ
firsts_in zero descriptors = []
firsts_in (suc n) descriptors = u32_at 4 descriptors ∷ firsts_in n (drop 16 descriptors)

-- those of these
abbrev pub all_firsts : List ℕ → List ℕ
all_firsts descriptors = firsts_in (length descriptors / 16) descriptors

-- A table may have its sessions in either version: what it says is the same.
abbrev pub udf : Formats
udf = record {
  IsEntry = λ fields block location. IsEntry (icb_fields fields) location block;
  next = next_number;
  HaveDescriptors = HaveDescriptors;
  firsts = λ descriptors blocks. all_firsts (all_descriptors descriptors blocks);
  IsFileSet = λ label moment block. IsFileSet (record { label = label; moment = moment }) block;
  IsDirectory = HoldsDirectory;
  IsTable = λ table icb bytes. (version : Version) × IsTableAt icb (table_of version table) bytes;
  IsFront = IsFront;
}

-- how many bytes a name takes as it is spelled
abbrev pub spelled_length : Name → ℕ
spelled_length name = length (compressed name)
