-- What the codecs read, in the words of the medium; nothing of it is lost but a table's version.
use Rattle.std.specs.Prelude.{◌≡◌, ◌↔◌, ℕ, ◌+◌, ◌-◌, ◌<◌, ◌≤◌, Bool, true, false, List, map, length, slice_get, Some, All}
use Rattle.limits.specs.declared.TheConstants.{PARTITION_BLOCKS}
use Rattle.model.specs.Graph.{Entry}
use Rattle.model.specs.Session.{Reply, ClientRecord}
use Rattle.durability.specs.Formats.{Block, Kind, NodePlace, NodeFields, Table_}
use Rattle.durability.specs.Formats.Kind.{Directory, File, Table}
use Rattle.durability.specs.Formats.NodePlace.{Nowhere, Extent, Extents, Inside}
use Rattle.durability.specs.Volume.{partition_start, blocks_for, IsVatIcbAt}
use Rattle.durability.specs.Plan.{packed, IsClearStart}
use Rattle.icb.specs.declared.entry.Kind.{Kind as IcbKind}
use Rattle.icb.specs.declared.entry.Kind.TheVariants as icb_kinds
use Rattle.ecma.specs.Blocks.{block_count}
use Rattle.icb.specs.Entry.{Place as IcbPlace, Fields as IcbFields, IsEntry}
use Rattle.icb.specs.Entry.Place.{Nowhere as IcbNowhere, Extent as IcbExtent, Extents as IcbExtents, Inside as IcbInside}
use Rattle.icb.specs.VatIcb.{IsVatIcb}
use Rattle.dir.specs.declared.entry.Entry.{Entry as DirEntry}
use Rattle.dir.specs.declared.entry.Kind.{Kind as DirKind}
use Rattle.dir.specs.declared.entry.Kind.TheVariants as dir_kinds
use Rattle.dir.specs.Directory.{IsDirectory}
use Rattle.vat.specs.declared.record.Record.{Record as VatRecord}
use Rattle.vat.specs.declared.record.Reply.{Reply as VatReply}
use Rattle.vat.specs.Imitation.{data_block, Imitates}
use Rattle.vat.specs.Table.{Table as VatTable, IsTableAt}
use Rattle.udf.specs.Udf.{IsBlock, udf}

-- ---- file entries

abbrev pub said_kind : IcbKind → Kind
said_kind icb_kinds.Directory = Directory
said_kind icb_kinds.File = File
said_kind icb_kinds.Vat = Table

abbrev pub said_place : IcbPlace → NodePlace
said_place IcbNowhere = Nowhere
said_place (IcbExtent first) = Extent first
said_place (IcbExtents descriptors) = Extents descriptors
said_place (IcbInside bytes) = Inside bytes

abbrev pub said_fields : IcbFields → NodeFields
said_fields f = record { kind = said_kind f.kind; moment = f.moment; links = f.links; identity = f.unique; size = f.size; place = said_place f.place }

-- ---- directories

abbrev pub names_directory : DirKind → Bool
names_directory dir_kinds.Directory = true
names_directory dir_kinds.File = false

abbrev pub said_entry : List ℕ × DirEntry → Entry
said_entry e = record { name = e.0; is_directory = names_directory e.1.kind; address = e.1.virtual_address; identity = e.1.unique }

abbrev pub said_entries : List (List ℕ × DirEntry) → List Entry
said_entries entries = map said_entry entries

-- ---- tables

abbrev pub said_reply : VatReply → Reply
said_reply reply = record { code = reply.code; commit = reply.commit }

abbrev pub model_record : VatRecord → ClientRecord
model_record kept = record { client = kept.client; latest = kept.latest; replies = map said_reply kept.replies }

abbrev pub model_table : VatTable → Table_
model_table t = record {
  label = t.label;
  previous = t.previous;
  files = t.files;
  directories = t.directories;
  next_identity = t.next_unique;
  commits = t.commits;
  records = map model_record t.records;
  entries = t.entries;
}

-- ---- what is read is there by these formats

abbrev pub EntriesAgree : Type 0
EntriesAgree = (fields : IcbFields) (block : Block) (location : ℕ) → IsEntry fields location block ↔ udf.IsEntry (said_fields fields) block location

abbrev pub DirectoriesAgree : Type 0
DirectoriesAgree =
    (parent first size : ℕ) (entries : List (List ℕ × DirEntry)) (blocks : List Block) → All IsBlock blocks → first ≤ PARTITION_BLOCKS
    → IsDirectory parent entries first size blocks ↔ udf.IsDirectory parent (said_entries entries) first size blocks

abbrev pub TablesAgree : Type 0
TablesAgree = (table : VatTable) (icb : ℕ) (bytes : List ℕ) → IsTableAt icb table bytes → udf.IsTable (model_table table) icb bytes

-- how many blocks bytes take
abbrev pub SizesAgree : Type 0
SizesAgree = (size : ℕ) → blocks_for size ≡ block_count size

-- ---- imitation

-- a block imitates where it is a VAT ICB at its block number
abbrev pub ImitationAgrees : Type 0
ImitationAgrees = (block : Block) (address : ℕ) → IsVatIcbAt udf block address ↔ ((partition_start ≤ address) × IsVatIcb block (address - partition_start))

-- the blocks of data are those that are looked at
abbrev pub DataAgrees : Type 0
DataAgrees = (bytes : List ℕ) (i : ℕ) → i < block_count (length bytes) → slice_get (packed bytes) i ≡ Some (data_block bytes i)

-- the least start at which data does not imitate is clear
abbrev pub ClearStartsAgree : Type 0
ClearStartsAgree =
    (bytes : List ℕ) (from start : ℕ) → from ≤ start → start ≤ from + block_count (length bytes) → (Imitates bytes start → ⊥)
    → ((earlier : ℕ) → from ≤ earlier → earlier < start → Imitates bytes earlier) → IsClearStart udf (packed bytes) from start
