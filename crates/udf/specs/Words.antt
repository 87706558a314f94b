-- What the codecs say in the words of the medium: the same values, by the codecs' types.
use Rattle.std.specs.Prelude.{ℕ, Bool, true, false, List, map}
use Rattle.model.specs.Graph.{Entry}
use Rattle.model.specs.Session.{Reply, ClientRecord}
use Rattle.durability.specs.Formats.{Kind, NodePlace, NodeFields, Table_}
use Rattle.durability.specs.Formats.Kind.{Directory, File, Table}
use Rattle.durability.specs.Formats.NodePlace.{Nowhere, Extent, Extents, Inside}
use Rattle.icb.specs.declared.entry.Kind.{Kind as IcbKind}
use Rattle.icb.specs.declared.entry.Kind.TheVariants as icb_kinds
use Rattle.icb.specs.Entry.{Place as IcbPlace, Fields as IcbFields}
use Rattle.icb.specs.Entry.Place.{Nowhere as IcbNowhere, Extent as IcbExtent, Extents as IcbExtents, Inside as IcbInside}
use Rattle.dir.specs.declared.entry.Entry.{Entry as DirEntry}
use Rattle.dir.specs.declared.entry.Kind.{Kind as DirKind}
use Rattle.dir.specs.declared.entry.Kind.TheVariants as dir_kinds
use Rattle.vat.specs.declared.record.Record.{Record as VatRecord}
use Rattle.vat.specs.declared.record.Reply.{Reply as VatReply}
use Rattle.vat.specs.declared.table.Version.{Version}
use Rattle.vat.specs.Table.{Table as VatTable}

-- ---- file entries

abbrev pub icb_kind_of : Kind → IcbKind
icb_kind_of Directory = icb_kinds.Directory
icb_kind_of File = icb_kinds.File
icb_kind_of Table = icb_kinds.Vat

abbrev pub icb_place : NodePlace → IcbPlace
icb_place Nowhere = IcbNowhere
icb_place (Extent first) = IcbExtent first
icb_place (Extents descriptors) = IcbExtents descriptors
icb_place (Inside bytes) = IcbInside bytes

abbrev pub icb_fields : NodeFields → IcbFields
icb_fields f = record { kind = icb_kind_of f.kind; moment = f.moment; links = f.links; unique = f.identity; size = f.size; place = icb_place f.place }

-- ---- directories

-- what a name is of
abbrev pub name_kind : Bool → DirKind
name_kind true = dir_kinds.Directory
name_kind false = dir_kinds.File

-- a name, and what its identifier says of it
abbrev pub directory_entry : Entry → List ℕ × DirEntry
directory_entry e = (e.name, record { kind = name_kind e.is_directory; virtual_address = e.address; unique = e.identity })

abbrev pub directory_entries : List Entry → List (List ℕ × DirEntry)
directory_entries entries = map directory_entry entries

-- ---- tables

abbrev pub reply_of : Reply → VatReply
reply_of reply = record { code = reply.code; commit = reply.commit }

abbrev pub vat_record : ClientRecord → VatRecord
vat_record kept = record { client = kept.client; latest = kept.latest; replies = map reply_of kept.replies }

-- a table with its sessions in a version
abbrev pub table_of : Version → Table_ → VatTable
table_of version t = record {
  label = t.label;
  previous = t.previous;
  files = t.files;
  directories = t.directories;
  version = version;
  next_unique = t.next_identity;
  commits = t.commits;
  records = map vat_record t.records;
  entries = t.entries;
}
