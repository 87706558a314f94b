-- What the codecs read, said in the words of the medium and back, is the same.
use Rattle.std.proofs.Common.{◌≡◌, ℕ, zero, suc, ◌+◌, ◌*◌, ◌-◌, ◌<◌, List, [], ◌∷◌, length, map, take, drop, slice_get, Some, refl, sym, ap, subst, ◌∙◌, arith}
use Rattle.std.proofs.lemmas.List.{drop-drop, take_all}
use Rattle.std.proofs.lemmas.Option.{same_Some, slice_get_within}
use Rattle.ecma.specs.Descriptor.{padded}
use Rattle.durability.specs.Formats.{Block}
use Rattle.durability.specs.Volume.{blocks_for, partition_start, IsVatIcbAt, NoneImitates}
use Rattle.durability.specs.Plan.{blocks_from, packed}
use Rattle.durability.proofs.Mediums.{none_from, none_take_at}
use Rattle.durability.proofs.Packed.{length-packed}
use Rattle.icb.specs.declared.entry.Kind.{Kind as IcbKind}
use Rattle.icb.specs.declared.entry.Kind.TheVariants as icb_kinds
use Rattle.ecma.specs.Blocks.{block_count}
use Rattle.icb.specs.Entry.{Place as IcbPlace, Fields as IcbFields, IsEntry}
use Rattle.icb.specs.Entry.Place.{Nowhere as IcbNowhere, Extent as IcbExtent, Extents as IcbExtents, Inside as IcbInside}
use Rattle.icb.specs.VatIcb.{IsVatIcb}
use Rattle.icb.proofs.EntryLaws.{same_fields}
use Rattle.dir.specs.declared.entry.Entry.{Entry as DirEntry}
use Rattle.dir.specs.declared.entry.Kind.{Kind as DirKind}
use Rattle.dir.specs.declared.entry.Kind.TheVariants as dir_kinds
use Rattle.dir.specs.Directory.{IsDirectory}
use Rattle.vat.specs.declared.record.Record.{Record as VatRecord}
use Rattle.vat.specs.declared.record.Reply.{Reply as VatReply}
use Rattle.vat.specs.Imitation.{data_block, Imitates}
use Rattle.vat.specs.Table.{Table as VatTable, IsTableAt}
use Rattle.udf.specs.Words.{icb_kind_of, icb_place, icb_fields, name_kind, directory_entry, directory_entries, reply_of, vat_record, table_of}
use Rattle.udf.specs.Udf.{udf}
use Rattle.udf.specs.Said.{said_kind, said_place, said_fields, names_directory, said_entry, said_entries, said_reply, model_record, model_table, EntriesAgree, DirectoriesAgree, TablesAgree, SizesAgree, ImitationAgrees, DataAgrees, ClearStartsAgree}

map_back : {A B : Type 0} (f : A → B) (g : B → A) → ((y : B) → f (g y) ≡ y) → (ys : List B) → map f (map g ys) ≡ ys
map_back f g back [] = refl
map_back f g back (y ∷ ys) =
    let head : f (g y) ≡ y = back y in
    let tail : map f (map g ys) ≡ ys = map_back f g back ys in
    cc

-- ---- file entries

kind_back : (k : IcbKind) → icb_kind_of (said_kind k) ≡ k
kind_back icb_kinds.Directory = refl
kind_back icb_kinds.File = refl
kind_back icb_kinds.Vat = refl

place_back : (p : IcbPlace) → icb_place (said_place p) ≡ p
place_back IcbNowhere = refl
place_back (IcbExtent first) = refl
place_back (IcbExtents descriptors) = refl
place_back (IcbInside bytes) = refl

fields_back : (f : IcbFields) → icb_fields (said_fields f) ≡ f
fields_back f = same_fields (icb_fields (said_fields f)) f (kind_back f.kind) refl refl refl refl (place_back f.place)

pub entries_agree : EntriesAgree
entries_agree fields block location = (
  (λ is. subst (λ (f : IcbFields). IsEntry f location block) (sym (fields_back fields)) is),
  (λ is. subst (λ (f : IcbFields). IsEntry f location block) (fields_back fields) is),
)

-- ---- directories

name_kind_back : (k : DirKind) → name_kind (names_directory k) ≡ k
name_kind_back dir_kinds.Directory = refl
name_kind_back dir_kinds.File = refl

entry_back : (e : List ℕ × DirEntry) → directory_entry (said_entry e) ≡ e
entry_back e =
    let of : DirKind → List ℕ × DirEntry = λ k. (e.0, record { kind = k; virtual_address = e.1.virtual_address; unique = e.1.unique }) in
    ap of (name_kind_back e.1.kind)

entries_back : (es : List (List ℕ × DirEntry)) → directory_entries (said_entries es) ≡ es
entries_back es = map_back directory_entry said_entry entry_back es

pub directories_agree : DirectoriesAgree
directories_agree parent first size entries blocks are low = (
  (λ is. record { blocks_are = are; low = low; is = subst (λ (es : List (List ℕ × DirEntry)). IsDirectory parent es first size blocks) (sym (entries_back entries)) is }),
  (λ holds. subst (λ (es : List (List ℕ × DirEntry)). IsDirectory parent es first size blocks) (entries_back entries) holds.is),
)

-- ---- tables

reply_back : (r : VatReply) → reply_of (said_reply r) ≡ r
reply_back r = refl

record_back : (r : VatRecord) → vat_record (model_record r) ≡ r
record_back r =
    let of : List VatReply → VatRecord = λ replies. record { client = r.client; latest = r.latest; replies = replies } in
    ap of (map_back reply_of said_reply reply_back r.replies)

table_back : (t : VatTable) → table_of t.version (model_table t) ≡ t
table_back t =
    let of : List VatRecord → VatTable = λ records. record {
      label = t.label;
      previous = t.previous;
      files = t.files;
      directories = t.directories;
      version = t.version;
      next_unique = t.next_unique;
      commits = t.commits;
      records = records;
      entries = t.entries;
    } in
    ap of (map_back vat_record model_record record_back t.records)

pub tables_agree : TablesAgree
tables_agree table icb bytes is = (table.version, subst (λ (t : VatTable). IsTableAt icb t bytes) (sym (table_back table)) is)

-- ---- blocks

pub sizes_agree : SizesAgree
sizes_agree size = omega arith

-- ---- imitation

pub imitation_agrees : ImitationAgrees
imitation_agrees block address = (
  (λ (low, fields, kind, is). (low, record { fields = icb_fields fields; kind = ap icb_kind_of kind; entry = is })),
  (λ (low, v). (low, said_fields v.fields, ap said_kind v.kind, (entries_agree v.fields block (address - partition_start)).0 v.entry)),
)

-- the blocks of data are those that `vat` looks at
block_at : (n j : ℕ) (bytes : List ℕ) → j < n → slice_get (blocks_from n bytes) j ≡ Some (data_block bytes j)
block_at zero j bytes lt = absurd (omega arith)
block_at (suc n) zero bytes lt = refl
block_at (suc n) (suc j) bytes lt =
    let place : drop (2048 * j) (drop 2048 bytes) ≡ drop (2048 * suc j) bytes = drop-drop (2048 * j) 2048 bytes ∙ ap (λ (k : ℕ). drop k bytes) (omega arith) in
    block_at n j (drop 2048 bytes) (omega arith) ∙ ap (λ (xs : List ℕ). Some (padded (take 2048 xs))) place

pub data_agrees : DataAgrees
data_agrees bytes j lt = block_at (blocks_for (length bytes)) j bytes (omega (arith, sizes_agree (length bytes)))

clear_none : (bytes : List ℕ) (start : ℕ) → (Imitates bytes start → ⊥) → NoneImitates udf (start + partition_start) (packed bytes)
clear_none bytes start clear = none_from udf (start + partition_start) (packed bytes) each
  where
    each : (j : ℕ) (block : Block) → slice_get (packed bytes) j ≡ Some block → IsVatIcbAt udf block (start + partition_start + j) → ⊥
    each j block e is =
        let there : j < block_count (length bytes) = omega (arith, slice_get_within (packed bytes) j block e, length-packed bytes, sizes_agree (length bytes)) in
        let same : block ≡ data_block bytes j = same_Some block (data_block bytes j) (sym e ∙ data_agrees bytes j there) in
        let number : start + partition_start + j - partition_start ≡ start + j = omega arith in
        let v = ((imitation_agrees block (start + partition_start + j)).0 is).1 in
        clear (record { index = j; there = there; entry = subst (λ (n : ℕ). IsVatIcb (data_block bytes j) n) number (subst (λ (b : Block). IsVatIcb b (start + partition_start + j - partition_start)) same v) })

none_clear : (bytes : List ℕ) (start : ℕ) → Imitates bytes start → NoneImitates udf (start + partition_start) (packed bytes) → ⊥
none_clear bytes start i none =
    let number : start + i.index ≡ start + partition_start + i.index - partition_start = omega arith in
    let v : IsVatIcb (data_block bytes i.index) (start + partition_start + i.index - partition_start) = subst (λ (n : ℕ). IsVatIcb (data_block bytes i.index) n) number i.entry in
    let is = (imitation_agrees (data_block bytes i.index) (start + partition_start + i.index)).1 (omega arith, v) in
    let all : take (length (packed bytes)) (packed bytes) ≡ packed bytes = take_all (length (packed bytes)) (packed bytes) (omega arith) in
    none_take_at udf (start + partition_start) (length (packed bytes)) (packed bytes) none i.index (data_block bytes i.index)
    (ap (λ (bs : List Block). slice_get bs i.index) all ∙ data_agrees bytes i.index i.there) is

pub clear_starts_agree : ClearStartsAgree
clear_starts_agree bytes from start low high clear least = record {
  low = low;
  high = omega (arith, high, length-packed bytes, sizes_agree (length bytes));
  clear = clear_none bytes start clear;
  least = λ earlier above below none. none_clear bytes earlier (least earlier above below) none;
}
