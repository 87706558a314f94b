-- What the codecs say is one thing of the medium's: no two values of the medium's are one of the codecs'.
use Rattle.std.proofs.Common.{◌≡◌, ℕ, Bool, true, false, List, [], ◌∷◌, map, refl, ap}
use Rattle.model.specs.Graph.{Entry}
use Rattle.model.specs.Session.{Reply, ClientRecord}
use Rattle.durability.specs.Formats.{Kind, NodePlace, NodeFields, Table_}
use Rattle.durability.specs.Formats.Kind.{Directory, File, Table}
use Rattle.durability.specs.Formats.NodePlace.{Nowhere, Extent, Extents, Inside}
use Rattle.icb.specs.Entry.{Fields as IcbFields}
use Rattle.dir.specs.declared.entry.Entry.{Entry as DirEntry}
use Rattle.vat.specs.declared.record.Record.{Record as VatRecord}
use Rattle.vat.specs.declared.record.Reply.{Reply as VatReply}
use Rattle.vat.specs.declared.table.Version.{Version}
use Rattle.vat.specs.Table.{Table as VatTable}
use Rattle.udf.specs.Words.{icb_kind_of, icb_place, icb_fields, name_kind, directory_entry, directory_entries, reply_of, vat_record, table_of}

-- lists of which each item says one thing
map_one : {A B : Type 0} (f : A → B) → ((a b : A) → f a ≡ f b → a ≡ b) → (xs ys : List A) → map f xs ≡ map f ys → xs ≡ ys
map_one f one [] [] e = refl
map_one f one [] (y ∷ ys) e = absurd (cc)
map_one f one (x ∷ xs) [] e = absurd (cc)
map_one f one (x ∷ xs) (y ∷ ys) e =
    let head : f x ≡ f y = cc in
    let tail : map f xs ≡ map f ys = cc in
    let first : x ≡ y = one x y head in
    let rest : xs ≡ ys = map_one f one xs ys tail in
    cc

-- ---- file entries

pub kind_one : (a b : Kind) → icb_kind_of a ≡ icb_kind_of b → a ≡ b
kind_one Directory Directory e = refl
kind_one Directory File e = absurd (cc)
kind_one Directory Table e = absurd (cc)
kind_one File Directory e = absurd (cc)
kind_one File File e = refl
kind_one File Table e = absurd (cc)
kind_one Table Directory e = absurd (cc)
kind_one Table File e = absurd (cc)
kind_one Table Table e = refl

place_one : (a b : NodePlace) → icb_place a ≡ icb_place b → a ≡ b
place_one Nowhere Nowhere e = refl
place_one Nowhere (Extent m) e = absurd (cc)
place_one Nowhere (Inside ys) e = absurd (cc)
place_one Nowhere (Extents ys) e = absurd (cc)
place_one (Extent n) Nowhere e = absurd (cc)
place_one (Extent n) (Extent m) e = let same : n ≡ m = cc in ap (λ k. Extent k) same
place_one (Extent n) (Inside ys) e = absurd (cc)
place_one (Extent n) (Extents ys) e = absurd (cc)
place_one (Extents xs) Nowhere e = absurd (cc)
place_one (Extents xs) (Extent m) e = absurd (cc)
place_one (Extents xs) (Inside ys) e = absurd (cc)
place_one (Extents xs) (Extents ys) e = let same : xs ≡ ys = cc in ap (λ descriptors. Extents descriptors) same
place_one (Inside xs) Nowhere e = absurd (cc)
place_one (Inside xs) (Extent m) e = absurd (cc)
place_one (Inside xs) (Extents ys) e = absurd (cc)
place_one (Inside xs) (Inside ys) e = let same : xs ≡ ys = cc in ap (λ bytes. Inside bytes) same

same_fields : (f g : NodeFields) → f.kind ≡ g.kind → f.moment ≡ g.moment → f.links ≡ g.links → f.identity ≡ g.identity → f.size ≡ g.size → f.place ≡ g.place → f ≡ g
same_fields f g kind moment links identity size place =
    let made : NodeFields = record { kind = g.kind; moment = g.moment; links = g.links; identity = g.identity; size = g.size; place = g.place } in
    let from : f ≡ made = rw (← kind, ← moment, ← links, ← identity, ← size, ← place) refl in
    from

pub fields_one : (f g : NodeFields) → icb_fields f ≡ icb_fields g → f ≡ g
fields_one f g e =
    same_fields f g (kind_one f.kind g.kind (ap (λ (x : IcbFields). x.kind) e)) (ap (λ (x : IcbFields). x.moment) e) (ap (λ (x : IcbFields). x.links) e)
    (ap (λ (x : IcbFields). x.unique) e) (ap (λ (x : IcbFields). x.size) e) (place_one f.place g.place (ap (λ (x : IcbFields). x.place) e))

-- ---- directories

name_kind_one : (a b : Bool) → name_kind a ≡ name_kind b → a ≡ b
name_kind_one true true e = refl
name_kind_one true false e = absurd (cc)
name_kind_one false true e = absurd (cc)
name_kind_one false false e = refl

same_entry : (a b : Entry) → a.name ≡ b.name → a.is_directory ≡ b.is_directory → a.address ≡ b.address → a.identity ≡ b.identity → a ≡ b
same_entry a b name kind address identity =
    let made : Entry = record { name = b.name; is_directory = b.is_directory; address = b.address; identity = b.identity } in
    let from : a ≡ made = rw (← name, ← kind, ← address, ← identity) refl in
    from

entry_one : (a b : Entry) → directory_entry a ≡ directory_entry b → a ≡ b
entry_one a b e =
    same_entry a b (ap (λ (x : List ℕ × DirEntry). x.0) e) (name_kind_one a.is_directory b.is_directory (ap (λ (x : List ℕ × DirEntry). x.1.kind) e))
    (ap (λ (x : List ℕ × DirEntry). x.1.virtual_address) e) (ap (λ (x : List ℕ × DirEntry). x.1.unique) e)

pub entries_one : (es fs : List Entry) → directory_entries es ≡ directory_entries fs → es ≡ fs
entries_one es fs e = map_one directory_entry entry_one es fs e

-- ---- tables

reply_one : (a b : Reply) → reply_of a ≡ reply_of b → a ≡ b
reply_one a b e =
    let code : a.code ≡ b.code = ap (λ (x : VatReply). x.code) e in
    let commit : a.commit ≡ b.commit = ap (λ (x : VatReply). x.commit) e in
    let made : Reply = record { code = b.code; commit = b.commit } in
    let from : a ≡ made = rw (← code, ← commit) refl in
    from

record_one : (a b : ClientRecord) → vat_record a ≡ vat_record b → a ≡ b
record_one a b e =
    let client : a.client ≡ b.client = ap (λ (x : VatRecord). x.client) e in
    let latest : a.latest ≡ b.latest = ap (λ (x : VatRecord). x.latest) e in
    let replies : a.replies ≡ b.replies = map_one reply_of reply_one a.replies b.replies (ap (λ (x : VatRecord). x.replies) e) in
    let made : ClientRecord = record { client = b.client; latest = b.latest; replies = b.replies } in
    let from : a ≡ made = rw (← client, ← latest, ← replies) refl in
    from

-- whatever the versions are
pub table_one : (v w : Version) (t u : Table_) → table_of v t ≡ table_of w u → t ≡ u
table_one v w t u e =
    let label : t.label ≡ u.label = ap (λ (x : VatTable). x.label) e in
    let previous : t.previous ≡ u.previous = ap (λ (x : VatTable). x.previous) e in
    let files : t.files ≡ u.files = ap (λ (x : VatTable). x.files) e in
    let directories : t.directories ≡ u.directories = ap (λ (x : VatTable). x.directories) e in
    let next : t.next_identity ≡ u.next_identity = ap (λ (x : VatTable). x.next_unique) e in
    let commits : t.commits ≡ u.commits = ap (λ (x : VatTable). x.commits) e in
    let records : t.records ≡ u.records = map_one vat_record record_one t.records u.records (ap (λ (x : VatTable). x.records) e) in
    let entries : t.entries ≡ u.entries = ap (λ (x : VatTable). x.entries) e in
    let made : Table_ = record {
      label = u.label;
      previous = u.previous;
      files = u.files;
      directories = u.directories;
      next_identity = u.next_identity;
      commits = u.commits;
      records = u.records;
      entries = u.entries;
    } in
    let from : t ≡ made = rw (← label, ← previous, ← files, ← directories, ← next, ← commits, ← records, ← entries) refl in
    from
