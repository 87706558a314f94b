-- What is read where something is stored.
use Rattle.std.proofs.Common.{◌≡◌, ℕ, zero, suc, ◌+◌, ◌<◌, ◌≤◌, true, List, [], ◌∷◌, length, length-take, take, drop, slice_get, Option, Some, None, refl, sym, ap, subst, ◌∙◌, arith}
use Rattle.std.specs.Int.{div_ceil}
use Rattle.std.specs.Prelude.{Result, IsOkAnd}
use Rattle.std.proofs.lemmas.Bool.{false≢true}
use Rattle.std.proofs.lemmas.List.{take-append-drop}
use Rattle.std.proofs.lemmas.Option.{same_Some, slice_get_within}
use Rattle.limits.specs.declared.TheConstants.{BLOCK_BYTES, PARTITION_BLOCKS, PARTITION_START}
use Rattle.drive.specs.Journal.{Event, held}
use Rattle.recover.specs.Nodes.{data_of}
use Rattle.recover.specs.declared.directory.Extent.{Extent}
use Rattle.icb.proofs.VatIcbs.{one_entry}
use Rattle.icb.specs.declared.entry.FileEntry.{FileEntry}
use Rattle.icb.specs.declared.entry.Kind.{Kind}
use Rattle.icb.specs.declared.fault.IcbFault.{IcbFault}
use Rattle.icb.specs.declared.entry.Place as source
use Rattle.icb.specs.declared.entry.Place.TheVariants as places
use Rattle.icb.specs.Entry as icb
use Rattle.model.specs.Tree.{has_names}
use Rattle.model.specs.Addresses.{used_first}
use Rattle.model.specs.Graph.{Stored, Body, Entry, is_directory, content_in}
use Rattle.model.specs.Graph.Body.{Bytes, Entries}
use Rattle.durability.specs.Formats.{Block, NodePlace, NodeFields}
use Rattle.durability.specs.Formats.NodePlace.{Nowhere, Extent as Extent_, Extents, Inside}
use Rattle.durability.specs.Volume.{Medium, HoldsBody, HoldsDirectory}
use Rattle.durability.proofs.Lists.{get-take, part-append}
use Rattle.udf.specs.Udf.{udf}
use Rattle.udf.specs.Words.{icb_fields, icb_place}
use Rattle.lookup.specs.Cache.{IsEntryThere}
use Rattle.lookup.specs.declared.nodes.EntryAt.{EntryAt}
use Rattle.lookup.specs.declared.nodes.Placed.{Placed}
use Rattle.lookup.specs.Shows.{graph_below, LiesIn}

pub shorter : {X : Type 0} (n : ℕ) (xs : List X) → length (take n xs) ≤ n
shorter n xs = omega (arith, length-take n xs)

-- the block that the journal holds there is the one that is stored
pub entry_there : (at : ℕ) (entries : List (Option ℕ)) (J : List Event) (address number : ℕ) (block : Block) (s : Stored) → slice_get entries address ≡ Some (Some number)
    → slice_get (held J) (number + PARTITION_START) ≡ Some block → (there : graph_below at entries J address s) → (there.block ≡ block) × (number + PARTITION_START ≡ there.number + PARTITION_START)
entry_there at entries J address number block s used held_is there =
    let same : there.number ≡ number = same_Some there.number number (same_Some (Some there.number) (Some number) (sym there.used ∙ used)) in
    let below : there.number + PARTITION_START < length (take at (held J)) = slice_get_within (take at (held J)) (there.number + PARTITION_START) there.block there.there in
    let low : there.number + PARTITION_START < at = omega (arith, below, shorter at (held J)) in
    let is : slice_get (held J) (there.number + PARTITION_START) ≡ Some there.block = sym (get-take at (held J) (there.number + PARTITION_START) low) ∙ there.there in
    (same_Some there.block block (sym is ∙ (ap (λ n. slice_get (held J) (n + PARTITION_START)) same ∙ held_is)), ap (λ n. n + PARTITION_START) (sym same))

-- the fields of a directory's entry
pub record HasData (at : ℕ) (J : List Event) (s : Stored) (e : icb.Fields) : Type 0 where
  pub first : ℕ
  pub place : e.place ≡ icb.Place.Extent first
  pub below : first + PARTITION_START + div_ceil e.size BLOCK_BYTES ≤ at
  pub parent : ℕ
  pub entries : List Entry
  pub body : s.body ≡ Entries parent entries
  pub is : udf.IsDirectory parent entries first e.size (data_of (held J) (record { first = first; size = e.size }))
  pub moment : e.moment ≡ s.moment

pub part_below : (M : Medium) (at s c : ℕ) → s + c ≤ length (take at M) → take c (drop s (take at M)) ≡ take c (drop s M)
part_below M at s c h = sym (part-append s c (take at M) (drop at M) h) ∙ ap (λ (xs : List Block). take c (drop s xs)) (take-append-drop at M)

data_in : (at : ℕ) (J : List Event) (s : Stored) (fields : NodeFields) (place : NodePlace) (body : Body) → fields.place ≡ place → s.body ≡ body → is_directory s ≡ true → fields.moment ≡ s.moment → HoldsBody udf (take at (held J)) fields body
    → HasData at J s (icb_fields fields)
data_in at J s fields place (Bytes bytes) e b d m h = absurd (false≢true (sym (ap (λ (y : Body). has_names (content_in y)) b) ∙ d))
data_in at J s fields Nowhere (Entries parent entries) e b d m h = absurd (subst (λ (p : NodePlace). HoldsDirectory udf (take at (held J)) fields.size p parent entries) e h.1)
data_in at J s fields (Inside inside) (Entries parent entries) e b d m h = absurd (subst (λ (p : NodePlace). HoldsDirectory udf (take at (held J)) fields.size p parent entries) e h.1)
data_in at J s fields (Extents descriptors) (Entries parent entries) e b d m h = absurd (subst (λ (p : NodePlace). HoldsDirectory udf (take at (held J)) fields.size p parent entries) e h.1)
data_in at J s fields (Extent_ first) (Entries parent entries) e b d m h =
    let holds : HoldsDirectory udf (take at (held J)) fields.size (Extent_ first) parent entries = subst (λ (p : NodePlace). HoldsDirectory udf (take at (held J)) fields.size p parent entries) e h.1 in
    record {
      first = first;
      place = ap icb_place e;
      below = omega (arith, holds.0, shorter at (held J));
      parent = parent;
      entries = entries;
      body = b;
      is = subst (λ (bs : List Block). udf.IsDirectory parent entries first fields.size bs) (part_below (held J) at (first + PARTITION_START) (div_ceil fields.size BLOCK_BYTES) holds.0) holds.1;
      moment = m;
    }

pub has_data : (at : ℕ) (entries : List (Option ℕ)) (J : List Event) (address : ℕ) (s : Stored) (there : graph_below at entries J address s) → is_directory s ≡ true → HasData at J s (icb_fields there.fields)
has_data at entries J address s there d = data_in at J s there.fields there.fields.place s.body refl refl d there.moment there.body

extent_first : icb.Place → ℕ
extent_first icb.Place.Nowhere = 0
extent_first (icb.Place.Extent first) = first
extent_first (icb.Place.Extents descriptors) = 0
extent_first (icb.Place.Inside bytes) = 0

-- where a directory lies, by what its entry says
pub lies_said : (at : ℕ) (entries : List (Option ℕ)) (J : List Event) (placed : Placed) (s : Stored) → slice_get entries placed.at.address ≡ Some (Some placed.at.number) → IsEntryThere J placed
    → graph_below at entries J placed.at.address s → is_directory s ≡ true → LiesIn J placed s
unfolding extent_first
lies_said at entries J placed s used entry there directory =
    let address = placed.at.address in
    let says = entry.says in
    let block = (entry_there at entries J address placed.at.number entry.block s used entry.there there).0 in
    let same : icb_fields there.fields ≡ says.fields =
    (one_entry (icb_fields there.fields) says.fields address address entry.block (subst (λ (b : Block). icb.IsEntry (icb_fields there.fields) address b) block there.entry) says.is).0 in
    let d = subst (λ (f : icb.Fields). HasData at J s f) same (has_data at entries J address s there directory) in
    let first : d.first ≡ placed.extent.first = ap extent_first (sym d.place ∙ says.place) in
    let extent : record { first = d.first; size = says.fields.size } ≡ placed.extent = λ i. record { first = first i; size = says.size i } in
    record {
      parent = d.parent;
      entries = d.entries;
      body = d.body;
      is = subst (λ (x : Extent). udf.IsDirectory d.parent d.entries x.first x.size (data_of (held J) x)) extent d.is;
      moment = sym says.time ∙ d.moment;
    }

-- where it lies, by an entry that is kept or read for its virtual address
pub lies_at : (at : ℕ) (entries : List (Option ℕ)) (J : List Event) (place : EntryAt) (address : ℕ) (placed : Placed) (s : Stored) → place.address ≡ address → slice_get entries place.address ≡ Some (Some place.number)
    → placed.at ≡ place → IsEntryThere J placed → graph_below at entries J address s → is_directory s ≡ true → LiesIn J placed s
lies_at at entries J place address placed s same used is entry there directory =
    let used_too = subst (λ (p : EntryAt). slice_get entries p.address ≡ Some (Some p.number)) (sym is) used in
    let address_too : placed.at.address ≡ address = ap (λ (p : EntryAt). p.address) is ∙ same in
    lies_said at entries J placed s used_too entry (subst (λ (a : ℕ). graph_below at entries J a s) (sym address_too) there) directory

pub lies_below : (at : ℕ) (J : List Event) (s : Stored) (e : icb.Fields) (read : FileEntry) (first : ℕ) → HasData at J s e → icb.fields_of read ≡ e → read.place ≡ places.Extent first → first + PARTITION_START + div_ceil read.size BLOCK_BYTES ≤ at
unfolding extent_first
lies_below at J s e read first h same place =
    let d = subst (λ (f : icb.Fields). HasData at J s f) (sym same) h in
    let one : d.first ≡ first = ap extent_first (sym d.place ∙ ap icb.place_of place) in
    subst (λ (n : ℕ). n + PARTITION_START + div_ceil read.size BLOCK_BYTES ≤ at) one d.below

-- an extent
place_extent : (p : source.Place) (first : ℕ) → icb.place_of p ≡ icb.Place.Extent first → p ≡ places.Extent first
place_extent places.None first e = cc
place_extent (places.Extent n) first e = cc
place_extent (places.Extents descriptors) first e = cc
place_extent (places.Inside bytes) first e = cc

pub extent_of : (at : ℕ) (J : List Event) (s : Stored) (e : icb.Fields) (read : FileEntry) → HasData at J s e → icb.fields_of read ≡ e → (first : ℕ) × (read.place ≡ places.Extent first)
extent_of at J s e read h same =
    let d = subst (λ (f : icb.Fields). HasData at J s f) (sym same) h in
    (d.first, place_extent read.place d.first d.place)

-- what was decoded
pub decoded : (block there : Block) (address : ℕ) (fields : NodeFields) (read : Result FileEntry IcbFault) → there ≡ block → udf.IsEntry fields there address
    → ((e : icb.Fields) → icb.IsEntry e address block → IsOkAnd read (λ r. icb.fields_of r ≡ e)) → IsOkAnd read (λ r. icb.fields_of r ≡ icb_fields fields)
decoded block there address fields read same is only = only (icb_fields fields) (subst (λ (b : Block). icb.IsEntry (icb_fields fields) address b) same is)

-- ---- unused addresses

pub first_unused : (t : List (Option ℕ)) (n : ℕ) → slice_get t n ≡ Some None → used_first (drop n t) ≡ 0
first_unused [] n h = cc
first_unused (None ∷ t) zero h = refl
first_unused (Some e ∷ t) zero h = cc
first_unused (e ∷ t) (suc n) h = first_unused t n h

-- the data of a directory whose entry fits lie in a partition
pub extent_bounds : (kind : Kind) (size first at : ℕ) (place : source.Place) → icb.FitsPlace kind size (icb.place_of place) → place ≡ places.Extent first
    → first + PARTITION_START + div_ceil size BLOCK_BYTES ≤ at → (0 < size) × (first ≤ PARTITION_BLOCKS) × (first + PARTITION_START + div_ceil size BLOCK_BYTES ≤ at)
extent_bounds kind size first at place fits e below =
    let f = subst (λ (p : source.Place). icb.FitsPlace kind size (icb.place_of p)) e fits in
    (f.0, omega (arith, f.2), below)
