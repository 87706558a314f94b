-- The bytes of a file, by what its entry says of their place.
use Rattle.std.proofs.Common.{◌≡◌, ℕ, ◌+◌, ◌≤◌, false, List, [], ◌∷◌, take, Option, refl, sym, ap, subst, ◌∙◌, arith}
use Rattle.std.specs.Int.{div_ceil}
use Rattle.std.proofs.lemmas.Bool.{true≢false}
use Rattle.limits.specs.declared.TheConstants.{BLOCK_BYTES, PARTITION_START}
use Rattle.drive.specs.Journal.{Event, held}
use Rattle.recover.specs.Blocks.{medium_bytes_at}
use Rattle.icb.specs.declared.entry.FileEntry.{FileEntry}
use Rattle.icb.specs.declared.entry.Place.TheVariants as places
use Rattle.icb.specs.Entry as icb
use Rattle.model.specs.Tree.{has_names}
use Rattle.model.specs.Graph.{Stored, Body, is_directory, content_in}
use Rattle.model.specs.Graph.Body.{Bytes, Entries}
use Rattle.durability.specs.Formats.{Block, NodePlace, NodeFields}
use Rattle.durability.specs.Formats.NodePlace.{Nowhere, Extent, Extents, Inside}
use Rattle.durability.specs.Plan.{firsts_of}
use Rattle.durability.specs.Volume.{AreListed, AreWithin, Medium, HoldsBody, HoldsFile, IsWithin, bytes_in_blocks, bytes_in_extents, extent, firsts_at}
use Rattle.udf.specs.Udf.{udf}
use Rattle.udf.specs.Words.{icb_fields, icb_place}
use Rattle.lookup.specs.Shows.{graph_below}
use Rattle.lookup.proofs.StoredNodes.{shorter, part_below}

-- a file that is stored has these bytes
pub record HasBytes (medium : Medium) (s : Stored) (fields : NodeFields) : Type 0 where
  pub bytes : List ℕ
  pub body : s.body ≡ Bytes bytes
  pub holds : HoldsFile udf medium fields.size fields.place bytes

bytes_in_body : (medium : Medium) (s : Stored) (fields : NodeFields) (body : Body) → s.body ≡ body → has_names (content_in body) ≡ false → HoldsBody udf medium fields body → HasBytes medium s fields
bytes_in_body medium s fields (Bytes bytes) e file h = record { bytes = bytes; body = e; holds = h.1 }
bytes_in_body medium s fields (Entries parent entries) e file h = absurd (true≢false file)

pub has_bytes : (at : ℕ) (entries : List (Option ℕ)) (J : List Event) (address : ℕ) (s : Stored) (there : graph_below at entries J address s) → is_directory s ≡ false → HasBytes (take at (held J)) s there.fields
has_bytes at entries J address s there file = bytes_in_body (take at (held J)) s there.fields s.body refl file there.body

nowhere : (medium : Medium) (size : ℕ) (place : NodePlace) (bytes : List ℕ) → HoldsFile udf medium size place bytes → icb.Place.Nowhere ≡ icb_place place → bytes ≡ []
nowhere medium size Nowhere bytes h e = h
nowhere medium size (Inside inside) bytes h e = cc
nowhere medium size (Extent first) bytes h e = cc
nowhere medium size (Extents descriptors) bytes h e = cc

inside_of : icb.Place → List ℕ
inside_of icb.Place.Nowhere = []
inside_of (icb.Place.Extent first) = []
inside_of (icb.Place.Extents descriptors) = []
inside_of (icb.Place.Inside bytes) = bytes

first_of : icb.Place → ℕ
first_of icb.Place.Nowhere = 0
first_of (icb.Place.Extent first) = first
first_of (icb.Place.Extents descriptors) = 0
first_of (icb.Place.Inside bytes) = 0

descriptors_of : icb.Place → List ℕ
descriptors_of icb.Place.Nowhere = []
descriptors_of (icb.Place.Extent first) = []
descriptors_of (icb.Place.Extents descriptors) = descriptors
descriptors_of (icb.Place.Inside bytes) = []

within_entry : (medium : Medium) (size : ℕ) (place : NodePlace) (bytes inside : List ℕ) → HoldsFile udf medium size place bytes → icb.Place.Inside inside ≡ icb_place place → bytes ≡ inside
unfolding inside_of
within_entry medium size Nowhere bytes inside h e = cc
within_entry medium size (Inside there) bytes inside h e = h ∙ sym (ap inside_of e)
within_entry medium size (Extent first) bytes inside h e = cc
within_entry medium size (Extents descriptors) bytes inside h e = cc

after : (medium : Medium) (size : ℕ) (place : NodePlace) (bytes : List ℕ) (first : ℕ) → HoldsFile udf medium size place bytes → icb.Place.Extent first ≡ icb_place place → IsWithin medium first size × (bytes ≡ bytes_in_blocks size (extent medium first size))
unfolding first_of
after medium size Nowhere bytes first h e = cc
after medium size (Inside inside) bytes first h e = cc
after medium size (Extents descriptors) bytes first h e = cc
after medium size (Extent there) bytes first h e = subst (λ (n : ℕ). IsWithin medium n size × (bytes ≡ bytes_in_blocks size (extent medium n size))) (sym (ap first_of e)) h

in_several : (medium : Medium) (size : ℕ) (place : NodePlace) (bytes descriptors : List ℕ) → HoldsFile udf medium size place bytes → icb.Place.Extents descriptors ≡ icb_place place
    → AreListed udf medium size descriptors × AreWithin medium size (firsts_at udf medium size descriptors) × (bytes ≡ bytes_in_extents medium size (firsts_at udf medium size descriptors))
unfolding descriptors_of
in_several medium size Nowhere bytes descriptors h e = cc
in_several medium size (Inside inside) bytes descriptors h e = cc
in_several medium size (Extent first) bytes descriptors h e = cc
in_several medium size (Extents there) bytes descriptors h e =
    subst (λ (d : List ℕ). AreListed udf medium size d × AreWithin medium size (firsts_at udf medium size d) × (bytes ≡ bytes_in_extents medium size (firsts_at udf medium size d))) (sym (ap descriptors_of e)) h

-- where the extents of an entry begin
pub extent_first : (medium : Medium) (size : ℕ) (place : NodePlace) (first : ℕ) → icb.Place.Extent first ≡ icb_place place → first ∷ [] ≡ firsts_of udf medium size place
unfolding first_of
extent_first medium size Nowhere first e = cc
extent_first medium size (Inside inside) first e = cc
extent_first medium size (Extents descriptors) first e = cc
extent_first medium size (Extent there) first e = ap (λ (n : ℕ). n ∷ []) (ap first_of e)

pub extents_firsts : (medium : Medium) (size : ℕ) (place : NodePlace) (descriptors : List ℕ) → icb.Place.Extents descriptors ≡ icb_place place → firsts_at udf medium size descriptors ≡ firsts_of udf medium size place
unfolding descriptors_of
extents_firsts medium size Nowhere descriptors e = cc
extents_firsts medium size (Inside inside) descriptors e = cc
extents_firsts medium size (Extent first) descriptors e = cc
extents_firsts medium size (Extents there) descriptors e = ap (firsts_at udf medium size) (ap descriptors_of e)

module _ (at : ℕ) (J : List Event) (s : Stored) (fields : NodeFields) (read : FileEntry) (h : HasBytes (take at (held J)) s fields) (same : icb.fields_of read ≡ icb_fields fields) where
  place_is : icb.place_of read.place ≡ icb_place fields.place
  place_is = ap (λ (f : icb.Fields). f.place) same

  pub stored_nowhere : read.place ≡ places.None → s.body ≡ Bytes []
  stored_nowhere e = h.body ∙ ap Bytes (nowhere (take at (held J)) fields.size fields.place h.bytes h.holds (sym (ap icb.place_of e) ∙ place_is))

  pub stored_inside : (inside : _) → read.place ≡ places.Inside inside → s.body ≡ Bytes inside.now
  stored_inside inside e = h.body ∙ ap Bytes (within_entry (take at (held J)) fields.size fields.place h.bytes inside.now h.holds (sym (ap icb.place_of e) ∙ place_is))

  pub stored_extent : (first : ℕ) → read.place ≡ places.Extent first → (first + PARTITION_START + div_ceil read.size BLOCK_BYTES ≤ at) × (s.body ≡ Bytes (medium_bytes_at (held J) (first + PARTITION_START) read.size))
  stored_extent first e =
      let size : fields.size ≡ read.size = sym (ap (λ (f : icb.Fields). f.size) same) in
      let b = subst (λ (n : ℕ). IsWithin (take at (held J)) first n × (h.bytes ≡ bytes_in_blocks n (extent (take at (held J)) first n))) size
      (after (take at (held J)) fields.size fields.place h.bytes first h.holds (sym (ap icb.place_of e) ∙ place_is)) in (
        omega (arith, b.0, shorter at (held J)),
        h.body ∙ ap Bytes (b.1 ∙ ap (λ (bs : List Block). bytes_in_blocks read.size bs) (part_below (held J) at (first + PARTITION_START) (div_ceil read.size BLOCK_BYTES) b.0)),
      )

  -- what lies below the table
  pub stored_extent_below : (first : ℕ) → read.place ≡ places.Extent first → IsWithin (take at (held J)) first read.size × (s.body ≡ Bytes (medium_bytes_at (take at (held J)) (first + PARTITION_START) read.size))
  stored_extent_below first e =
      let size : fields.size ≡ read.size = sym (ap (λ (f : icb.Fields). f.size) same) in
      let b = subst (λ (n : ℕ). IsWithin (take at (held J)) first n × (h.bytes ≡ bytes_in_blocks n (extent (take at (held J)) first n))) size
      (after (take at (held J)) fields.size fields.place h.bytes first h.holds (sym (ap icb.place_of e) ∙ place_is)) in
      (b.0, h.body ∙ ap Bytes b.1)

  pub stored_extents : (descriptors : _) → read.place ≡ places.Extents descriptors
      → AreListed udf (take at (held J)) read.size descriptors.now × AreWithin (take at (held J)) read.size (firsts_at udf (take at (held J)) read.size descriptors.now)
      × (s.body ≡ Bytes (bytes_in_extents (take at (held J)) read.size (firsts_at udf (take at (held J)) read.size descriptors.now)))
  stored_extents descriptors e =
      let M = take at (held J) in
      let size : fields.size ≡ read.size = sym (ap (λ (f : icb.Fields). f.size) same) in
      let b = subst (λ (n : ℕ). AreListed udf M n descriptors.now × AreWithin M n (firsts_at udf M n descriptors.now) × (h.bytes ≡ bytes_in_extents M n (firsts_at udf M n descriptors.now))) size
      (in_several M fields.size fields.place h.bytes descriptors.now h.holds (sym (ap icb.place_of e) ∙ place_is)) in
      (b.0, b.1, h.body ∙ ap Bytes b.2)
