-- What a VAT ICB leads to: one thing at most, and the same on a medium that goes on, by any table with that entry.
use Rattle.std.proofs.Common.{◌≡◌, ◌↔◌, ℕ, ◌+◌, Bool, true, false, List, ◌++◌, slice_get, Option, Some, sym, ◌∙◌, ap, subst, arith, length-append}
use Rattle.std.proofs.lemmas.Bool.{true≢false}
use Rattle.std.proofs.lemmas.Option.{same_Some, slice_get_within}
use Rattle.model.specs.Graph.{Stored, Body, Entry, IsFunctional}
use Rattle.model.specs.Graph.Body.{Bytes, Entries}
use Rattle.model.specs.Change.{IsKeptUnder}
use Rattle.durability.specs.Formats.{Block, Kind, NodePlace, NodeFields, Formats, AreExact}
use Rattle.durability.specs.Formats.Kind.{Directory, File, Table}
use Rattle.durability.specs.Formats.NodePlace.{Nowhere, Extent, Extents, Inside}
use Rattle.durability.specs.Volume.{Medium, partition_start, blocks_for, IsWithin, extent, bytes_in_blocks, AreWithin, bytes_in_extents, firsts_at, HoldsFile, HoldsDirectory, HoldsBody, IsStoredAt, graph_of}
use Rattle.durability.proofs.Lists.{get-append, part-append}
use Rattle.durability.proofs.Extents.{descriptors_stay, extents_stay, listed_more}

is_file : Kind → Bool
is_file Directory = false
is_file File = true
is_file Table = false

file≢directory : (kind : Kind) → kind ≡ File → kind ≡ Directory → ⊥
unfolding is_file
file≢directory kind a b = true≢false (sym (ap is_file a) ∙ ap is_file b)

within_more : (M more : Medium) (first size : ℕ) → IsWithin M first size → IsWithin (M ++ more) first size
within_more M more first size h = omega (arith, length-append M more)

extent_more : (M more : Medium) (first size : ℕ) → IsWithin M first size → extent (M ++ more) first size ≡ extent M first size
extent_more M more first size h = part-append (first + partition_start) (blocks_for size) M more h

module _ (formats : Formats) where
  file_one : (M : Medium) (size : ℕ) (place : NodePlace) (x y : List ℕ) → HoldsFile formats M size place x → HoldsFile formats M size place y → x ≡ y
  file_one M size Nowhere x y a b = a ∙ sym b
  file_one M size (Inside inside) x y a b = a ∙ sym b
  file_one M size (Extent first) x y a b = a.1 ∙ sym b.1
  file_one M size (Extents descriptors) x y a b = a.2 ∙ sym b.2

  file_more : (M more : Medium) (size : ℕ) (place : NodePlace) (x : List ℕ) → HoldsFile formats M size place x → HoldsFile formats (M ++ more) size place x
  file_more M more size Nowhere x a = a
  file_more M more size (Inside inside) x a = a
  file_more M more size (Extent first) x a = (within_more M more first size a.0, a.1 ∙ ap (λ (bs : List Block). bytes_in_blocks size bs) (sym (extent_more M more first size a.0)))
  file_more M more size (Extents descriptors) x (listed, within, is) =
      let same = descriptors_stay formats M more size descriptors listed.there in
      let firsts : firsts_at formats (M ++ more) size descriptors ≡ firsts_at formats M size descriptors = ap (λ (bs : List Block). formats.firsts descriptors bs) same in
      let stay = extents_stay M more size (firsts_at formats M size descriptors) within in (
        listed_more formats M more size descriptors listed,
        subst (λ (fs : List ℕ). AreWithin (M ++ more) size fs) (sym firsts) stay.0,
        is ∙ sym stay.1 ∙ ap (λ (fs : List ℕ). bytes_in_extents (M ++ more) size fs) (sym firsts),
      )

  directory_more : (M more : Medium) (size : ℕ) (place : NodePlace) (parent : ℕ) (es : List Entry) → HoldsDirectory formats M size place parent es → HoldsDirectory formats (M ++ more) size place parent es
  directory_more M more size Nowhere parent es a = a
  directory_more M more size (Inside inside) parent es a = a
  directory_more M more size (Extents descriptors) parent es a = a
  directory_more M more size (Extent first) parent es a =
      (within_more M more first size a.0, subst (λ (bs : List Block). formats.IsDirectory parent es first size bs) (sym (extent_more M more first size a.0)) a.1)

  body_more : (M more : Medium) (fields : NodeFields) (b : Body) → HoldsBody formats M fields b → HoldsBody formats (M ++ more) fields b
  body_more M more fields (Bytes x) a = (a.0, file_more M more fields.size fields.place x a.1)
  body_more M more fields (Entries parent es) a = (a.0, directory_more M more fields.size fields.place parent es a.1)

  -- where the entry of the address is the same, what was stored is stored
  pub stored_more : (M more : Medium) (V V' : List (Option ℕ)) (address : ℕ) → slice_get V' address ≡ slice_get V address → IsKeptUnder (graph_of formats M V) (graph_of formats (M ++ more) V') address
  stored_more M more V V' address same s a = record {
    number = a.number;
    used = same ∙ a.used;
    block = a.block;
    there = get-append M more (a.number + partition_start) (slice_get_within M (a.number + partition_start) a.block a.there) ∙ a.there;
    fields = a.fields;
    entry = a.entry;
    moment = a.moment;
    identity = a.identity;
    links = a.links;
    body = body_more M more a.fields s.body a.body;
  }

  module _ (exact : AreExact formats) where
    directory_one : (M : Medium) (size : ℕ) (place : NodePlace) (p q : ℕ) (es fs : List Entry) → HoldsDirectory formats M size place p es → HoldsDirectory formats M size place q fs → (p ≡ q) × (es ≡ fs)
    directory_one M size Nowhere p q es fs a b = absurd a
    directory_one M size (Inside inside) p q es fs a b = absurd a
    directory_one M size (Extents descriptors) p q es fs a b = absurd a
    directory_one M size (Extent first) p q es fs a b = exact.directory first size (extent M first size) p q es fs a.1 b.1

    body_one : (M : Medium) (fields : NodeFields) (b c : Body) → HoldsBody formats M fields b → HoldsBody formats M fields c → b ≡ c
    body_one M fields (Bytes x) (Bytes y) a b = ap Bytes (file_one M fields.size fields.place x y a.1 b.1)
    body_one M fields (Bytes x) (Entries q fs) a b = absurd (file≢directory fields.kind a.0 b.0)
    body_one M fields (Entries p es) (Bytes y) a b = absurd (file≢directory fields.kind b.0 a.0)
    body_one M fields (Entries p es) (Entries q fs) a b = let e = directory_one M fields.size fields.place p q es fs a.1 b.1 in λ i. Entries (e.0 i) (e.1 i)

    -- at most one thing is stored under an address
    pub stored_one : (M : Medium) (V : List (Option ℕ)) → IsFunctional (graph_of formats M V)
    stored_one M V address s t a b =
        let number : a.number ≡ b.number = same_Some a.number b.number (same_Some (Some a.number) (Some b.number) (sym a.used ∙ b.used)) in
        let block : a.block ≡ b.block = same_Some a.block b.block (sym a.there ∙ ap (λ n. slice_get M (n + partition_start)) number ∙ b.there) in
        let fields : a.fields ≡ b.fields = exact.entry a.block address a.fields b.fields a.entry (subst (λ (x : Block). formats.IsEntry b.fields x address) (sym block) b.entry) in
        let body : s.body ≡ t.body = body_one M a.fields s.body t.body a.body (subst (λ (f : NodeFields). HoldsBody formats M f t.body) (sym fields) b.body) in
        let identity : s.identity ≡ t.identity = sym a.identity ∙ ap (λ (f : NodeFields). f.identity) fields ∙ b.identity in
        let moment : s.moment ≡ t.moment = sym a.moment ∙ ap (λ (f : NodeFields). f.moment) fields ∙ b.moment in
        let links : s.links ≡ t.links = sym a.links ∙ ap (λ (f : NodeFields). f.links) fields ∙ b.links in
        λ i. record { identity = identity i; moment = moment i; links = links i; body = body i }

    -- A table that differs elsewhere, on a medium that goes on: what is stored at an address whose entry stays, and at which something was stored, is what was.
    pub stored_same : (M more : Medium) (V V' : List (Option ℕ)) (address : ℕ) → slice_get V' address ≡ slice_get V address → (t : Stored) → IsStoredAt formats M V address t
        → (s : Stored) → IsStoredAt formats M V address s ↔ IsStoredAt formats (M ++ more) V' address s
    stored_same M more V V' address same t there s = (
      stored_more M more V V' address same s,
      (λ a. subst (λ (u : Stored). IsStoredAt formats M V address u) (stored_one (M ++ more) V' address t s (stored_more M more V V' address same t there) a) there),
    )
