-- The block of an entry that is made when it is written.
use Rattle.std.proofs.Common.{◌≡◌, ℕ, ◌+◌, ◌<◌, ◌≤◌, ◌^◌, List, [], ◌∷◌, ◌++◌, length, replicate, append_assoc, Option, Some, None, refl, sym, ap, ◌∙◌, arith}
use Rattle.std.specs.Prelude.{codes}
use Rattle.std.specs.Int.{w16, w32, to_le_bytes}
use Rattle.std.specs.List.{concat}
use Rattle.std.proofs.lemmas.List.{length-append}
use Rattle.ecma.specs.Descriptor.{descriptor_block}
use Rattle.ecma.specs.Timestamp.{IsMoment}
use Rattle.ecma.proofs.Bytes.{bytes_append, bytes_of, bytes_concat, bytes_u16, bytes_u32, bytes_u64, bytes_zeros}
use Rattle.ecma.proofs.Pieces.{IsBytes}
use Rattle.ecma.proofs.Seals.{is_block}
use Rattle.ecma.proofs.Timestamps.{moment_long, moment_bytes}
use Rattle.icb.specs.declared.entry.Kind.{Kind}
use Rattle.icb.specs.declared.entry.Kind.TheVariants.{Directory, File, Vat}
use Rattle.icb.specs.declared.entry.Place as source
use Rattle.icb.specs.declared.entry.Place.TheVariants as places
use Rattle.icb.specs.declared.planned.PlannedEntry.TheInside as planned
use Rattle.ecma.specs.Blocks.{block_count}
use Rattle.icb.specs.Entry.{Fields, FitsEntry, FitsPlace, IsEntry, Place, allocation, blocks_recorded, entry_parts, file_type, flags_of, inside, permissions, place_of}
use Rattle.icb.specs.Extents.{long_descriptor, last_size}
use Rattle.limits.specs.declared.TheConstants.{GREATEST_FILE}
use Rattle.icb.specs.Entry.Place.{Nowhere, Extent, Extents, Inside}
use Rattle.icb.specs.Planned.{entry_body, extended, extended_place, planned_block}

short_allocation : (kind : Kind) (size : ℕ) (place : Place) → size ≤ GREATEST_FILE → FitsPlace kind size place → length (allocation size place) ≤ 1_872
short_allocation kind size Nowhere limit fits = omega arith
short_allocation kind size (Extent first) limit fits = omega arith
short_allocation kind size (Extents descriptors) limit fits = omega (arith, limit, fits.2)
short_allocation kind size (Inside bytes) limit fits = omega (arith, fits)

allocation_bytes : (size : ℕ) (place : Place) → IsBytes (inside place) → IsBytes (allocation size place)
allocation_bytes size Nowhere fits = bytes_of [] tt
allocation_bytes size (Extent first) fits =
    bytes_concat (to_le_bytes w32 size ∷ to_le_bytes w32 first ∷ to_le_bytes w16 0 ∷ replicate 6 0 ∷ []) (bytes_u32 size, (bytes_u32 first, (bytes_u16 0, (bytes_zeros 6, tt))))
allocation_bytes size (Extents descriptors) fits = fits
allocation_bytes size (Inside bytes) fits = fits

small_type : (kind : Kind) → file_type kind < 256
small_type Directory = omega arith
small_type File = omega arith
small_type Vat = omega arith

name_bytes : IsBytes (0 ∷ codes "*udfburn")
name_bytes = bytes_of (0 ∷ codes "*udfburn") (omega arith, (omega arith, (omega arith, (omega arith, (omega arith, (omega arith, (omega arith, (omega arith, (omega arith, tt)))))))))

parts_bytes : (kind flags rights links size blocks : ℕ) (stamp : List ℕ) (unique len : ℕ) (after : List ℕ) → kind < 256 → IsBytes stamp → IsBytes after
    → IsBytes (concat (entry_parts kind flags rights links size blocks stamp unique len after))
parts_bytes kind flags rights links size blocks stamp unique len after low stamp-fits after-fits =
    let whole = entry_parts kind flags rights links size blocks stamp unique len after in
    bytes_concat whole (bytes_u32 0, (bytes_u16 4, (bytes_u16 0, (bytes_u16 1, (bytes_of (0 ∷ kind ∷ []) (omega arith, (low, tt)), (bytes_zeros 6, (bytes_u16 flags, (bytes_u32 0xFFFF_FFFF, (bytes_u32 0xFFFF_FFFF, (bytes_u32 rights, (bytes_u16 links, (bytes_zeros 2, (bytes_u32 0, (bytes_u64 size, (bytes_u64 blocks, (stamp-fits, (stamp-fits, (stamp-fits, (bytes_u32 1, (bytes_zeros 16, (name_bytes, (bytes_zeros 23, (bytes_u64 unique, (bytes_u32 0, (bytes_u32 len, (after-fits, tt))))))))))))))))))))))))))

parts_long : (kind flags rights links size blocks : ℕ) (stamp : List ℕ) (unique len : ℕ) (after : List ℕ) → length stamp ≡ 12
    → length (concat (entry_parts kind flags rights links size blocks stamp unique len after)) ≡ 160 + length after
parts_long kind flags rights links size blocks stamp unique len after twelve =
    grind (arith, length-append {A = ℕ}, twelve)

-- an entry that may say so has its block
pub is_planned : (e : Fields) (loc : ℕ) (stamp : List ℕ) → FitsEntry e → IsMoment e.moment stamp → loc < 2 ^ 32 → IsBytes (inside e.place)
    → IsEntry e loc (descriptor_block 261 loc (entry_body e stamp))
is_planned e loc stamp fits moment loc-fits inside-fits =
    let after = allocation e.size e.place in
    let few = short_allocation e.kind e.size e.place fits.size fits.place in
    let long : length (entry_body e stamp) ≡ 160 + length after =
    parts_long (file_type e.kind) (flags_of e.place) (permissions e.kind) e.links e.size (blocks_recorded e.size e.place) stamp e.unique (length after) after (moment_long e.moment stamp moment) in
    let body : IsBytes (entry_body e stamp) =
    parts_bytes (file_type e.kind) (flags_of e.place) (permissions e.kind) e.links e.size (blocks_recorded e.size e.place) stamp e.unique (length after) after (small_type e.kind) (moment_bytes e.moment stamp moment) (allocation_bytes e.size e.place inside-fits) in
    record {
      fits = fits;
      laid = record {
        stamp = stamp;
        moment = moment;
        whole = is_block 261 loc (entry_body e stamp) (omega arith) loc-fits (omega (arith, long, few)) body;
      };
    }

-- the last two parts as one
pub joined : (parts : List (List ℕ)) (front rest : List ℕ) → concat (parts ++ front ∷ rest ∷ []) ≡ concat (parts ++ (front ++ rest) ∷ [])
joined [] front rest = sym (append_assoc front rest [])
joined (part ∷ parts) front rest = ap (λ (x : List ℕ). part ++ x) (joined parts front rest)

-- the bytes that an entry borrows, with one extent more
pub extended_bytes : (e : Fields) (last : Option ℕ) → IsBytes (inside e.place) → IsBytes (inside (extended e last).place)
extended_bytes e last fits = go e.size e.place last fits
  where
    go : (size : ℕ) (place : Place) (last : Option ℕ) → IsBytes (inside place) → IsBytes (inside (extended_place size place last))
    go size Nowhere last fits = fits
    go size (Extent first) last fits = fits
    go size (Inside bytes) last fits = fits
    go size (Extents descriptors) None fits = fits
    go size (Extents descriptors) (Some first) fits = bytes_append descriptors (long_descriptor (last_size size) first) fits (allocation_bytes (last_size size) (Extent first) (bytes_of [] tt))

-- without one it says what it said
pub as_it_was : (e : Fields) → extended e None ≡ e
as_it_was e = ap (λ (place : Place). record { kind = e.kind; moment = e.moment; links = e.links; unique = e.unique; size = e.size; place = place }) (go e.size e.place)
  where
    go : (size : ℕ) (place : Place) → extended_place size place None ≡ place
    go size Nowhere = refl
    go size (Extent first) = refl
    go size (Inside bytes) = refl
    go size (Extents descriptors) = refl

-- what an entry of the program says with its bytes in this place
abbrev said_there : planned.Inside → source.Place → Option ℕ → Fields
said_there p place last =
    record { kind = p.entry.kind; moment = p.entry.moment; links = p.entry.links; unique = p.entry.unique; size = p.entry.size; place = extended_place p.entry.size (place_of place) last }

-- the block of an entry with its bytes in this place
pub block_there : (p : planned.Inside) (place : source.Place) → p.entry.place ≡ place → planned_block p ≡ descriptor_block 261 p.location (entry_body (said_there p place p.last) p.stamp)
block_there p place is = ap (λ (q : source.Place). descriptor_block 261 p.location (entry_body (said_there p q p.last) p.stamp)) is

-- the block of an entry with its bytes in extents, as it is written
abbrev pub written_block : planned.Inside → ℕ → List ℕ → List ℕ
written_block p blocks after =
    descriptor_block 261 p.location (concat (entry_parts (file_type p.entry.kind) 1 (permissions p.entry.kind) p.entry.links p.entry.size blocks p.stamp p.entry.unique (length after) after))

-- in one extent
pub block_extended : (p : planned.Inside) (first blocks : ℕ) (after : List ℕ) → p.entry.place ≡ places.Extent first → blocks ≡ block_count p.entry.size → after ≡ long_descriptor p.entry.size first
    → written_block p blocks after ≡ planned_block p
block_extended p first blocks after is blocks-are after-is =
    ap (λ (n : ℕ). written_block p n after) blocks-are
    ∙ ap (λ (x : List ℕ). written_block p (block_count p.entry.size) x) after-is
    ∙ sym (block_there p (places.Extent first) is)

-- in several, whose descriptors the place has with one more or without
pub block_in_extents : (p : planned.Inside) (place : source.Place) (last : Option ℕ) (blocks : ℕ) (after : List ℕ) → p.entry.place ≡ place → p.last ≡ last → extended_place p.entry.size (place_of place) last ≡ Extents after
    → blocks ≡ block_count p.entry.size → written_block p blocks after ≡ planned_block p
block_in_extents p place last blocks after is last-is extents blocks-are =
    ap (λ (n : ℕ). written_block p n after) blocks-are
    ∙ ap (λ (q : Place). descriptor_block 261 p.location (entry_body (record { kind = p.entry.kind; moment = p.entry.moment; links = p.entry.links; unique = p.entry.unique; size = p.entry.size; place = q }) p.stamp)) (sym extents)
    ∙ ap (λ (o : Option ℕ). descriptor_block 261 p.location (entry_body (said_there p place o) p.stamp)) (sym last-is)
    ∙ sym (block_there p place is)
