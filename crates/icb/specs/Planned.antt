-- The block of a file entry that is made when it is written.
use Rattle.std.specs.Prelude.{ℕ, List, ◌++◌, length, Option, Some, None}
use Rattle.std.specs.List.{concat}
use Rattle.ecma.specs.Descriptor.{descriptor_block}
use Rattle.ecma.specs.Timestamp.{IsMoment}
use Rattle.icb.specs.Entry.{Fields, FitsEntry, Place, allocation, blocks_recorded, entry_parts, fields_of, file_type, flags_of, permissions}
use Rattle.icb.specs.Extents.{last_size, long_descriptor}
use Rattle.icb.specs.Entry.Place.{Nowhere, Extent, Extents, Inside}
use Rattle.icb.specs.declared.planned.PlannedEntry.TheInside as planned

-- extents of so many bytes, with one more from this block number on after those of the descriptors; any other place as it is
abbrev pub extended_place : ℕ → Place → Option ℕ → Place
extended_place size Nowhere last = Nowhere
extended_place size (Extent first) last = Extent first
extended_place size (Inside bytes) last = Inside bytes
extended_place size (Extents descriptors) None = Extents descriptors
extended_place size (Extents descriptors) (Some first) = Extents (descriptors ++ long_descriptor (last_size size) first)

-- what an entry says with that extent
abbrev pub extended : Fields → Option ℕ → Fields
extended e last = record { kind = e.kind; moment = e.moment; links = e.links; unique = e.unique; size = e.size; place = extended_place e.size e.place last }

-- what is after the tag of an entry that says so, with this timestamp
abbrev pub entry_body : Fields → List ℕ → List ℕ
entry_body e stamp =
    let after = allocation e.size e.place in
    concat (entry_parts (file_type e.kind) (flags_of e.place) (permissions e.kind) e.links e.size (blocks_recorded e.size e.place) stamp e.unique (length after) after)

abbrev pub planned_block : planned.Inside → List ℕ
planned_block p = descriptor_block 261 p.location (entry_body (extended (fields_of p.entry) p.last) p.stamp)

-- an entry may say so, and the timestamp is that of its moment
abbrev pub IsEncodable : planned.Inside → Type 0
IsEncodable p = FitsEntry (extended (fields_of p.entry) p.last) × IsMoment p.entry.moment p.stamp
