use Rattle.std.proofs.Common.{◌≡◌, ℕ, List, ◌++◌, Some, None, sym, ap, ◌∙◌, arith, refl}
use Rattle.ecma.specs.LongAd.{long_ad}
use Rattle.ecma.specs.declared.field.LongAd.{LongAd}
use Rattle.icb.specs.declared.entry.Place.TheVariants as places
use Rattle.ecma.specs.Blocks.{block_count}
use Rattle.icb.specs.Extents.{last_size, long_descriptor}
use Rattle.icb.specs.Entry.Place.{Extents}
use Rattle.icb.proofs.EntryBlocks.{block_there, block_extended, block_in_extents}
use Rattle.icb.proofs.planned.PlannedEntry.write.Goals as goal

pub returns-in-None : goal.returns-in-None
returns-in-None c = c.write_entry.ensures ∙ sym (block_there c.self.inside places.None c.in-None.is) ∙ c.self.view_is

pub returns-in-Extent : goal.returns-in-Extent
returns-in-Extent c =
    let size = c.self.inside.entry.size in
    let blocks : c.div_ceil-blocks.result ≡ block_count size = omega (arith, c.div_ceil-blocks.ensures, c.from.ensures) in
    let after : c.to_bytes-extent.result ≡ long_descriptor size c.in-Extent.first = c.to_bytes-extent.ensures ∙ ap (λ (l : LongAd). long_ad l) c.extent.ensures in
    c.write_entry-in-Extent.ensures ∙ block_extended c.self.inside c.in-Extent.first c.div_ceil-blocks.result c.to_bytes-extent.result c.in-Extent.is blocks after ∙ c.self.view_is

pub returns-in-None-last : goal.returns-in-None-last
returns-in-None-last c =
    let blocks : c.div_ceil-blocks-in-Extents.result ≡ block_count c.self.inside.entry.size = omega (arith, c.div_ceil-blocks-in-Extents.ensures, c.from-in-Extents.ensures) in
    c.write_entry-in-None-last.ensures
    ∙ block_in_extents c.self.inside (places.Extents c.in-Extents.descriptors) None c.div_ceil-blocks-in-Extents.result c.in-Extents.descriptors.now c.in-Extents.is c.in-None-last.is refl blocks
    ∙ c.self.view_is

pub returns-in-Some : goal.returns-in-Some
returns-in-Some c =
    let blocks : c.div_ceil-blocks-in-Extents.result ≡ block_count c.self.inside.entry.size = omega (arith, c.div_ceil-blocks-in-Extents.ensures, c.from-in-Extents.ensures) in
    let last = c.in-Some.first in
    let one : c.to_bytes-last.result ≡ long_descriptor (last_size c.self.inside.entry.size) last =
    c.to_bytes-last.ensures ∙ ap (λ (l : LongAd). long_ad l) c.extent-in-Some.ensures ∙ ap (λ (n : ℕ). long_descriptor n last) c.last_size.ensures in
    let after = c.in-Extents.descriptors.now ++ c.to_bytes-last.result in
    c.write_entry-in-Some.ensures
    ∙ block_in_extents c.self.inside (places.Extents c.in-Extents.descriptors) (Some last) c.div_ceil-blocks-in-Extents.result after c.in-Extents.is c.in-Some.is
    (ap (λ (x : List ℕ). Extents (c.in-Extents.descriptors.now ++ x)) (sym one)) blocks
    ∙ c.self.view_is

pub returns-in-Inside : goal.returns-in-Inside
returns-in-Inside c = c.write_entry-in-Inside.ensures ∙ sym (block_there c.self.inside (places.Inside c.in-Inside.bytes) c.in-Inside.is) ∙ c.self.view_is
