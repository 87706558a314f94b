use Rattle.std.proofs.Common.{◌≡◌, ◌+◌, ◌/◌, ◌<◌, ◌≤◌, ◌++◌, ◌∙◌, ℕ, [], length, refl, sym, ap, subst, arith, append-nil}
use Rattle.limits.specs.declared.TheConstants.{PARTITION_BLOCKS}
use Rattle.ecma.specs.Blocks.{block_count}
use Rattle.icb.specs.Entry.{Fields, FitsPlace, IsEntry, Place}
use Rattle.icb.specs.Extents.{descriptor_blocks, last_size, long_descriptor}
use Rattle.icb.specs.Entry.Place.{Extents as IcbExtents}
use Rattle.icb.specs.declared.entry.Kind.TheVariants.{File as IcbFile}
use Rattle.lookup.specs.Extents.{AreFull, full_size}
use Rattle.udf.proofs.Said.{entries_agree}
use Rattle.planning.proofs.Growing.{counts, grown_node, grown_place}
use Rattle.planning.proofs.places.grown_entry.Goals as goal

pub with_extent-requires : goal.with_extent-requires
with_extent-requires c =
    let d = c.descriptors.result.now in
    let kept = c.args.file.now.kept in
    let bytes = c.as_slice-bytes.result.now in
    let full : AreFull d = c.descriptors.ensures.full in
    let same : full_size d ≡ full_size kept = ap full_size c.descriptors.ensures.bytes in
    let len : length bytes ≡ length c.args.file.now.bytes.now = ap length c.as_slice-bytes.ensures.bytes in
    let more : 0 < length bytes = omega (arith, len, c.args.file.now.some c.requires.some) in
    let few = c.as_slice-bytes.ensures.few in
    let room : c.args.first + block_count (length bytes) ≤ PARTITION_BLOCKS = omega (arith, c.requires.room, len) in
    let none : descriptor_blocks (full_size d + length bytes) ≡ 0 = (λ i. descriptor_blocks (same i + len i)) ∙ c.requires.fits in
    let place = grown_place (length bytes) c.args.first d full (omega (arith, same, c.requires.some)) more few room none in
    let last = (counts (length d / 16) (length bytes) more few).2 in
    let size : full_size d + length bytes ≡ c.size.result + length bytes = omega (arith, same, c.size.ensures) in
    record {
      size = omega (arith, c.size.ensures, c.args.file.now.few, few);
      place = subst (λ (n : ℕ). FitsPlace IcbFile n (IcbExtents (d ++ long_descriptor (last_size n) c.args.first))) size
          (subst (λ (n : ℕ). FitsPlace IcbFile (full_size d + length bytes) (IcbExtents (d ++ long_descriptor n c.args.first))) (sym last) place);
      links = omega arith;
      unique = omega (arith, c.from.ensures);
      vat = λ vat. absurd cc;
    }

pub returns : goal.returns
returns c medium from blocks kept placed =
    let f = c.args.file.now in
    let d = c.descriptors.result.now in
    let bytes = c.as_slice-bytes.result.now in
    let first = c.args.first in
    let size = c.size.result + length bytes in
    let full : AreFull f.kept = subst AreFull c.descriptors.ensures.bytes c.descriptors.ensures.full in
    let len : length bytes ≡ length f.bytes.now = ap length c.as_slice-bytes.ensures.bytes in
    let size_is : size ≡ full_size f.kept + length f.bytes.now = omega (arith, len, c.size.ensures) in
    let last : last_size size ≡ length f.bytes.now = ap last_size size_is ∙ (counts (length f.kept / 16) (length f.bytes.now) (f.some c.requires.some) f.short).2 in
    let descriptors = f.kept ++ long_descriptor (length f.bytes.now) first in
    let there : IcbExtents (d ++ long_descriptor (last_size size) first) ≡ IcbExtents descriptors = λ i. IcbExtents (c.descriptors.ensures.bytes i ++ long_descriptor (last i) first) in
    let fields : ℕ → Place → ℕ → Fields = λ n p u. record { kind = IcbFile; moment = c.args.moment; links = 1; unique = u; size = n; place = p } in
    let entry = subst (λ (p : Place). IsEntry (fields size p c.from.result) f.address c.with_extent.result) there c.with_extent.ensures in
    let sized = subst (λ (n : ℕ). IsEntry (fields n (IcbExtents descriptors) c.from.result) f.address c.with_extent.result) size_is entry in
    let unique = subst (λ (u : ℕ). IsEntry (fields (full_size f.kept + length f.bytes.now) (IcbExtents descriptors) u) f.address c.with_extent.result) c.from.ensures sized in
    grown_node medium c.args.moment f from first blocks blocks [] descriptors c.with_extent.result kept c.requires.some full (omega (arith, c.requires.room)) placed (sym (append-nil blocks)) (sym c.requires.fits)
    (λ more. absurd (omega (arith, more))) tt refl
    ((entries_agree (fields (full_size f.kept + length f.bytes.now) (IcbExtents descriptors) f.unique) c.with_extent.result f.address).0 unique)
