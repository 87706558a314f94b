use Rattle.std.proofs.Common.{◌≡◌, ℕ, ◌+◌, ◌*◌, ◌<◌, ◌≤◌, ◌++◌, ◌∙◌, List, length, take, refl, sym, ap, subst, arith, length-take}
use Rattle.std.specs.Int.{div_ceil}
use Rattle.limits.specs.declared.TheConstants.{PARTITION_BLOCKS}
use Rattle.icb.specs.Entry.{Fields, IsEntry}
use Rattle.icb.specs.Entry.Place.{Extents as IcbExtents}
use Rattle.icb.specs.Extents.{HaveDescriptors, all_descriptors, descriptor_blocks, extent_count, long_descriptor, next_descriptor, next_number}
use Rattle.icb.specs.declared.entry.Kind.TheVariants.{File as IcbFile}
use Rattle.lookup.specs.Extents.{AreFull, full_size}
use Rattle.udf.proofs.Said.{entries_agree}
use Rattle.planning.proofs.Growing.{AreGrown, all_grown, grown_node}
use Rattle.planning.proofs.Listing.{FitEntry, long_fits}
use Rattle.planning.proofs.places.long_file.Goals as goal

-- the descriptors of all extents, as they are put together
all_is : (kept d copy text new bytes all : List ℕ) (first : ℕ) → d ≡ kept → copy ≡ d → bytes ≡ new → text ≡ long_descriptor (length bytes) first → all ≡ copy ++ text → all ≡ kept ++ long_descriptor (length new) first
all_is kept d copy text new bytes all first d-is copy-is bytes-is text-is whole = whole ∙ (λ i. (copy-is ∙ d-is) i ++ (text-is ∙ ap (λ (bs : List ℕ). long_descriptor (length bs) first) bytes-is) i)

grown : (kept new all : List ℕ) (size first : ℕ) → AreFull kept → 0 < length new → length new ≤ 1_048_576 → first + div_ceil (length new) 2048 ≤ PARTITION_BLOCKS → all ≡ kept ++ long_descriptor (length new) first → size ≡ full_size kept + length new
    → AreGrown size all
grown kept new all size first full more few room whole size-is =
    subst (λ (n : ℕ). AreGrown n all) (sym size-is) (subst (AreGrown (full_size kept + length new)) (sym whole) (all_grown (length new) first kept full more few (omega (arith, room))))

-- those in the entry
here_fits : (size next : ℕ) (all again copy text here : List ℕ) → AreGrown size all → 0 < descriptor_blocks size → next + descriptor_blocks size ≤ PARTITION_BLOCKS
    → again ≡ all → copy ≡ take 1_856 again → text ≡ next_descriptor next → here ≡ copy ++ text → FitEntry size next here
here_fits size next all again copy text here g some room same copy-is text-is here-is =
    subst (FitEntry size next) (sym (here-is ∙ (λ i. (copy-is ∙ ap (take 1_856) same) i ++ text-is i))) (long_fits size next all g.long g.are some room)

pub descriptor_list-requires-clause-are : goal.descriptor_list-requires-clause-are
descriptor_list-requires-clause-are c =
    let f = c.args.file.now in
    let some : 0 < full_size f.kept = omega (arith, c.requires.long, f.short) in
    let all : List ℕ = c.as_slice.result.now in
    let full : AreFull f.kept = subst AreFull c.descriptors.ensures.bytes c.descriptors.ensures.full in
    let whole = all_is f.kept c.descriptors.result.now c.in_ok-all.all.items c.extent_descriptor.result f.bytes.now c.as_slice-bytes.result.now all c.args.first c.descriptors.ensures.bytes
    (c.in_ok-all.ensures.items_if_clones_equal (λ x y e. e)) c.as_slice-bytes.ensures.bytes c.extent_descriptor.ensures (c.as_slice.ensures.value ∙ c.in_ok-extend_from_slice.ensures.items) in
    (grown f.kept f.bytes.now all c.size-size.result c.args.first full (f.some some) f.short c.requires.room whole c.size-size.ensures.size).are

pub slice_bounds-to_vec-end : goal.slice_bounds-to_vec-end
slice_bounds-to_vec-end c =
    let f = c.args.file.now in
    let again : List ℕ = c.deref.result.now in
    let some : 0 < full_size f.kept = omega (arith, c.requires.long, f.short) in
    let full : AreFull f.kept = subst AreFull c.descriptors.ensures.bytes c.descriptors.ensures.full in
    let whole = all_is f.kept c.descriptors.result.now c.in_ok-all.all.items c.extent_descriptor.result f.bytes.now c.as_slice-bytes.result.now again c.args.first c.descriptors.ensures.bytes
    (c.in_ok-all.ensures.items_if_clones_equal (λ x y e. e)) c.as_slice-bytes.ensures.bytes c.extent_descriptor.ensures (c.deref.ensures.value ∙ c.in_ok-extend_from_slice.ensures.items) in
    let long : length again ≡ 16 * extent_count (full_size f.kept + length f.bytes.now) = (grown f.kept f.bytes.now again (full_size f.kept + length f.bytes.now) c.args.first full (f.some some) f.short c.requires.room whole refl).long in
    omega (arith, length-take 1_856 again, long, c.requires.long)

pub encode_fe-entry-requires : goal.encode_fe-entry-requires
encode_fe-entry-requires c =
    let f = c.args.file.now in
    let size = c.size-size.result in
    let all : List ℕ = c.as_slice.result.now in
    let some : 0 < full_size f.kept = omega (arith, c.requires.long, f.short) in
    let full : AreFull f.kept = subst AreFull c.descriptors.ensures.bytes c.descriptors.ensures.full in
    let whole = all_is f.kept c.descriptors.result.now c.in_ok-all.all.items c.extent_descriptor.result f.bytes.now c.as_slice-bytes.result.now all c.args.first c.descriptors.ensures.bytes
    (c.in_ok-all.ensures.items_if_clones_equal (λ x y e. e)) c.as_slice-bytes.ensures.bytes c.extent_descriptor.ensures (c.as_slice.ensures.value ∙ c.in_ok-extend_from_slice.ensures.items) in
    let g = grown f.kept f.bytes.now all size c.args.first full (f.some some) f.short c.requires.room whole c.size-size.ensures.size in
    let blocks = ap descriptor_blocks c.size-size.ensures.size in
    let fit = here_fits size c.args.next all c.deref.result.now c.in_ok-here.here.items c.next_descriptor.result c.as_slice-2.result.now g (omega (arith, blocks, c.requires.long)) (omega (arith, blocks, c.requires.after))
    (c.deref.ensures.value ∙ sym c.as_slice.ensures.value) (c.in_ok-here.ensures.items_if_clones_equal (λ x y e. e)) c.next_descriptor.ensures (c.as_slice-2.ensures.value ∙ c.in_ok-extend_from_slice-2.ensures.items) in
    record {
      size = c.size-size.ensures.limit;
      place = (refl, omega (arith, c.size-size.ensures.size, c.requires.long), fit.long, fit.are);
      links = omega arith;
      unique = omega (arith, c.from.ensures);
      vat = λ vat. absurd cc;
    }

pub returns-clause-written : goal.returns-clause-written
returns-clause-written c medium from blocks kept placed next-is =
    let f = c.args.file.now in
    let size = full_size f.kept + length f.bytes.now in
    let all : List ℕ = c.as_slice.result.now in
    let here : List ℕ = c.as_slice-2.result.now in
    let listed : List (List ℕ) = c.in_ok-listed.listed.items in
    let size-is : c.size-size.result ≡ size = c.size-size.ensures.size in
    let some : 0 < full_size f.kept = omega (arith, c.requires.long, f.short) in
    let full : AreFull f.kept = subst AreFull c.descriptors.ensures.bytes c.descriptors.ensures.full in
    let whole = all_is f.kept c.descriptors.result.now c.in_ok-all.all.items c.extent_descriptor.result f.bytes.now c.as_slice-bytes.result.now all c.args.first c.descriptors.ensures.bytes
    (c.in_ok-all.ensures.items_if_clones_equal (λ x y e. e)) c.as_slice-bytes.ensures.bytes c.extent_descriptor.ensures (c.as_slice.ensures.value ∙ c.in_ok-extend_from_slice.ensures.items) in
    let g = grown f.kept f.bytes.now all size c.args.first full (f.some some) f.short c.requires.room whole refl in
    let same : c.deref.result.now ≡ all = c.deref.ensures.value ∙ sym c.as_slice.ensures.value in
    let copy : c.in_ok-here.here.items ≡ take 1_856 c.deref.result.now = c.in_ok-here.ensures.items_if_clones_equal (λ x y e. e) in
    let end : here ≡ c.in_ok-here.here.items ++ c.next_descriptor.result = c.as_slice-2.ensures.value ∙ c.in_ok-extend_from_slice-2.ensures.items in
    let fit = here_fits size c.args.next all c.deref.result.now c.in_ok-here.here.items c.next_descriptor.result here g c.requires.long c.requires.after same copy c.next_descriptor.ensures end in
    let here-is : here ≡ take 1_856 all ++ next_descriptor c.args.next = end ∙ (λ i. (copy ∙ ap (take 1_856) same) i ++ c.next_descriptor.ensures i) in
    let have : HaveDescriptors size (next_number here) listed =
    subst (λ (n : ℕ). HaveDescriptors size n listed) (sym fit.leads) (subst (λ (n : ℕ). HaveDescriptors n c.args.next listed) size-is c.in_ok-listed.ensures.have) in
    let fields : ℕ → ℕ → Fields = λ n u. record { kind = IcbFile; moment = c.args.moment; links = 1; unique = u; size = n; place = IcbExtents here } in
    let sized = subst (λ (n : ℕ). IsEntry (fields n c.from.result) f.address c.encode_fe-entry.result) size-is c.encode_fe-entry.ensures in
    let entry = subst (λ (u : ℕ). IsEntry (fields size u) f.address c.encode_fe-entry.result) c.from.ensures sized in
    grown_node medium c.args.moment f from c.args.first (blocks ++ listed) blocks listed here c.encode_fe-entry.result kept some full (omega (arith, c.requires.room)) placed refl
    (c.in_ok-listed.ensures.count ∙ ap descriptor_blocks size-is) (λ more. fit.leads ∙ next-is) have (ap (λ (d : List ℕ). all_descriptors d listed) here-is ∙ c.in_ok-listed.ensures.all ∙ whole)
    ((entries_agree (fields size f.unique) c.encode_fe-entry.result f.address).0 entry)
