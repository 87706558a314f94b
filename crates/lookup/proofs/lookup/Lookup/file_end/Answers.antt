use Rattle.std.proofs.Common.{◌≡◌, ◌+◌, ◌≤◌, ◌∙◌, ℕ, List, length, take, ap, subst, sym, refl, inl, arith}
use Rattle.std.specs.Prelude.{IsOkAnd, IfSome, None}
use Rattle.std.proofs.lemmas.Bool.{both_ways}
use Rattle.std.specs.Int.{div_ceil}
use Rattle.limits.specs.declared.TheConstants.{BLOCK_BYTES, PARTITION_START}
use Rattle.drive.specs.Journal.{held}
use Rattle.model.specs.Graph.Body.{Bytes}
use Rattle.durability.specs.Volume.{AreListed, AreWithin, bytes_in_extents}
use Rattle.icb.specs.Entry as icb
use Rattle.icb.specs.Entry.{allocation}
use Rattle.icb.specs.Extents.{AreEntryDescriptors}
use Rattle.udf.specs.Udf.{all_firsts, udf}
use Rattle.udf.specs.Words.{icb_fields}
use Rattle.recover.specs.Faults.{IsShortage}
use Rattle.recover.specs.Walk.{last_of}
use Rattle.recover.proofs.LastExtent.{extents_below}
use Rattle.recover.proofs.Held.{length-held}
use Rattle.lookup.specs.Ends.{EndsAsStored, EndsFile, KnowsExtents}
use Rattle.lookup.specs.Lookups.{Looks}
use Rattle.lookup.specs.declared.end.FileEnd.{FileEnd}
use Rattle.lookup.specs.declared.nodes.Nodes.{Nodes}
use Rattle.lookup.proofs.Ending.{ends_filled, ends_unfilled, firsts_read, full_place, knows_filled, knows_unfilled, placed_filled, placed_unfilled, stored_full}
use Rattle.lookup.proofs.FileBytes.{has_bytes}
use Rattle.lookup.proofs.FileSizes.{size_is}
use Rattle.lookup.proofs.Looking.{below_same, looks_failed, looks_then, never_refused, of_file, refused_by}
use Rattle.lookup.proofs.StoredNodes.{decoded, shorter}
use Rattle.lookup.proofs.lookup.Lookup.file_end.Goals as goal

pub returns-in_err-block-clause-short : goal.returns-in_err-block-clause-short
returns-in_err-block-clause-short g c honest s there file = refused_by c.from_residual.result _ _ c.from_residual.ensures.1 (inl (c.in_err-block.ensures.refused s there))

pub returns-in-Err-clause-short : goal.returns-in-Err-clause-short
returns-in-Err-clause-short g c honest s there file =
    let b = c.in_ok-block.ensures.block.block honest s there in
    let ok = decoded c.in_ok-block.block there.block c.args.address there.fields c.decode_fe.result b.0 there.entry c.decode_fe.ensures.only in
    absurd (subst (λ r. IsOkAnd r (λ e. icb.fields_of e ≡ icb_fields there.fields)) c.in-Err.is ok)

pub returns-then-not-fills_extents-clause-read : goal.returns-then-not-fills_extents-clause-read
returns-then-not-fills_extents-clause-read g c once honest s there file whole body =
    let J = g.D.Drive.journal c.args.self.now.drive.now in
    let at = c.args.self.now.nodes.vat_icb_address in
    let entry = c.in-Ok.entry in
    let b = c.in_ok-block.ensures.block.block honest s there in
    let ok = decoded c.in_ok-block.block there.block c.args.address there.fields c.decode_fe.result b.0 there.entry c.decode_fe.ensures.only in
    let same = subst (λ r. IsOkAnd r (λ e. icb.fields_of e ≡ icb_fields there.fields)) c.in-Ok.is ok in
    let h = has_bytes at c.args.self.now.nodes.numbers.now J c.args.address s there file in
    let within : at ≤ length (held J) = omega (arith, length-held J, c.args.self.now.within) in
    let size = size_is at J s there.fields entry entry.kind h same c.in-Ok.ensures.found.fits.place once c.in_ok-block.ensures.block.whole within whole body in
    ends_unfilled (take at (held J)) whole (record { size = entry.size; extents = c.none.result }) entry.size refl size (λ both. both_ways _ c.if-not-fills_extents.true (c.fills_extents.ensures.1 both)) c.none.ensures

pub returns-then-not-fills_extents-clause-placed : goal.returns-then-not-fills_extents-clause-placed
returns-then-not-fills_extents-clause-placed g c honest s there file =
    let entry = c.in-Ok.entry in
    let b = c.in_ok-block.ensures.block.block honest s there in
    let ok = decoded c.in_ok-block.block there.block c.args.address there.fields c.decode_fe.result b.0 there.entry c.decode_fe.ensures.only in
    let same = subst (λ r. IsOkAnd r (λ e. icb.fields_of e ≡ icb_fields there.fields)) c.in-Ok.is ok in
    placed_unfilled (take c.args.self.now.nodes.vat_icb_address (held (g.D.Drive.journal c.args.self.now.drive.now))) there.fields entry (record { size = entry.size; extents = c.none.result }) same refl (λ both. both_ways _ c.if-not-fills_extents.true (c.fills_extents.ensures.1 both))

pub returns-then-not-fills_extents-clause-extents : goal.returns-then-not-fills_extents-clause-extents
returns-then-not-fills_extents-clause-extents g c =
    let entry = c.in-Ok.entry in
    knows_unfilled (record { size = entry.size; extents = c.none.result }) entry.size refl c.in-Ok.ensures.found.fits.size (λ both. both_ways _ c.if-not-fills_extents.true (c.fills_extents.ensures.1 both)) c.none.ensures

pub all_descriptors-requires : goal.all_descriptors-requires
all_descriptors-requires g c =
    let entry = c.in-Ok.entry in
    let found = c.in-Ok.ensures.found in
    let filled = c.fills_extents.ensures.0 c.if-not-fills_extents.false in
    let p = full_place entry.kind entry.size (icb.place_of entry.place) found.fits.place filled.0 filled.1 in
    let is = c.entry_descriptors.ensures (icb.fields_of entry) c.args.address found refl p.0 in
    record {
      some = omega (arith, filled.0, filled.1);
      limit = found.fits.size;
      long = ap length is ∙ p.1;
      are = subst (λ (d : List ℕ). AreEntryDescriptors 0 entry.size d) (sym is) p.2;
    }

pub end_in_extents-requires : goal.end_in_extents-requires
end_in_extents-requires g c =
    let found = c.in-Ok.ensures.found in
    let filled = c.fills_extents.ensures.0 c.if-not-fills_extents.false in
    record { limit = found.fits.size; full = filled.1; long = c.in_ok-all.ensures.long; are = c.in_ok-all.ensures.are }

pub returns-in_err-all-clause-short : goal.returns-in_err-all-clause-short
returns-in_err-all-clause-short g c honest s there file =
    let J = g.D.Drive.journal c.args.self.now.drive.now in
    let at = c.args.self.now.nodes.vat_icb_address in
    let entry = c.in-Ok.entry in
    let found = c.in-Ok.ensures.found in
    let q = c.in_err-all.ensures.looks in
    let b = c.in_ok-block.ensures.block.block (q.reads.honest honest) s there in
    let ok = decoded c.in_ok-block.block there.block c.args.address there.fields c.decode_fe.result b.0 there.entry c.decode_fe.ensures.only in
    let same = subst (λ r. IsOkAnd r (λ e. icb.fields_of e ≡ icb_fields there.fields)) c.in-Ok.is ok in
    let h = has_bytes at c.args.self.now.nodes.numbers.now J c.args.address s there file in
    let filled = c.fills_extents.ensures.0 c.if-not-fills_extents.false in
    let p = full_place entry.kind entry.size (icb.place_of entry.place) found.fits.place filled.0 filled.1 in
    let is = c.entry_descriptors.ensures (icb.fields_of entry) c.args.address found refl p.0 in
    let stored = stored_full at J s there.fields entry h same entry.kind entry.place refl found.fits.place filled.0 filled.1 in
    let listed = subst (λ (M : List (List ℕ)). AreListed udf M entry.size c.entry_descriptors.result.now) (sym (below_same c.in_ok-block.ensures.looks))
    (subst (λ (d : List ℕ). AreListed udf (take at (held J)) entry.size d) (sym is) stored.0) in
    refused_by c.from_residual-in_err-all.result _ _ c.from_residual-in_err-all.ensures.1 (c.in_err-all.ensures.short honest listed)

pub returns-in_err-all-clause-looks : goal.returns-in_err-all-clause-looks
returns-in_err-all-clause-looks g c = looks_failed c.from_residual-in_err-all.result _ c.from_residual-in_err-all.ensures.1 (looks_then c.in_ok-block.ensures.looks c.in_err-all.ensures.looks)

pub returns-clause-read : goal.returns-clause-read
returns-clause-read g c once honest s there file =
    let J = g.D.Drive.journal c.args.self.now.drive.now in
    let at = c.args.self.now.nodes.vat_icb_address in
    let M = take at (held J) in
    let entry = c.in-Ok.entry in
    let all = c.in_ok-all.all.items in
    let found = c.in-Ok.ensures.found in
    let b = c.in_ok-block.ensures.block.block (c.in_ok-all.ensures.looks.reads.honest honest) s there in
    let ok = decoded c.in_ok-block.block there.block c.args.address there.fields c.decode_fe.result b.0 there.entry c.decode_fe.ensures.only in
    let same = subst (λ r. IsOkAnd r (λ e. icb.fields_of e ≡ icb_fields there.fields)) c.in-Ok.is ok in
    let h = has_bytes at c.args.self.now.nodes.numbers.now J c.args.address s there file in
    let within : at ≤ length (held J) = omega (arith, length-held J, c.args.self.now.within) in
    let filled = c.fills_extents.ensures.0 c.if-not-fills_extents.false in
    let p = full_place entry.kind entry.size (icb.place_of entry.place) found.fits.place filled.0 filled.1 in
    let is = c.entry_descriptors.ensures (icb.fields_of entry) c.args.address found refl p.0 in
    let stored = stored_full at J s there.fields entry h same entry.kind entry.place refl found.fits.place filled.0 filled.1 in
    let firsts = firsts_read M _ entry.size _ (allocation entry.size (icb.place_of entry.place)) all (below_same c.in_ok-block.ensures.looks) is (c.in_ok-all.ensures.listed honest) in
    let stored_there = subst (λ (ns : List ℕ). AreWithin M entry.size ns × (s.body ≡ Bytes (bytes_in_extents M entry.size ns))) (sym firsts) (stored.1, stored.2) in
    let P : FileEnd → Type 0 = λ end. end.size ≡ entry.size in
    let Q : FileEnd → Type 0 = λ end. end.extents ≡ all in
    let R : FileEnd → Type 0 = λ end. (whole : List ℕ) → s.body ≡ Bytes whole → EndsFile M whole end in
    of_file c.end_in_extents.result P Q R
    (λ end size extents whole body.
    let long = size_is at J s there.fields entry entry.kind h same found.fits.place once c.in_ok-block.ensures.block.whole within whole body in
    ends_filled M s whole all end entry.size size extents long body stored_there)
    c.end_in_extents.ensures.size c.end_in_extents.ensures.extents

pub returns-clause-placed : goal.returns-clause-placed
returns-clause-placed g c honest =
    let entry = c.in-Ok.entry in
    let all = c.in_ok-all.all.items in
    let found = c.in-Ok.ensures.found in
    let filled = c.fills_extents.ensures.0 c.if-not-fills_extents.false in
    let p = full_place entry.kind entry.size (icb.place_of entry.place) found.fits.place filled.0 filled.1 in
    let is = c.entry_descriptors.ensures (icb.fields_of entry) c.args.address found refl p.0 in
    let M = take c.args.self.now.nodes.vat_icb_address (held (g.D.Drive.journal c.args.self.now.drive.now)) in
    let firsts = firsts_read M _ entry.size _ (allocation entry.size (icb.place_of entry.place)) all (below_same c.in_ok-block.ensures.looks) is (c.in_ok-all.ensures.listed honest) in
    of_file c.end_in_extents.result (λ (end : FileEnd). end.size ≡ entry.size) (λ (end : FileEnd). end.extents ≡ all) (EndsAsStored M c.args.self.now.nodes.numbers.now c.args.address)
    (λ end size extents s there file.
    let b = c.in_ok-block.ensures.block.block (c.in_ok-all.ensures.looks.reads.honest honest) s there in
    let ok = decoded c.in_ok-block.block there.block c.args.address there.fields c.decode_fe.result b.0 there.entry c.decode_fe.ensures.only in
    let same = subst (λ r. IsOkAnd r (λ e. icb.fields_of e ≡ icb_fields there.fields)) c.in-Ok.is ok in
    placed_filled M there.fields entry end same found.fits.place size (ap all_firsts extents ∙ firsts))
    c.end_in_extents.ensures.size c.end_in_extents.ensures.extents

pub returns-clause-short : goal.returns-clause-short
returns-clause-short g c honest s there file =
    let J = g.D.Drive.journal c.args.self.now.drive.now in
    let at = c.args.self.now.nodes.vat_icb_address in
    let M = take at (held J) in
    let entry = c.in-Ok.entry in
    let all = c.in_ok-all.all.items in
    let found = c.in-Ok.ensures.found in
    let b = c.in_ok-block.ensures.block.block (c.in_ok-all.ensures.looks.reads.honest honest) s there in
    let ok = decoded c.in_ok-block.block there.block c.args.address there.fields c.decode_fe.result b.0 there.entry c.decode_fe.ensures.only in
    let same = subst (λ r. IsOkAnd r (λ e. icb.fields_of e ≡ icb_fields there.fields)) c.in-Ok.is ok in
    let h = has_bytes at c.args.self.now.nodes.numbers.now J c.args.address s there file in
    let filled = c.fills_extents.ensures.0 c.if-not-fills_extents.false in
    let p = full_place entry.kind entry.size (icb.place_of entry.place) found.fits.place filled.0 filled.1 in
    let is = c.entry_descriptors.ensures (icb.fields_of entry) c.args.address found refl p.0 in
    let stored = stored_full at J s there.fields entry h same entry.kind entry.place refl found.fits.place filled.0 filled.1 in
    let firsts = firsts_read M _ entry.size _ (allocation entry.size (icb.place_of entry.place)) all (below_same c.in_ok-block.ensures.looks) is (c.in_ok-all.ensures.listed honest) in
    let within = subst (λ (ns : List ℕ). AreWithin M entry.size ns) (sym firsts) stored.1 in
    let ends = subst (λ (n : Nodes). IfSome (last_of None entry.size (all_firsts all)) (λ e. e.first + PARTITION_START + div_ceil e.size BLOCK_BYTES ≤ n.vat_icb_address)) (sym (looks_then c.in_ok-block.ensures.looks c.in_ok-all.ensures.looks).nodes)
    (extents_below at M (shorter at (held J)) None entry.size (all_firsts all) tt within) in
    never_refused c.end_in_extents.result IsShortage (c.end_in_extents.ensures.below ends)

pub returns-clause-extents : goal.returns-clause-extents
returns-clause-extents g c =
    let entry = c.in-Ok.entry in
    let all = c.in_ok-all.all.items in
    let found = c.in-Ok.ensures.found in
    let filled = c.fills_extents.ensures.0 c.if-not-fills_extents.false in
    let P : FileEnd → Type 0 = λ end. end.size ≡ entry.size in
    let Q : FileEnd → Type 0 = λ end. end.extents ≡ all in
    of_file c.end_in_extents.result P Q KnowsExtents (λ end size extents. knows_filled end entry.size all size extents found.fits.size filled.1 c.in_ok-all.ensures.long) c.end_in_extents.ensures.size c.end_in_extents.ensures.extents

pub returns-clause-looks : goal.returns-clause-looks
returns-clause-looks g c =
    subst (λ (n : ℕ). Looks g.D.Drive n c.args.self.now c.all_descriptors.new.self) (sym c.end_in_extents.ensures.device) (looks_then c.in_ok-block.ensures.looks c.in_ok-all.ensures.looks)
