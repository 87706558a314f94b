use Rattle.std.proofs.Common.{◌≡◌, ◌-◌, ◌+◌, ◌≤◌, ◌∙◌, sym, ap, drop, refl, subst, length, take, List, ℕ, inl, inr, arith}
use Rattle.std.specs.Prelude.{IsOkAnd}
use Rattle.limits.specs.declared.TheConstants.{PARTITION_START}
use Rattle.drive.specs.Journal.{AreWhole, Event, Once, held}
use Rattle.durability.specs.Volume.{AreListed, AreWithin, IsWithin, bytes_in_extents, firsts_at}
use Rattle.recover.specs.Blocks.{medium_bytes_at}
use Rattle.recover.proofs.Held.{length-held}
use Rattle.icb.specs.Entry as icb
use Rattle.udf.specs.Udf.{udf}
use Rattle.udf.specs.Words.{icb_fields}
use Rattle.lookup.proofs.FileBytes.{has_bytes, stored_extent_below, stored_extents, stored_inside}
use Rattle.lookup.proofs.FileSizes.{piece_is, size_is}
use Rattle.lookup.proofs.Looking.{below_same, failed, looks_failed, looks_then}
use Rattle.lookup.proofs.Pieces.{past_end}
use Rattle.lookup.proofs.StoredNodes.{decoded}
use Rattle.lookup.proofs.lookup.Lookup.file_piece.Goals as goal

pub returns-in_err-block-clause-read : goal.returns-in_err-block-clause-read
returns-in_err-block-clause-read g c once honest s there file = failed c.from_residual.result _ _ _ c.from_residual.ensures.1 (inl (c.in_err-block.ensures.refused s there))

pub returns-in-Err-clause-read : goal.returns-in-Err-clause-read
returns-in-Err-clause-read g c once honest s there file =
    let b = c.in_ok-block.ensures.block.block honest s there in
    let ok = decoded c.in_ok-block.block there.block c.args.address there.fields c.decode_fe.result b.0 there.entry c.decode_fe.ensures.only in
    absurd (subst (λ r. IsOkAnd r (λ e. icb.fields_of e ≡ icb_fields there.fields)) c.in-Err.is ok)

pub returns-then-offset-from-clause-read : goal.returns-then-offset-from-clause-read
returns-then-offset-from-clause-read g c once honest s there file =
    let J = g.D.Drive.journal c.args.self.now.drive.now in
    let at = c.args.self.now.nodes.vat_icb_address in
    let b = c.in_ok-block.ensures.block.block honest s there in
    let ok = decoded c.in_ok-block.block there.block c.args.address there.fields c.decode_fe.result b.0 there.entry c.decode_fe.ensures.only in
    let same = subst (λ r. IsOkAnd r (λ e. icb.fields_of e ≡ icb_fields there.fields)) c.in-Ok.is ok in
    let h = has_bytes at c.args.self.now.nodes.numbers.now J c.args.address s there file in
    let within : at ≤ length (held J) = omega (arith, length-held J, c.args.self.now.within) in (
      λ whole body.
          let size = size_is at J s there.fields c.in-Ok.entry c.in-Ok.entry.kind h same c.in-Ok.ensures.found.fits.place once c.in_ok-block.ensures.block.whole within whole body in
          c.new-then-offset-from.ensures ∙ c.new.ensures.items ∙ sym (past_end c.args.count c.args.offset whole (omega (arith, size, c.if-offset-from.true, c.from.ensures))),
      tt,
    )

pub returns-in_err-to_vec-in-Inside-clause-read : goal.returns-in_err-to_vec-in-Inside-clause-read
returns-in_err-to_vec-in-Inside-clause-read g c once honest s there file = failed c.from_residual-in_err-to_vec-in-Inside.result _ _ _ c.from_residual-in_err-to_vec-in-Inside.ensures.1 (inr refl)

pub returns-in_ok-to_vec-in-Inside-clause-read : goal.returns-in_ok-to_vec-in-Inside-clause-read
returns-in_ok-to_vec-in-Inside-clause-read g c once honest s there file =
    let J = g.D.Drive.journal c.args.self.now.drive.now in
    let at = c.args.self.now.nodes.vat_icb_address in
    let b = c.in_ok-block.ensures.block.block honest s there in
    let ok = decoded c.in_ok-block.block there.block c.args.address there.fields c.decode_fe.result b.0 there.entry c.decode_fe.ensures.only in
    let same = subst (λ r. IsOkAnd r (λ e. icb.fields_of e ≡ icb_fields there.fields)) c.in-Ok.is ok in
    let h = has_bytes at c.args.self.now.nodes.numbers.now J c.args.address s there file in
    let within : at ≤ length (held J) = omega (arith, length-held J, c.args.self.now.within) in
    let stored = stored_inside at J s there.fields c.in-Ok.entry h same c.in-Inside.bytes c.in-Inside.is in
    let cut : (c.args.offset + c.min-count.result) - c.args.offset ≡ c.min-count.result = omega arith in
    let copied = c.in_ok-to_vec-in-Inside.ensures.items_if_clones_equal (λ x y e. e) ∙ ap (λ (n : ℕ). take n (drop c.args.offset c.in-Inside.bytes.now)) cut in (
      λ whole body.
          let size = size_is at J s there.fields c.in-Ok.entry c.in-Ok.entry.kind h same c.in-Ok.ensures.found.fits.place once c.in_ok-block.ensures.block.whole within whole body in
          piece_is s c.in-Inside.bytes.now whole _ c.args.offset c.args.count c.in-Ok.entry.size c.min-count.result stored body size c.min-count.ensures (c.new-in-Inside.ensures ∙ copied),
      tt,
    )

pub extent_piece-requires-clause-whole : goal.extent_piece-requires-clause-whole
extent_piece-requires-clause-whole g c = subst (λ (K : List Event). AreWhole K) (sym c.in_ok-block.ensures.looks.reads.journal) c.in_ok-block.ensures.block.whole

pub extents_piece-requires-clause-whole : goal.extents_piece-requires-clause-whole
extents_piece-requires-clause-whole g c = subst (λ (K : List Event). AreWhole K) (sym c.in_ok-block.ensures.looks.reads.journal) c.in_ok-block.ensures.block.whole

pub returns-in_err-bytes-in-Extent-clause-looks : goal.returns-in_err-bytes-in-Extent-clause-looks
returns-in_err-bytes-in-Extent-clause-looks g c =
    looks_failed c.from_residual-in_err-bytes-in-Extent.result _ c.from_residual-in_err-bytes-in-Extent.ensures.1 (looks_then c.in_ok-block.ensures.looks c.in_err-bytes-in-Extent.ensures.looks)

pub returns-in_ok-bytes-in-Extent-clause-looks : goal.returns-in_ok-bytes-in-Extent-clause-looks
returns-in_ok-bytes-in-Extent-clause-looks g c = looks_then c.in_ok-block.ensures.looks c.in_ok-bytes-in-Extent.ensures.looks

pub returns-in_err-bytes-in-Extents-clause-looks : goal.returns-in_err-bytes-in-Extents-clause-looks
returns-in_err-bytes-in-Extents-clause-looks g c =
    looks_failed c.from_residual-in_err-bytes-in-Extents.result _ c.from_residual-in_err-bytes-in-Extents.ensures.1 (looks_then c.in_ok-block.ensures.looks c.in_err-bytes-in-Extents.ensures.looks)

pub returns-in_ok-bytes-in-Extents-clause-looks : goal.returns-in_ok-bytes-in-Extents-clause-looks
returns-in_ok-bytes-in-Extents-clause-looks g c = looks_then c.in_ok-block.ensures.looks c.in_ok-bytes-in-Extents.ensures.looks

pub returns-in_err-bytes-in-Extent-clause-read : goal.returns-in_err-bytes-in-Extent-clause-read
returns-in_err-bytes-in-Extent-clause-read g c once honest s there file =
    let J = g.D.Drive.journal c.args.self.now.drive.now in
    let at = c.args.self.now.nodes.vat_icb_address in
    let p = c.in_ok-block.ensures.looks in
    let b = c.in_ok-block.ensures.block.block (c.in_err-bytes-in-Extent.ensures.looks.reads.honest honest) s there in
    let ok = decoded c.in_ok-block.block there.block c.args.address there.fields c.decode_fe.result b.0 there.entry c.decode_fe.ensures.only in
    let same = subst (λ r. IsOkAnd r (λ e. icb.fields_of e ≡ icb_fields there.fields)) c.in-Ok.is ok in
    let h = has_bytes at c.args.self.now.nodes.numbers.now J c.args.address s there file in
    let stored = stored_extent_below at J s there.fields c.in-Ok.entry h same c.in-Extent.first c.in-Extent.is in
    let once1 = subst (λ (K : List Event). Once K) (sym p.reads.journal) once in
    let read = c.in_err-bytes-in-Extent.ensures.read honest once1 (subst (λ (M : List (List ℕ)). IsWithin M c.in-Extent.first c.in-Ok.entry.size) (sym (below_same p)) stored.0) in
    failed c.from_residual-in_err-bytes-in-Extent.result _ _ _ c.from_residual-in_err-bytes-in-Extent.ensures.1 read.1

pub returns-in_ok-bytes-in-Extent-clause-read : goal.returns-in_ok-bytes-in-Extent-clause-read
returns-in_ok-bytes-in-Extent-clause-read g c once honest s there file =
    let J = g.D.Drive.journal c.args.self.now.drive.now in
    let at = c.args.self.now.nodes.vat_icb_address in
    let p = c.in_ok-block.ensures.looks in
    let b = c.in_ok-block.ensures.block.block (c.in_ok-bytes-in-Extent.ensures.looks.reads.honest honest) s there in
    let ok = decoded c.in_ok-block.block there.block c.args.address there.fields c.decode_fe.result b.0 there.entry c.decode_fe.ensures.only in
    let same = subst (λ r. IsOkAnd r (λ e. icb.fields_of e ≡ icb_fields there.fields)) c.in-Ok.is ok in
    let h = has_bytes at c.args.self.now.nodes.numbers.now J c.args.address s there file in
    let within : at ≤ length (held J) = omega (arith, length-held J, c.args.self.now.within) in
    let stored = stored_extent_below at J s there.fields c.in-Ok.entry h same c.in-Extent.first c.in-Extent.is in
    let once1 = subst (λ (K : List Event). Once K) (sym p.reads.journal) once in
    let read = c.in_ok-bytes-in-Extent.ensures.read honest once1 (subst (λ (M : List (List ℕ)). IsWithin M c.in-Extent.first c.in-Ok.entry.size) (sym (below_same p)) stored.0) in
    let is = read.0 ∙ ap (λ (M : List (List ℕ)). take c.min-count.result (drop c.args.offset (medium_bytes_at M (c.in-Extent.first + PARTITION_START) c.in-Ok.entry.size))) (below_same p) in (
      λ whole body.
          let size = size_is at J s there.fields c.in-Ok.entry c.in-Ok.entry.kind h same c.in-Ok.ensures.found.fits.place once c.in_ok-block.ensures.block.whole within whole body in
          piece_is s _ whole _ c.args.offset c.args.count c.in-Ok.entry.size c.min-count.result stored.1 body size c.min-count.ensures (c.new-in-Extent.ensures ∙ is),
      tt,
    )

pub returns-in_err-bytes-in-Extents-clause-read : goal.returns-in_err-bytes-in-Extents-clause-read
returns-in_err-bytes-in-Extents-clause-read g c once honest s there file =
    let J = g.D.Drive.journal c.args.self.now.drive.now in
    let at = c.args.self.now.nodes.vat_icb_address in
    let p = c.in_ok-block.ensures.looks in
    let b = c.in_ok-block.ensures.block.block (c.in_err-bytes-in-Extents.ensures.looks.reads.honest honest) s there in
    let ok = decoded c.in_ok-block.block there.block c.args.address there.fields c.decode_fe.result b.0 there.entry c.decode_fe.ensures.only in
    let same = subst (λ r. IsOkAnd r (λ e. icb.fields_of e ≡ icb_fields there.fields)) c.in-Ok.is ok in
    let h = has_bytes at c.args.self.now.nodes.numbers.now J c.args.address s there file in
    let stored = stored_extents at J s there.fields c.in-Ok.entry h same c.in-Extents.descriptors c.in-Extents.is in
    let once1 = subst (λ (K : List Event). Once K) (sym p.reads.journal) once in
    let read = c.in_err-bytes-in-Extents.ensures.read honest once1 (subst (λ (M : List (List ℕ)). AreListed udf M c.in-Ok.entry.size c.in-Extents.descriptors.now) (sym (below_same p)) stored.0)
    (subst (λ (M : List (List ℕ)). AreWithin M c.in-Ok.entry.size (firsts_at udf M c.in-Ok.entry.size c.in-Extents.descriptors.now)) (sym (below_same p)) stored.1) in
    failed c.from_residual-in_err-bytes-in-Extents.result _ _ _ c.from_residual-in_err-bytes-in-Extents.ensures.1 read.1

pub returns-in_ok-bytes-in-Extents-clause-read : goal.returns-in_ok-bytes-in-Extents-clause-read
returns-in_ok-bytes-in-Extents-clause-read g c once honest s there file =
    let J = g.D.Drive.journal c.args.self.now.drive.now in
    let at = c.args.self.now.nodes.vat_icb_address in
    let p = c.in_ok-block.ensures.looks in
    let b = c.in_ok-block.ensures.block.block (c.in_ok-bytes-in-Extents.ensures.looks.reads.honest honest) s there in
    let ok = decoded c.in_ok-block.block there.block c.args.address there.fields c.decode_fe.result b.0 there.entry c.decode_fe.ensures.only in
    let same = subst (λ r. IsOkAnd r (λ e. icb.fields_of e ≡ icb_fields there.fields)) c.in-Ok.is ok in
    let h = has_bytes at c.args.self.now.nodes.numbers.now J c.args.address s there file in
    let within : at ≤ length (held J) = omega (arith, length-held J, c.args.self.now.within) in
    let stored = stored_extents at J s there.fields c.in-Ok.entry h same c.in-Extents.descriptors c.in-Extents.is in
    let once1 = subst (λ (K : List Event). Once K) (sym p.reads.journal) once in
    let read = c.in_ok-bytes-in-Extents.ensures.read honest once1 (subst (λ (M : List (List ℕ)). AreListed udf M c.in-Ok.entry.size c.in-Extents.descriptors.now) (sym (below_same p)) stored.0)
    (subst (λ (M : List (List ℕ)). AreWithin M c.in-Ok.entry.size (firsts_at udf M c.in-Ok.entry.size c.in-Extents.descriptors.now)) (sym (below_same p)) stored.1) in
    let is = read.0 ∙ ap (λ (M : List (List ℕ)). take c.min-count.result (drop c.args.offset (bytes_in_extents M c.in-Ok.entry.size (firsts_at udf M c.in-Ok.entry.size c.in-Extents.descriptors.now)))) (below_same p) in (
      λ whole body.
          let size = size_is at J s there.fields c.in-Ok.entry c.in-Ok.entry.kind h same c.in-Ok.ensures.found.fits.place once c.in_ok-block.ensures.block.whole within whole body in
          piece_is s _ whole _ c.args.offset c.args.count c.in-Ok.entry.size c.min-count.result stored.2 body size c.min-count.ensures (c.new-in-Extents.ensures ∙ is),
      tt,
    )
