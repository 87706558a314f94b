use Rattle.std.proofs.Common.{◌≡◌, ◌+◌, ◌≤◌, ◌∙◌, sym, ap, refl, subst, length, List, inl, inr, arith}
use Rattle.std.specs.Int.{div_ceil}
use Rattle.std.specs.Prelude.{IsOkAnd}
use Rattle.std.proofs.lemmas.Bool.{false≢true}
use Rattle.limits.specs.declared.TheConstants.{BLOCK_BYTES, PARTITION_START}
use Rattle.drive.specs.Journal.{Event, held}
use Rattle.recover.specs.Blocks.{medium_bytes_at}
use Rattle.icb.specs.Entry as icb
use Rattle.udf.specs.Words.{icb_fields}
use Rattle.model.specs.Graph.Body.{Bytes}
use Rattle.lookup.specs.declared.nodes.Nodes.{Nodes}
use Rattle.icb.specs.declared.entry.Place as source
use Rattle.recover.proofs.Held.{length-held}
use Rattle.lookup.proofs.FileSizes.{size_is}
use Rattle.lookup.proofs.FileBytes.{has_bytes, stored_nowhere, stored_inside, stored_extent}
use Rattle.lookup.proofs.Looking.{failed, looks_failed, looks_then}
use Rattle.lookup.proofs.StoredNodes.{decoded}
use Rattle.lookup.proofs.lookup.Lookup.file_data.Goals as goal

pub returns-in_err-block-clause-read : goal.returns-in_err-block-clause-read
returns-in_err-block-clause-read g c once honest s there file = failed c.from_residual.result _ _ _ c.from_residual.ensures.1 (inr (inl (c.in_err-block.ensures.refused s there)))

pub returns-in-Err-clause-read : goal.returns-in-Err-clause-read
returns-in-Err-clause-read g c once honest s there file =
    let b = c.in_ok-block.ensures.block.block honest s there in
    let ok = decoded c.in_ok-block.block there.block c.args.address there.fields c.decode_fe.result b.0 there.entry c.decode_fe.ensures.only in
    absurd (subst (λ r. IsOkAnd r (λ e. icb.fields_of e ≡ icb_fields there.fields)) c.in-Err.is ok)

pub returns-then-not-lies_below-clause-read : goal.returns-then-not-lies_below-clause-read
returns-then-not-lies_below-clause-read g c once honest s there file =
    let J = g.D.Drive.journal c.args.self.now.drive.now in
    let at = c.args.self.now.nodes.vat_icb_address in
    let b = c.in_ok-block.ensures.block.block honest s there in
    let ok = decoded c.in_ok-block.block there.block c.args.address there.fields c.decode_fe.result b.0 there.entry c.decode_fe.ensures.only in
    let same = subst (λ r. IsOkAnd r (λ e. icb.fields_of e ≡ icb_fields there.fields)) c.in-Ok.is ok in
    let h = has_bytes at c.args.self.now.nodes.numbers.now J c.args.address s there file in
    let lies = stored_extent at J s there.fields c.in-Ok.entry h same c.in-Extent.first c.in-Extent.is in
    absurd (false≢true (sym c.if-not-lies_below.true ∙ c.lies_below.ensures.1 (subst (λ (n : Nodes). c.in-Extent.first + PARTITION_START + div_ceil c.in-Ok.entry.size BLOCK_BYTES ≤ n.vat_icb_address) (sym c.in_ok-block.ensures.looks.nodes) lies.0)))

pub returns-in_err-to_vec-in-Inside-clause-read : goal.returns-in_err-to_vec-in-Inside-clause-read
returns-in_err-to_vec-in-Inside-clause-read g c once honest s there file = failed c.from_residual-in_err-to_vec-in-Inside.result _ _ _ c.from_residual-in_err-to_vec-in-Inside.ensures.1 (inr (inr refl))

pub returns-in_err-bytes-in-Extent-clause-read : goal.returns-in_err-bytes-in-Extent-clause-read
returns-in_err-bytes-in-Extent-clause-read g c once honest s there file =
    failed c.from_residual-in_err-bytes-in-Extent.result _ _ _ c.from_residual-in_err-bytes-in-Extent.ensures.1 (inr c.in_err-bytes-in-Extent.ensures.refused)

pub returns-in-None-clause-read : goal.returns-in-None-clause-read
returns-in-None-clause-read g c once honest s there file =
    let J = g.D.Drive.journal c.args.self.now.drive.now in
    let at = c.args.self.now.nodes.vat_icb_address in
    let b = c.in_ok-block.ensures.block.block honest s there in
    let ok = decoded c.in_ok-block.block there.block c.args.address there.fields c.decode_fe.result b.0 there.entry c.decode_fe.ensures.only in
    let same = subst (λ r. IsOkAnd r (λ e. icb.fields_of e ≡ icb_fields there.fields)) c.in-Ok.is ok in
    let h = has_bytes at c.args.self.now.nodes.numbers.now J c.args.address s there file in
    (stored_nowhere at J s there.fields c.in-Ok.entry h same c.in-None.is ∙ ap Bytes (sym (c.new-in-None.ensures ∙ c.new.ensures.items)), tt)

pub returns-in_ok-to_vec-in-Inside-clause-read : goal.returns-in_ok-to_vec-in-Inside-clause-read
returns-in_ok-to_vec-in-Inside-clause-read g c once honest s there file =
    let J = g.D.Drive.journal c.args.self.now.drive.now in
    let at = c.args.self.now.nodes.vat_icb_address in
    let b = c.in_ok-block.ensures.block.block honest s there in
    let ok = decoded c.in_ok-block.block there.block c.args.address there.fields c.decode_fe.result b.0 there.entry c.decode_fe.ensures.only in
    let same = subst (λ r. IsOkAnd r (λ e. icb.fields_of e ≡ icb_fields there.fields)) c.in-Ok.is ok in
    let h = has_bytes at c.args.self.now.nodes.numbers.now J c.args.address s there file in
    let copied : c.in_ok-to_vec-in-Inside.field-0.items ≡ c.in-Inside.bytes.now = c.in_ok-to_vec-in-Inside.ensures.items_if_clones_equal (λ x y e. e) in
    (stored_inside at J s there.fields c.in-Ok.entry h same c.in-Inside.bytes c.in-Inside.is ∙ ap Bytes (sym (c.new-in-Inside.ensures ∙ copied)), tt)

pub returns-in_ok-bytes-in-Extent-clause-read : goal.returns-in_ok-bytes-in-Extent-clause-read
returns-in_ok-bytes-in-Extent-clause-read g c once honest s there file =
    let J = g.D.Drive.journal c.args.self.now.drive.now in
    let at = c.args.self.now.nodes.vat_icb_address in
    let b = c.in_ok-block.ensures.block.block (c.in_ok-bytes-in-Extent.ensures.reads.honest honest) s there in
    let ok = decoded c.in_ok-block.block there.block c.args.address there.fields c.decode_fe.result b.0 there.entry c.decode_fe.ensures.only in
    let same = subst (λ r. IsOkAnd r (λ e. icb.fields_of e ≡ icb_fields there.fields)) c.in-Ok.is ok in
    let h = has_bytes at c.args.self.now.nodes.numbers.now J c.args.address s there file in
    let read = c.in_ok-bytes-in-Extent.ensures.read honest ∙ ap (λ (K : List Event). medium_bytes_at (held K) (c.in-Extent.first + PARTITION_START) c.in-Ok.entry.size) c.in_ok-block.ensures.looks.reads.journal in
    ((stored_extent at J s there.fields c.in-Ok.entry h same c.in-Extent.first c.in-Extent.is).1 ∙ ap Bytes (sym (c.new-in-Extent.ensures ∙ read)), tt)

pub returns-in_err-bytes-in-Extent-clause-looks : goal.returns-in_err-bytes-in-Extent-clause-looks
returns-in_err-bytes-in-Extent-clause-looks g c =
    looks_failed c.from_residual-in_err-bytes-in-Extent.result _ c.from_residual-in_err-bytes-in-Extent.ensures.1
    (looks_then c.in_ok-block.ensures.looks (record { same_drive = refl; same_cache = refl; nodes = refl; reads = c.in_err-bytes-in-Extent.ensures.reads; kept = λ honest kept. kept }))

pub returns-in_ok-bytes-in-Extent-clause-looks : goal.returns-in_ok-bytes-in-Extent-clause-looks
returns-in_ok-bytes-in-Extent-clause-looks g c =
    looks_then c.in_ok-block.ensures.looks (record { same_drive = refl; same_cache = refl; nodes = refl; reads = c.in_ok-bytes-in-Extent.ensures.reads; kept = λ honest kept. kept })

pub returns-in-Extents-clause-read : goal.returns-in-Extents-clause-read
returns-in-Extents-clause-read g c once honest s there file =
    let J = g.D.Drive.journal c.args.self.now.drive.now in
    let at = c.args.self.now.nodes.vat_icb_address in
    let b = c.in_ok-block.ensures.block.block honest s there in
    let ok = decoded c.in_ok-block.block there.block c.args.address there.fields c.decode_fe.result b.0 there.entry c.decode_fe.ensures.only in
    let same = subst (λ r. IsOkAnd r (λ e. icb.fields_of e ≡ icb_fields there.fields)) c.in-Ok.is ok in
    let h = has_bytes at c.args.self.now.nodes.numbers.now J c.args.address s there file in
    let within : at ≤ length (held J) = omega (arith, length-held J, c.args.self.now.within) in
    let fits = subst (λ (p : source.Place). icb.FitsPlace c.in-Ok.entry.kind c.in-Ok.entry.size (icb.place_of p)) c.in-Extents.is c.in-Ok.ensures.found.fits.place in (
      tt,
      inl (
        refl,
        λ bytes body.
            let size = size_is at J s there.fields c.in-Ok.entry c.in-Ok.entry.kind h same c.in-Ok.ensures.found.fits.place once c.in_ok-block.ensures.block.whole within bytes body in
            omega (arith, size, fits.1),
      ),
    )
