use Rattle.std.proofs.Common.{◌≡◌, ◌≤◌, ◌∙◌, ap, subst, inl, length, arith}
use Rattle.std.specs.Prelude.{IsOkAnd}
use Rattle.drive.specs.Journal.{held}
use Rattle.recover.proofs.Held.{length-held}
use Rattle.icb.specs.Entry as icb
use Rattle.model.specs.Tree.{has_names}
use Rattle.model.specs.Graph.{Body, content_in}
use Rattle.udf.specs.Words.{icb_fields}
use Rattle.lookup.proofs.FileBytes.{has_bytes}
use Rattle.lookup.proofs.FileSizes.{size_is}
use Rattle.lookup.proofs.Looking.{failed}
use Rattle.lookup.proofs.StoredNodes.{decoded}
use Rattle.lookup.proofs.lookup.Lookup.moment_and_size.Goals as goal

pub returns-in_err-block-clause-read : goal.returns-in_err-block-clause-read
returns-in_err-block-clause-read g c honest s there = failed c.from_residual.result _ _ _ c.from_residual.ensures.1 (inl (c.in_err-block.ensures.refused s there))

pub returns-in-Ok-clause-read : goal.returns-in-Ok-clause-read
returns-in-Ok-clause-read g c honest s there =
    let J = g.D.Drive.journal c.args.self.now.drive.now in
    let at = c.args.self.now.nodes.vat_icb_address in
    let b = c.in_ok-block.ensures.block.block honest s there in
    let ok = decoded c.in_ok-block.block there.block c.args.address there.fields c.decode_fe.result b.0 there.entry c.decode_fe.ensures.only in
    let same = subst (λ r. IsOkAnd r (λ e. icb.fields_of e ≡ icb_fields there.fields)) c.in-Ok.is ok in
    let within : at ≤ length (held J) = omega (arith, length-held J, c.args.self.now.within) in (
      record {
        moment = c.moment.ensures.value ∙ (ap (λ (f : icb.Fields). f.moment) same ∙ there.moment);
        size = λ once bytes body.
            let h = has_bytes at c.args.self.now.nodes.numbers.now J c.args.address s there (ap (λ (y : Body). has_names (content_in y)) body) in
            size_is at J s there.fields c.in-Ok.entry c.in-Ok.entry.kind h same c.in-Ok.ensures.found.fits.place once c.in_ok-block.ensures.block.whole within bytes body;
      },
      tt,
    )

pub returns-in-Err-clause-read : goal.returns-in-Err-clause-read
returns-in-Err-clause-read g c honest s there =
    let b = c.in_ok-block.ensures.block.block honest s there in
    let ok = decoded c.in_ok-block.block there.block c.args.address there.fields c.decode_fe.result b.0 there.entry c.decode_fe.ensures.only in
    absurd (subst (λ r. IsOkAnd r (λ e. icb.fields_of e ≡ icb_fields there.fields)) c.in-Err.is ok)
