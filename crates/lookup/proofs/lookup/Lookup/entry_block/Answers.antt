use Rattle.std.proofs.Common.{◌≡◌, ◌∙◌, ℕ, Some, subst}
use Rattle.std.specs.Prelude.{slice_get}
use Rattle.std.proofs.lemmas.Result.{IfOk-weaker}
use Rattle.lookup.proofs.Looking.{looks_none, looks_short}
use Rattle.lookup.proofs.StoredNodes.{entry_there}
use Rattle.lookup.proofs.lookup.Lookup.entry_block.Goals as goal

pub returns-in_err-at-clause-looks : goal.returns-in_err-at-clause-looks
returns-in_err-at-clause-looks g c =
    looks_short c.from_residual.result _ c.from_residual.ensures.1 c.in_err-at.ensures.device looks_none

pub returns-clause-block : goal.returns-clause-block
returns-clause-block g c =
    let entries = c.args.self.now.nodes.numbers.now in
    let used = subst (λ (a : ℕ). slice_get entries a ≡ Some (Some c.in_ok-at.at.number)) c.in_ok-at.ensures.address c.in_ok-at.ensures.used in
    IfOk-weaker c.block_at.result _ _ (λ read f. record {
      block = λ honest s there.
          let e = entry_there c.args.self.now.nodes.vat_icb_address entries (g.D.Drive.journal c.args.self.now.drive.now) c.args.address c.in_ok-at.at.number read.0 s used (f.block honest) there in
          (e.0, f.address ∙ e.1);
      used = (c.in_ok-at.at.number, used);
      whole = f.whole;
    }) c.block_at.ensures.read
