use Rattle.std.proofs.Common.{inl, refl, ◌∙◌, sym}
use Rattle.std.proofs.lemmas.Bool.{eqb-true}
use Rattle.dir.proofs.Splits.{length-use, no_use}
use Rattle.dir.proofs.fids.Fid.is_padded.Goals as goal

pub returns-then-is_empty : goal.returns-then-is_empty
returns-then-is_empty c =
    let none = eqb-true _ _ (sym c.is_empty.ensures ∙ c.if-is_empty.true) in
    let used = length-use c.args.self.now c.requires.whole in (
      λ yes. record {
        filled = no_use c.args.self.now c.requires.whole none;
        padding = c.has_zeros.ensures.0 c.if-not-has_zeros.false;
        lengthened = inl (sym used ∙ none);
      },
      λ padded. refl,
    )
