use Rattle.std.proofs.Common.{◌≡◌, Some, None, sym, subst, ◌∙◌, arith}
use Rattle.std.specs.Prelude.{IfSome, get_or}
use Rattle.recover.specs.declared.kept.KeptEntry.{KeptEntry}
use Rattle.recover.specs.ReadCache.{IsEntrySaid}
use Rattle.recover.proofs.Written.{same_below}
use Rattle.recover.proofs.kept.Entries.find.Goals as goal

pub returns-in-Some : goal.returns-in-Some
returns-in-Some c medium are =
    let address = c.args.place.address in
    let near = c.if-index-len.false in
    let there : get_or c.args.self.now.kept.items address None ≡ Some c.in-Some.kept =
    same_below None c.index.result.now c.args.self.now.kept.items address (omega (arith, near)) ∙ sym c.index.ensures ∙ c.in-Some.is in
    let said : IsEntrySaid medium (record { at = c.in-Some.kept.at; address = address }) c.in-Some.kept.entry =
    subst (λ o. IfSome o (λ (k : KeptEntry). IsEntrySaid medium (record { at = k.at; address = address }) k.entry)) there (are address) in
    subst (λ at. IsEntrySaid medium (record { at = at; address = address }) c.in-Some.kept.entry) c.if-kept-place.true said
