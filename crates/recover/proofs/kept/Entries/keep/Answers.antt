use Rattle.std.proofs.Common.{ℕ, Option, None, subst, sym, arith}
use Rattle.std.specs.Prelude.{IfSome}
use Rattle.recover.specs.declared.kept.KeptEntry.{KeptEntry}
use Rattle.recover.specs.ReadCache.{IsEntrySaid}
use Rattle.recover.proofs.Written.{holds_written}
use Rattle.recover.proofs.kept.Entries.keep.Goals as goal

pub returns : goal.returns
returns c medium said are =
    let P : ℕ → Option KeptEntry → Type 0 = λ address o. IfSome o (λ k. IsEntrySaid medium (record { at = k.at; address = address }) k.entry) in
    holds_written None P c.reach.new.table.items c.args.place.address _ (omega (arith, c.in-Ok.ensures.within, c.reach.new.table.ok)) said (λ k. subst (P k) (sym (c.in-Ok.ensures.same k)) (are k))
