use Rattle.std.proofs.Common.{inl, inr, arith}
use Rattle.std.proofs.lemmas.Result.{err_from_is_err_and}
use Rattle.vat.specs.Table.{view}
use Rattle.recover.proofs.table.linked.Goals as goal

pub returns-in_err-vat-clause-refused : goal.returns-in_err-vat-clause-refused
returns-in_err-vat-clause-refused g c =
    let q = err_from_is_err_and c.from_residual.result c.from_residual.ensures.1 in
    rw q.1 (rw q.2 (λ h. inl (c.in_err-vat.ensures.refused h)))

pub returns-then-from-clause-refused : goal.returns-then-from-clause-refused
returns-then-from-clause-refused g c = λ h.
    inr (c.damaged.ensures, view c.in_ok-vat.vat, c.in_ok-vat.ensures.table h, λ same. absurd (omega (arith, same, c.if-from.true)))
