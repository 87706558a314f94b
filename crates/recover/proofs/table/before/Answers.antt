use Rattle.std.proofs.Common.{inl, inr, refl}
use Rattle.std.proofs.lemmas.Result.{err_from_is_err_and}
use Rattle.vat.specs.Table.{view}
use Rattle.recover.proofs.table.before.Goals as goal

pub returns-in-None-clause-before : goal.returns-in-None-clause-before
returns-in-None-clause-before g c = λ h. (view c.in_ok-vat.vat, c.in_ok-vat.ensures.table h, c.in-None.is)

pub returns-clause-before : goal.returns-clause-before
returns-clause-before g c = λ h. (
  view c.in_ok-vat.vat,
  c.in_ok-vat.ensures.table (c.linked.ensures.reads.honest h),
  c.in-Some.number,
  c.in-Some.is,
  refl,
  view c.in_ok-linked.field-0,
  rw c.table_at.ensures.reads.journal at (c.in_ok-linked.ensures.table h),
  c.in_ok-linked.ensures.commits,
)

pub returns-in_err-vat-clause-refused : goal.returns-in_err-vat-clause-refused
returns-in_err-vat-clause-refused g c =
    let q = err_from_is_err_and c.from_residual.result c.from_residual.ensures.1 in
    rw q.1 (rw q.2 (λ h. inl (c.in_err-vat.ensures.refused h)))

pub returns-in_err-linked-clause-refused : goal.returns-in_err-linked-clause-refused
returns-in_err-linked-clause-refused g c =
    let q = err_from_is_err_and c.from_residual-in_err-linked.result c.from_residual-in_err-linked.ensures.1 in
    rw q.1 (rw q.2 (λ h. inr (
      view c.in_ok-vat.vat,
      c.in_ok-vat.ensures.table (c.linked.ensures.reads.honest h),
      c.in-Some.number,
      c.in-Some.is,
      rw c.table_at.ensures.reads.journal at (c.in_err-linked.ensures.refused h),
    )))
