use Rattle.std.proofs.Common.{inr}
use Rattle.std.proofs.lemmas.Result.{err_from_is_err_and}
use Rattle.drive.specs.Journal.{held}
use Rattle.vat.specs.Table.{view}
use Rattle.recover.proofs.Tables.{has_table}
use Rattle.recover.proofs.table.table_at.Goals as goal

pub returns-in_err-vat-clause-refused : goal.returns-in_err-vat-clause-refused
returns-in_err-vat-clause-refused g c =
    let q = err_from_is_err_and c.from_residual-in_err-vat.result c.from_residual-in_err-vat.ensures.1 in
    rw q.1 (rw q.2 (λ h. inr (
      c.in_ok-entry.entry,
      c.in_ok-entry.ensures.found (c.read_table.ensures.reads.honest h),
      c.in_ok-entry.ensures.below,
      rw c.table_entry.ensures.reads.journal at (c.in_err-vat.ensures.refused h),
    )))

pub returns-clause-table : goal.returns-clause-table
returns-clause-table g c = λ h.
    let read = c.in_ok-vat.ensures.table in
    let same = rw c.table_entry.ensures.reads.journal at (read.1 h) in
    has_table (held (g.D.Drive.journal c.args.drive.now)) c.args.at c.in_ok-entry.entry (view c.in_ok-vat.vat) read.0
    (c.in_ok-entry.ensures.found (c.read_table.ensures.reads.honest h)) c.in_ok-entry.ensures.below same read.2
