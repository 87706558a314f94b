use Rattle.std.proofs.Common.{arith}
use Rattle.vat.specs.Table.{view}
use Rattle.table_update.proofs.RecordChanges.{fits_committed}
use Rattle.table_update.proofs.table.keep_reply.Goals as goal

pub returns-clause-fits : goal.returns-clause-fits
returns-clause-fits c =
    let at = c.ranges.at in
    let client = c.ranges.client in
    let number = c.ranges.number in
    let r = c.requires in
    fits_committed c.args.at c.args.client c.args.number c.args.code (view c.args.vat.now) c.answer.new.records.items r.fits r.afterwards (omega arith) r.answers.greatest r.answers.some_client (omega arith) r.answers.some_number (omega arith) r.count r.answers.next c.in_ok-answer.ensures.kept
