use Rattle.std.proofs.Common.{arith}
use Rattle.table_update.proofs.EntryChanges.{entry_set}
use Rattle.table_update.proofs.table.set_entry.Goals as goal

pub returns-clause-entry : goal.returns-clause-entry
returns-clause-entry c = entry_set c.args.entries.now.items c.args.address c.args.entry (omega (arith, c.args.entries.now.ok.0, c.len.ensures, c.if-place-len.false))
