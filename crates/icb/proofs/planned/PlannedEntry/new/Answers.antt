use Rattle.std.proofs.Common.{sym, subst}
use Rattle.icb.specs.Entry.{Fields, FitsEntry, IsEntry, fields_of}
use Rattle.icb.proofs.EntryBlocks.{as_it_was}
use Rattle.icb.proofs.planned.PlannedEntry.new.Goals as goal

pub with_last-requires : goal.with_last-requires
with_last-requires c = subst FitsEntry (sym (as_it_was (fields_of c.args.entry.now))) c.requires

pub returns : goal.returns
returns c = subst (λ (e : Fields). IsEntry e c.args.location c.with_last.result) (as_it_was (fields_of c.args.entry.now)) c.with_last.ensures
