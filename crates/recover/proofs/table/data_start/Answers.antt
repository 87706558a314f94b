use Rattle.recover.proofs.Tables.{nowhere_is_file, extents_are_file, inside_is_file}
use Rattle.recover.proofs.table.data_start.Goals as goal

pub returns-in-None-clause-none : goal.returns-in-None-clause-none
returns-in-None-clause-none c = nowhere_is_file c.args.entry.now.kind c.args.entry.now.size c.args.entry.now.place c.requires.place c.in-None.is

pub returns-in-Extents-clause-none : goal.returns-in-Extents-clause-none
returns-in-Extents-clause-none c = extents_are_file c.args.entry.now.kind c.args.entry.now.size c.args.entry.now.place _ c.requires.place c.in-Extents.is

pub returns-in-Inside-clause-none : goal.returns-in-Inside-clause-none
returns-in-Inside-clause-none c = inside_is_file c.args.entry.now.kind c.args.entry.now.size c.args.entry.now.place _ c.requires.place c.in-Inside.is
