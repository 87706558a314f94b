use Rattle.std.specs.Prelude.{Some}
use Rattle.vat.specs.Table.{view}
use Rattle.table_update.proofs.NodeChanges.{fits_placed, below_if}
use Rattle.table_update.proofs.table.place_node.Goals as goal

pub returns-clause-fits : goal.returns-clause-fits
returns-clause-fits c =
    fits_placed (view c.args.vat.now) c.requires.fits c.args.address c.set_entry.new.entries.items c.args.number c.requires.number c.set_entry.result c.set_entry.ensures.used.0 c.set_entry.ensures.entry

pub returns-clause-below : goal.returns-clause-below
returns-clause-below c at small below =
    below_if c.set_entry.result at c.args.address (Some c.args.number) c.args.vat.now.entries.items c.set_entry.new.entries.items c.set_entry.ensures.entry small below
