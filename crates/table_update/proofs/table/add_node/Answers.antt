use Rattle.std.proofs.Common.{◌≡◌, true}
use Rattle.std.specs.Prelude.{Some}
use Rattle.vat.specs.Table.{view}
use Rattle.table_update.specs.TableChange.{with_number}
use Rattle.table_update.proofs.NodeChanges.{fits_added_file, fits_added_directory, when_true, below_if}
use Rattle.table_update.proofs.table.add_node.Goals as goal

pub returns-in-File-clause-fits : goal.returns-in-File-clause-fits
returns-in-File-clause-fits c =
    let t = view c.args.vat.now in
    let yes : c.in_ok-take_entry.field-0 ≡ true = c.if-not-branch.false in
    let entry = when_true c.in_ok-take_entry.field-0 (with_number c.args.address (Some c.args.number) t.entries) t.entries c.take_entry.new.entries.items yes c.in_ok-take_entry.ensures.entry in
    fits_added_file t c.requires.fits c.args.address c.take_entry.new.entries.items c.args.number c.requires.number c.requires.unique (c.in_ok-take_entry.ensures.free.0 yes) entry

pub returns-in-File-clause-below : goal.returns-in-File-clause-below
returns-in-File-clause-below c at small below =
    below_if c.in_ok-take_entry.field-0 at c.args.address (Some c.args.number) c.args.vat.now.entries.items c.take_entry.new.entries.items c.in_ok-take_entry.ensures.entry small below

pub returns-in-Directory-clause-fits : goal.returns-in-Directory-clause-fits
returns-in-Directory-clause-fits c =
    let t = view c.args.vat.now in
    let yes : c.in_ok-take_entry.field-0 ≡ true = c.if-not-branch.false in
    let entry = when_true c.in_ok-take_entry.field-0 (with_number c.args.address (Some c.args.number) t.entries) t.entries c.take_entry.new.entries.items yes c.in_ok-take_entry.ensures.entry in
    fits_added_directory t c.requires.fits c.args.address c.take_entry.new.entries.items c.args.number c.requires.number c.requires.unique (c.in_ok-take_entry.ensures.free.0 yes) entry

pub returns-in-Directory-clause-below : goal.returns-in-Directory-clause-below
returns-in-Directory-clause-below c at small below =
    below_if c.in_ok-take_entry.field-0 at c.args.address (Some c.args.number) c.args.vat.now.entries.items c.take_entry.new.entries.items c.in_ok-take_entry.ensures.entry small below
