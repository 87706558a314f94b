use Rattle.std.proofs.Common.{subst, arith}
use Rattle.std.specs.Prelude.{None}
use Rattle.dir.specs.declared.entry.Kind.{Kind}
use Rattle.dir.specs.declared.entry.Kind.TheVariants.{File, Directory}
use Rattle.vat.specs.Table.{view}
use Rattle.table_update.specs.TableChange.{with_number, CountsNode}
use Rattle.table_update.proofs.NodeChanges.{fits_removed_file, fits_removed_directory, when_true, below_if}
use Rattle.table_update.proofs.table.remove_node.Goals as goal

pub returns-in-File-clause-fits : goal.returns-in-File-clause-fits
returns-in-File-clause-fits c =
    let t = view c.args.vat.now in
    let some : CountsNode File t = subst (λ (k : Kind). CountsNode k t) c.in-File.is (c.has_node.ensures.0 c.if-not-has_node.false) in
    let entry = when_true c.set_entry.result (with_number c.args.address None t.entries) t.entries c.set_entry.new.entries.items c.if-not-set_entry.false c.set_entry.ensures.entry in
    fits_removed_file t c.requires.fits c.args.address c.set_entry.new.entries.items (omega (arith, c.if-address-le-ROOT_ADDRESS.false)) some (c.set_entry.ensures.used.0 c.if-not-set_entry.false) entry

pub returns-in-File-clause-below : goal.returns-in-File-clause-below
returns-in-File-clause-below c at below =
    below_if c.set_entry.result at c.args.address None c.args.vat.now.entries.items c.set_entry.new.entries.items c.set_entry.ensures.entry tt below

pub returns-in-Directory-clause-fits : goal.returns-in-Directory-clause-fits
returns-in-Directory-clause-fits c =
    let t = view c.args.vat.now in
    let some : CountsNode Directory t = subst (λ (k : Kind). CountsNode k t) c.in-Directory.is (c.has_node.ensures.0 c.if-not-has_node.false) in
    let entry = when_true c.set_entry.result (with_number c.args.address None t.entries) t.entries c.set_entry.new.entries.items c.if-not-set_entry.false c.set_entry.ensures.entry in
    fits_removed_directory t c.requires.fits c.args.address c.set_entry.new.entries.items (omega (arith, c.if-address-le-ROOT_ADDRESS.false)) some (c.set_entry.ensures.used.0 c.if-not-set_entry.false) entry

pub returns-in-Directory-clause-below : goal.returns-in-Directory-clause-below
returns-in-Directory-clause-below c at below =
    below_if c.set_entry.result at c.args.address None c.args.vat.now.entries.items c.set_entry.new.entries.items c.set_entry.ensures.entry tt below
