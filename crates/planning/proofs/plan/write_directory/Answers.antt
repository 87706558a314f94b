use Rattle.std.proofs.Common.{◌∷◌, [], refl, arith, length-append}
use Rattle.std.proofs.lemmas.Result.{err_from_is_err_and}
use Rattle.drive.proofs.Packing.{stops_before}
use Rattle.planning.specs.Plan.{directory_data, directory_list}
use Rattle.planning.proofs.Puttings.{takes_both, stops_first, stops_second}
use Rattle.planning.proofs.plan.write_directory.Goals as goal

pub put_directory-requires-clause-fits : goal.put_directory-requires-clause-fits
put_directory-requires-clause-fits g c = omega (arith, c.requires.fits, length-append (directory_data c.args.placed.now) (c.args.placed.now.entry ∷ []))

pub put_entry-requires-clause-fits : goal.put_entry-requires-clause-fits
put_entry-requires-clause-fits g c = omega (arith, c.requires.fits, length-append (directory_data c.args.placed.now) (c.args.placed.now.entry ∷ []), c.in_ok-put_directory.ensures.ok.ends, c.put_directory.ensures.writes.capacity)

pub returns-in_err-put_directory-clause-err : goal.returns-in_err-put_directory-clause-err
returns-in_err-put_directory-clause-err g c =
    let q = err_from_is_err_and c.from_residual.result c.from_residual.ensures.1 in
    let p = c.args.placed.now in
    rw q.1 (stops_first c.args.drive.now c.put_directory.new.drive c.args.writer.now.packets (directory_data p) (p.entry ∷ []) (directory_list p) refl c.in_err-put_directory.ensures.err)

pub returns-in_err-put_entry-clause-err : goal.returns-in_err-put_entry-clause-err
returns-in_err-put_entry-clause-err g c =
    let q = err_from_is_err_and c.from_residual-in_err-put_entry.result c.from_residual-in_err-put_entry.ensures.1 in
    let p = c.args.placed.now in
    rw q.1 (stops_second c.args.drive.now c.put_directory.new.drive c.put_entry.new.drive c.args.writer.now.packets c.put_directory.new.self.packets (directory_data p) (p.entry ∷ []) (directory_list p) refl c.in_ok-put_directory.ensures.ok (stops_before c.in_err-put_entry.ensures.err))

pub returns-clause-ok : goal.returns-clause-ok
returns-clause-ok g c =
    let p = c.args.placed.now in
    takes_both c.args.drive.now c.put_directory.new.drive c.put_entry.new.drive c.args.writer.now.packets c.put_directory.new.self.packets c.put_entry.new.self.packets (directory_data p) (p.entry ∷ []) (directory_list p) refl c.in_ok-put_directory.ensures.ok c.in_ok-put_entry.ensures.ok
