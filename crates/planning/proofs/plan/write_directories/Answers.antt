use Rattle.std.proofs.Common.{◌≡◌, ◌+◌, length, take, drop, get_or, sym, ap, arith, length-append}
use Rattle.std.proofs.lemmas.Result.{err_from_is_err_and}
use Rattle.drive.proofs.Reading.{writes_then}
use Rattle.planning.specs.Plan.{directory_list, directories_list}
use Rattle.planning.proofs.Plans.{list_more, list_front}
use Rattle.planning.proofs.Puttings.{takes_both, stops_first, stops_second}
use Rattle.planning.proofs.plan.write_directories.Goals as goal

pub write_directory-requires-clause-begins : goal.write_directory-requires-clause-begins
write_directory-requires-clause-begins g c = c.loop-placed.invariant.takes.begins c.requires.begins

pub write_directory-requires-clause-fits : goal.write_directory-requires-clause-fits
write_directory-requires-clause-fits g c =
    let ds = c.args.directories.now in
    let i = c.loop-placed.placed-index in
    let p = c.placed-item.result in
    let is : get_or ds i p ≡ p = (let told = c.placed-item.is in cc) in
    let more = list_more ds i p c.loop-placed-test.true is in
    omega (arith, c.requires.fits, c.loop-placed.invariant.takes.ends, c.loop-placed.invariant.writes.capacity, ap length more, length-append (directories_list (take i ds)) (directory_list p), ap length (list_front (i + 1) ds), length-append (directories_list (take (i + 1) ds)) (directories_list (drop (i + 1) ds)))

pub returns-in_err-write_directory-clause-err : goal.returns-in_err-write_directory-clause-err
returns-in_err-write_directory-clause-err g c =
    let q = err_from_is_err_and c.from_residual.result c.from_residual.ensures.1 in
    let ds = c.args.directories.now in
    let i = c.loop-placed.placed-index in
    let p = c.placed-item.result in
    let is : get_or ds i p ≡ p = (let told = c.placed-item.is in cc) in
    let more = list_more ds i p c.loop-placed-test.true is in
    let upto = stops_second c.args.drive.now c.loop-placed.drive c.write_directory.new.drive c.args.writer.now.packets c.loop-placed.writer.packets (directories_list (take i ds)) (directory_list p) (directories_list (take (i + 1) ds)) (sym more) c.loop-placed.invariant.takes c.in_err-write_directory.ensures.err in
    rw q.1 (stops_first c.args.drive.now c.write_directory.new.drive c.args.writer.now.packets (directories_list (take (i + 1) ds)) (directories_list (drop (i + 1) ds)) (directories_list ds) (list_front (i + 1) ds) upto)

pub loop-placed-preserved : goal.loop-placed-preserved
loop-placed-preserved g c =
    let ds = c.args.directories.now in
    let i = c.loop-placed.placed-index in
    let p = c.placed-item.result in
    let is : get_or ds i p ≡ p = (let told = c.placed-item.is in cc) in
    let more = list_more ds i p c.loop-placed-test.true is in
    record {
      takes = takes_both c.args.drive.now c.loop-placed.drive c.write_directory.new.drive c.args.writer.now.packets c.loop-placed.writer.packets c.write_directory.new.writer.packets (directories_list (take i ds)) (directory_list p) (directories_list (take (i + 1) ds)) (sym more) c.loop-placed.invariant.takes c.in_ok-write_directory.ensures.ok;
      writes = writes_then c.loop-placed.invariant.writes c.in_ok-write_directory.ensures.writes;
    }
