use Rattle.std.proofs.Common.{◌≡◌, ◌<◌, List, [], ℕ, length, get_or, replicate, arith}
use Rattle.std.proofs.lemmas.List.{length-replicate, get_or-replicate, length-take-le}
use Rattle.std.proofs.lemmas.Result.{err_from_is_err_and}
use Rattle.drive.proofs.Packing.{stops_before, takes-nil}
use Rattle.drive.proofs.Reading.{writes_none, writes_then}
use Rattle.durability.specs.Plan.{zeros}
use Rattle.planning.proofs.Puttings.{takes_item, stops_item, takes_whole}
use Rattle.planning.proofs.write.Writer.put_zeros.Goals as goal

pub put-requires-clause-fits : goal.put-requires-clause-fits
put-requires-clause-fits g c =
    let all = replicate c.args.count zeros in
    let size : length all ≡ c.args.count = length-replicate {A = List ℕ} c.args.count zeros in
    omega (arith, c.loop-i.invariant.takes.ends, length-take-le c.loop-i.i all (omega (arith, size, c.loop-i-test.true)), c.loop-i-test.true, c.requires.fits, c.loop-i.invariant.writes.capacity)

pub returns-in_err-put-clause-err : goal.returns-in_err-put-clause-err
returns-in_err-put-clause-err g c =
    let p = err_from_is_err_and c.from_residual.result c.from_residual.ensures.1 in
    let all = replicate c.args.count zeros in
    let below : c.loop-i.i < length all = omega (arith, c.loop-i-test.true, length-replicate {A = List ℕ} c.args.count zeros) in
    let is : get_or all c.loop-i.i [] ≡ zeros = get_or-replicate c.args.count c.loop-i.i zeros [] c.loop-i-test.true in
    rw p.1 (stops_item c.args.drive.now c.loop-i.drive c.put.new.drive c.args.self.now.packets c.loop-i.self.packets c.loop-i.i all zeros below is c.loop-i.invariant.takes (stops_before c.in_err-put.ensures.err))

pub loop-i-preserved : goal.loop-i-preserved
loop-i-preserved g c =
    let all = replicate c.args.count zeros in
    let below : c.loop-i.i < length all = omega (arith, c.loop-i-test.true, length-replicate {A = List ℕ} c.args.count zeros) in
    let is : get_or all c.loop-i.i [] ≡ zeros = get_or-replicate c.args.count c.loop-i.i zeros [] c.loop-i-test.true in
    record {
      takes = takes_item c.args.drive.now c.loop-i.drive c.put.new.drive c.args.self.now.packets c.loop-i.self.packets c.loop-i.i all zeros below is c.loop-i.invariant.takes c.put.new.self.packets c.in_ok-put.ensures.ok;
      writes = writes_then c.loop-i.invariant.writes c.in_ok-put.ensures.writes;
    }

pub returns-clause-ok : goal.returns-clause-ok
returns-clause-ok g c =
    let all = replicate c.args.count zeros in
    takes_whole c.args.drive.now c.loop-i.drive c.args.self.now.packets c.loop-i.self.packets c.loop-i.i all (omega (arith, c.loop-i-test.false, length-replicate {A = List ℕ} c.args.count zeros)) c.loop-i.invariant.takes

pub loop-i-init : goal.loop-i-init
loop-i-init g c = record { takes = takes-nil g.D.Drive c.args.drive.now c.args.self.now.packets; writes = writes_none g.D.Drive c.args.drive.now }
