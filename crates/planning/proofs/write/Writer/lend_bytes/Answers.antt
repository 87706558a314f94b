use Rattle.std.proofs.Common.{replicate}
use Rattle.std.proofs.lemmas.Result.{err_from_is_err_and}
use Rattle.drive.proofs.Packing.{takes-append, stops_after, stops_longer}
use Rattle.durability.specs.Plan.{zeros, packed}
use Rattle.planning.proofs.write.Writer.lend_bytes.Goals as goal

pub returns-in_err-put_zeros-clause-err : goal.returns-in_err-put_zeros-clause-err
returns-in_err-put_zeros-clause-err g c =
    let p = err_from_is_err_and c.from_residual.result c.from_residual.ensures.1 in
    rw p.1 (stops_longer c.args.drive.now c.put_zeros.new.drive c.args.self.now.packets (replicate c.args.gap zeros) (packed c.args.bytes.now) c.in_err-put_zeros.ensures.err)

pub returns-in_err-lend_data-clause-err : goal.returns-in_err-lend_data-clause-err
returns-in_err-lend_data-clause-err g c =
    let p = err_from_is_err_and c.from_residual-in_err-lend_data.result c.from_residual-in_err-lend_data.ensures.1 in
    rw p.1 (stops_after c.args.drive.now c.put_zeros.new.drive c.lend_data.new.drive c.args.self.now.packets c.put_zeros.new.self.packets (replicate c.args.gap zeros) (packed c.args.bytes.now) c.in_ok-put_zeros.ensures.ok c.in_err-lend_data.ensures.err)

pub returns-clause-ok : goal.returns-clause-ok
returns-clause-ok g c =
    takes-append c.args.drive.now c.put_zeros.new.drive c.lend_data.new.drive c.args.self.now.packets c.put_zeros.new.self.packets c.lend_data.new.self.packets (replicate c.args.gap zeros) (packed c.args.bytes.now) c.in_ok-put_zeros.ensures.ok c.in_ok-lend_data.ensures.ok
