use Rattle.std.proofs.Common.{◌≡◌, ◌++◌}
use Rattle.std.proofs.lemmas.Result.{err_from_is_err_and}
use Rattle.durability.specs.Plan.{packed}
use Rattle.planning.proofs.Packing.{packed_split}
use Rattle.planning.proofs.Puttings.{stops_first, stops_second, takes_both}
use Rattle.planning.proofs.write.Writer.lend_data.Goals as goal

pub returns-in_err-lend-clause-err : goal.returns-in_err-lend-clause-err
returns-in_err-lend-clause-err g c =
    let p = err_from_is_err_and c.from_residual.result c.from_residual.ensures.1 in
    let blocks = c.as_chunks.result.0.now in
    let text = c.as_chunks.result.1.now in
    let whole : blocks ++ packed text ≡ packed c.args.bytes.now = rw (c.as_chunks.ensures.front, c.as_chunks.ensures.back) (packed_split c.args.bytes.now) in
    rw p.1 (stops_first c.args.drive.now c.lend.new.drive c.args.self.now.packets blocks (packed text) (packed c.args.bytes.now) whole c.in_err-lend.ensures.err)

pub returns-in_err-put_text-clause-err : goal.returns-in_err-put_text-clause-err
returns-in_err-put_text-clause-err g c =
    let p = err_from_is_err_and c.from_residual-in_err-put_text.result c.from_residual-in_err-put_text.ensures.1 in
    let blocks = c.as_chunks.result.0.now in
    let text = c.as_chunks.result.1.now in
    let whole : blocks ++ packed text ≡ packed c.args.bytes.now = rw (c.as_chunks.ensures.front, c.as_chunks.ensures.back) (packed_split c.args.bytes.now) in
    rw p.1 (stops_second c.args.drive.now c.lend.new.drive c.put_text.new.drive c.args.self.now.packets c.lend.new.self.packets blocks (packed text) (packed c.args.bytes.now) whole c.in_ok-lend.ensures.ok c.in_err-put_text.ensures.err)

pub returns-clause-ok : goal.returns-clause-ok
returns-clause-ok g c =
    let blocks = c.as_chunks.result.0.now in
    let text = c.as_chunks.result.1.now in
    let whole : blocks ++ packed text ≡ packed c.args.bytes.now = rw (c.as_chunks.ensures.front, c.as_chunks.ensures.back) (packed_split c.args.bytes.now) in
    takes_both c.args.drive.now c.lend.new.drive c.put_text.new.drive c.args.self.now.packets c.lend.new.self.packets c.put_text.new.self.packets blocks (packed text) (packed c.args.bytes.now) whole c.in_ok-lend.ensures.ok c.in_ok-put_text.ensures.ok
