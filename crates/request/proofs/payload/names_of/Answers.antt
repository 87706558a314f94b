use Rattle.std.proofs.Common.{◌∷◌, [], length-append, arith}
use Rattle.std.proofs.lemmas.Result.{err_from_is_err_and}
use Rattle.request.specs.Reading.{names_at}
use Rattle.request.proofs.NameLoop.{goes_on, ends, is_done}
use Rattle.request.proofs.payload.names_of.Goals as goal

pub returns-in_err-name : goal.returns-in_err-name
returns-in_err-name c =
    let p = err_from_is_err_and c.from_residual.result c.from_residual.ensures.1 in
    rw (p.1, p.2) (ends c.in_err-name.field-0.0 c.loop.path c.args.count c.loop.counter c.loop.rest.now (names_at c.args.count c.args.bytes.now) c.loop-test.true c.in_err-name.ensures c.loop.invariant.1)

pub loop-preserved : goal.loop-preserved
loop-preserved c =
    let name = c.in_ok-name.name in
    (rw c.in_ok-push.ensures.ok (omega (arith, length-append c.loop.path (name ∷ []))), rw c.in_ok-push.ensures.ok (goes_on c.loop.path c.args.count c.loop.counter c.loop.rest.now name c.in_ok-name.after.now (names_at c.args.count c.args.bytes.now) c.loop-test.true c.in_ok-name.ensures c.loop.invariant.1))

pub returns : goal.returns
returns c = is_done c.loop.path c.args.count c.loop.counter c.loop.rest.now (names_at c.args.count c.args.bytes.now) c.loop-test.false c.loop.invariant.1
