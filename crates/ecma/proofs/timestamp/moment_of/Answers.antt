use Rattle.std.proofs.Common.{arith, FitsSigned, w64}
use Rattle.std.proofs.lemmas.Int.{ints}
use Rattle.jiff.proofs.SpanFacts.{signed_arith}
use Rattle.ecma.proofs.Timestamps.{instant_is}
use Rattle.ecma.proofs.timestamp.moment_of.Goals as goal

pub returns-clause-some : goal.returns-clause-some
returns-clause-some c = λ even.
    let at = c.in-Ok.ensures.value in
    let range = c.in-Ok.instant.in_range in
    let div = c.as_microsecond.ensures in
    let fits : FitsSigned w64 c.as_microsecond.result = omega (arith, ints, signed_arith, range, div) in
    rw c.ok.ensures.value (instant_is c.args.civil c.in-Ok.instant.nanosecond c.as_microsecond.result c.try_from.result even (omega (arith, ints, at)) div fits c.try_from.ensures)
