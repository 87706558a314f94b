use Rattle.std.proofs.Common.{Some, Err, sym, arith}
use Rattle.request.specs.Payload.{told_by}
use Rattle.request.proofs.Said.{is_spelled, tells_said}
use Rattle.request.proofs.payload.read_payload.Goals as goal

pub returns-in-Ok-clause-found : goal.returns-in-Ok-clause-found
returns-in-Ok-clause-found c =
    is_spelled (told_by c.in-Ok.message) c.args.payload.now (λ i. omega (arith, c.type_inv.payload i)) c.in-Ok.ensures.ok

pub returns-in-Ok-clause-only : goal.returns-in-Ok-clause-only
returns-in-Ok-clause-only c = λ said good e.
    tells_said (told_by c.in-Ok.message) c.args.payload.now said good e c.in-Ok.ensures.ok

pub returns-in-Err-Malformed-clause-only : goal.returns-in-Err-Malformed-clause-only
returns-in-Err-Malformed-clause-only c = λ said good e.
    tells_said (Some (Err c.in-Err-Malformed.cause)) c.args.payload.now said good e (sym (rw c.in-Err-Malformed.field-0-is at c.in-Err-Malformed.ensures.err))
