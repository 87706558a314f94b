use Rattle.std.proofs.Common.{sym}
use Rattle.engine.proofs.Next.{is_next}
use Rattle.scenarios.proofs.machine.answer_request.Goals as goal

pub apply-requires-clause-next : goal.apply-requires-clause-next
apply-requires-clause-next c =
    is_next c.args.request.now.client c.args.request.now.number _ c.requires.keeps.fits.distinct (sym c.in-New.ensures)
