use Rattle.engine.proofs.Pieces.{keeps_on}
use Rattle.programs.proofs.Copying.{whole_front}
use Rattle.programs.proofs.Saying.{puts_until}
use Rattle.programs.proofs.lines.put.Goals as goal

pub returns-in_err-put_all-clause-puts : goal.returns-in_err-put_all-clause-puts
returns-in_err-put_all-clause-puts g c = puts_until c.from_residual.result _ _ _ c.args.bytes.now c.from_residual.ensures.1 c.in_err-put_all.ensures.fault c.in_err-put_all.ensures.err

pub returns-in-Err-clause-puts : goal.returns-in-Err-clause-puts
returns-in-Err-clause-puts g c = whole_front _ _ c.args.bytes.now (keeps_on _ _ _ c.args.bytes.now c.in_ok-put_all.ensures.ok c.flush.ensures.bytes)
