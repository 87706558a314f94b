use Rattle.std.proofs.Common.{refl}
use Rattle.programs.proofs.Copying.{sent_of, sends_part, sends_unanswered, sends_wanted}
use Rattle.programs.proofs.Opening.{keeps_self}
use Rattle.programs.proofs.sending.send.Goals as goal

pub returns-in-Err-clause-sends : goal.returns-in-Err-clause-sends
returns-in-Err-clause-sends g c = (refl, keeps_self _)

pub returns-in_err-answered-clause-sends : goal.returns-in_err-answered-clause-sends
returns-in_err-answered-clause-sends g c =
    sends_unanswered c.from_residual.result _ _ _ _ _ _ _ _ _ c.from_residual.ensures.1 (sent_of c.send_frames-sent.result _ _ _ _ c.send_frames-sent.ensures.all c.send_frames-sent.ensures.until) c.in_err-answered.ensures.until

pub returns-in_err-sent-clause-sends : goal.returns-in_err-sent-clause-sends
returns-in_err-sent-clause-sends g c =
    sends_part c.from_residual-in_err-sent.result _ _ _ _ _ _ _ _ _ c.from_residual-in_err-sent.ensures.1 c.in_err-sent.ensures.until c.in_ok-answered.ensures.all.all

pub returns-clause-sends : goal.returns-clause-sends
returns-clause-sends g c =
    sends_wanted c.want_answers.result _ _ _ _ _ _ _ _ _ _ c.want_answers.ensures.ok c.want_answers.ensures.err c.in_ok-sent.ensures.all c.in_ok-answered.ensures.all
