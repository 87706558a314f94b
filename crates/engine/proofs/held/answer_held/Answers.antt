use Rattle.std.proofs.Common.{rules, Some}
use Rattle.drive.proofs.Reading.{follows_any, follows_none, follows_then}
use Rattle.request.proofs.FrameLaws.{taken_first}
use Rattle.engine.proofs.Messages.{answering_more, answering_none, answering_some, on_err, taken_less}
use Rattle.engine.proofs.held.answer_held.Goals as goal

pub loop-message-init : goal.loop-message-init
loop-message-init g c = record { answering = answering_none _ _ _; ready = c.requires; lent = follows_none _ _ }

pub loop-message-smaller : goal.loop-message-smaller
loop-message-smaller g c = taken_less _ _ c.in-Some.message (taken_first c.loop-message.frames c.skip.new.self c.in-Some.message c.in-Some.ensures.some c.skip.ensures.taken)

pub loop-message-preserved : goal.loop-message-preserved
loop-message-preserved g c = record {
  answering = answering_more _ c.loop-message.frames _ _ _ _ _ (Some c.loop-message.answers.items) _ c.in-Some.message c.answer-answer.result
      c.loop-message.invariant.answering (taken_first c.loop-message.frames c.skip.new.self c.in-Some.message c.in-Some.ensures.some c.skip.ensures.taken) (record { answered = c.answer-answer.ensures.answered; calls = c.answer-answer.ensures.calls; withstands = c.answer-answer.ensures.withstands; planned = c.answer-answer.ensures.planned; nothing = c.answer-answer.ensures.nothing }) (search rules);
  ready = c.answer-answer.ensures.answered.follows.ready;
  lent = follows_then c.loop-message.invariant.lent (follows_any c.answer-answer.ensures.lent);
}

pub returns-in_err-put_answer-clause-err : goal.returns-in_err-put_answer-clause-err
returns-in_err-put_answer-clause-err g c =
    on_err c.from_residual.result _
    (answering_some _ _ c.loop-message.frames _ _ _ _ _ (Some c.loop-message.answers.items) _ c.in-Some.message c.answer-answer.result
    c.loop-message.invariant.answering (taken_first c.loop-message.frames c.skip.new.self c.in-Some.message c.in-Some.ensures.some c.skip.ensures.taken) (record { answered = c.answer-answer.ensures.answered; calls = c.answer-answer.ensures.calls; withstands = c.answer-answer.ensures.withstands; planned = c.answer-answer.ensures.planned; nothing = c.answer-answer.ensures.nothing }) (search rules))

pub returns-in_err-put_answer-clause-lent : goal.returns-in_err-put_answer-clause-lent
returns-in_err-put_answer-clause-lent g c = follows_then c.loop-message.invariant.lent (follows_any c.answer-answer.ensures.lent)
