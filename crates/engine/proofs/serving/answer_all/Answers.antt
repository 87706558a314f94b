use Rattle.std.proofs.Common.{rules, refl}
use Rattle.drive.proofs.Reading.{follows_any, follows_none, follows_then}
use Rattle.request.proofs.FrameLaws.{taken_first}
use Rattle.engine.proofs.Messages.{answering_kept, answering_more, answering_none, answering_some, if_err, taken_less}
use Rattle.engine.proofs.serving.answer_all.Goals as goal

pub loop-message-init : goal.loop-message-init
loop-message-init g c = record { answering = answering_none _ _ _; ready = c.requires; lent = follows_none _ _ }

pub loop-message-smaller : goal.loop-message-smaller
loop-message-smaller g c = taken_less _ _ c.in-Some.message (taken_first c.loop-message.frames c.skip.new.self c.in-Some.message c.in-Some.ensures.some c.skip.ensures.taken)

pub loop-message-preserved : goal.loop-message-preserved
loop-message-preserved g c = record {
  answering = answering_more _ c.loop-message.frames _ _ _ _ _ (g.W.Write.contents c.loop-message.writer) _ c.in-Some.message c.answer-answer.result
      c.loop-message.invariant.answering (taken_first c.loop-message.frames c.skip.new.self c.in-Some.message c.in-Some.ensures.some c.skip.ensures.taken) (record { answered = c.answer-answer.ensures.answered; calls = c.answer-answer.ensures.calls; withstands = c.answer-answer.ensures.withstands; planned = c.answer-answer.ensures.planned; nothing = c.answer-answer.ensures.nothing }) (search rules);
  ready = c.answer-answer.ensures.answered.follows.ready;
  lent = follows_then c.loop-message.invariant.lent (follows_any c.answer-answer.ensures.lent);
}

pub returns-in_err-write_answer-clause-err : goal.returns-in_err-write_answer-clause-err
returns-in_err-write_answer-clause-err g c =
    if_err c.from_residual.result _ _ _ c.from_residual.ensures.1 refl
    (answering_some _ _ c.loop-message.frames _ _ _ _ _ (g.W.Write.contents c.loop-message.writer) _ c.in-Some.message c.answer-answer.result
    c.loop-message.invariant.answering (taken_first c.loop-message.frames c.skip.new.self c.in-Some.message c.in-Some.ensures.some c.skip.ensures.taken) (record { answered = c.answer-answer.ensures.answered; calls = c.answer-answer.ensures.calls; withstands = c.answer-answer.ensures.withstands; planned = c.answer-answer.ensures.planned; nothing = c.answer-answer.ensures.nothing }) c.in_err-write_answer.ensures.err)

pub returns-then-is_err-clause-err : goal.returns-then-is_err-clause-err
returns-then-is_err-clause-err g c =
    answering_kept _ c.loop-message.frames _ _ _ _ (g.W.Write.contents c.loop-message.writer) _ (search rules) (search rules)
    c.loop-message.invariant.answering c.flush.ensures.bytes

pub returns-in_err-write_answer-clause-lent : goal.returns-in_err-write_answer-clause-lent
returns-in_err-write_answer-clause-lent g c = follows_then c.loop-message.invariant.lent (follows_any c.answer-answer.ensures.lent)
