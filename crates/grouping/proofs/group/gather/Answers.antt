use Rattle.std.proofs.Common.{rules, ap, sym, ◌∙◌}
use Rattle.drive.proofs.Reading.{follows_any, follows_none, follows_then}
use Rattle.drive.specs.Reads.{one_if}
use Rattle.request.proofs.FrameLaws.{taken_first}
use Rattle.engine.proofs.Messages.{taken_less}
use Rattle.engine.specs.Served.{frames_of}
use Rattle.grouping.proofs.Answers.{going_none}
use Rattle.grouping.proofs.Going.{adds_none, adds_then, adds_untouched, goes_full, goes_on, goes_some, ok_of, err_of}
use Rattle.grouping.proofs.Settled.{untouched_keeps}
use Rattle.grouping.proofs.group.gather.Goals as goal

pub loop-message-init : goal.loop-message-init
loop-message-init g c = record {
  going = going_none _ _ _ _ c.requires.none;
  follows = adds_none _ c.requires.ready;
  lent = follows_none _ _;
}

pub loop-message-smaller : goal.loop-message-smaller
loop-message-smaller g c = taken_less _ _ c.in-Some.message (taken_first c.loop-message.frames c.skip.new.self c.in-Some.message c.in-Some.ensures.some c.skip.ensures.taken)

pub loop-message-smaller-else-is_full : goal.loop-message-smaller-else-is_full
loop-message-smaller-else-is_full g c = taken_less _ _ c.in-Some.message (taken_first c.loop-message.frames c.skip.new.self c.in-Some.message c.in-Some.ensures.some c.skip.ensures.taken)

pub loop-message-smaller-else-is_full-2 : goal.loop-message-smaller-else-is_full-2
loop-message-smaller-else-is_full-2 g c = taken_less _ _ c.in-Some.message (taken_first c.loop-message.frames c.skip.new.self c.in-Some.message c.in-Some.ensures.some c.skip.ensures.taken)

pub answer-answer-requires : goal.answer-answer-requires
answer-answer-requires g c = c.loop-message.invariant.follows.ready

-- The parts of what became of one message more.
pub loop-message-preserved : goal.loop-message-preserved
loop-message-preserved g c =
    let i = c.loop-message.invariant in
    let e = c.answer-answer.ensures in
    record {
      going = goes_on g.D.Drive _ c.loop-message.frames c.skip.new.self _ _ _ c.answer-answer.new.drive c.end_commit.new.drive _ _ _ _ _ c.in-Some.message c.answer-answer.result c.count-before.result i.going
          (record {
            takes = taken_first c.loop-message.frames c.skip.new.self c.in-Some.message c.in-Some.ensures.some c.skip.ensures.taken;
            answered = record { answered = e.answered; calls = e.calls; withstands = e.withstands; planned = e.planned; nothing = e.nothing };
            none = c.is_fault.ensures ∙ ap one_if c.if-is_fault.false;
            untouched = c.end_commit.ensures.untouched;
            first = g.met.D.Settles.once c.loop-message.drive;
            second = g.met.D.Settles.once c.answer-answer.new.drive;
            before_is = c.count-before.ensures;
            marked = ok_of c.end_commit.result _ (sym c.is_err.ensures.value ∙ c.if-is_err.false) c.end_commit.ensures.ok;
          })
          (ok_of c.encode_answer.result _ (sym c.is_err-in-Some.ensures.value ∙ c.if-is_err-2.false) c.encode_answer.ensures.ok);
      follows = adds_then _ _ _ i.follows (adds_untouched g.D.Drive _ _ c.answer-answer.new.drive c.end_commit.new.drive c.end_commit.ensures.untouched e.answered.follows);
      lent = follows_then i.lent (follows_then (follows_any e.lent) (untouched_keeps c.answer-answer.new.drive c.end_commit.new.drive c.end_commit.ensures.untouched c.end_commit.ensures.gathering));
    }

pub loop-message-preserved-else-is_full : goal.loop-message-preserved-else-is_full
loop-message-preserved-else-is_full g c =
    let i = c.loop-message.invariant in
    let e = c.answer-answer.ensures in
    record {
      going = goes_on g.D.Drive _ c.loop-message.frames c.skip.new.self _ _ _ c.answer-answer.new.drive c.end_commit.new.drive _ _ _ _ _ c.in-Some.message c.answer-answer.result c.count-before.result i.going
          (record {
            takes = taken_first c.loop-message.frames c.skip.new.self c.in-Some.message c.in-Some.ensures.some c.skip.ensures.taken;
            answered = record { answered = e.answered; calls = e.calls; withstands = e.withstands; planned = e.planned; nothing = e.nothing };
            none = c.is_fault.ensures ∙ ap one_if c.if-is_fault.false;
            untouched = c.end_commit.ensures.untouched;
            first = g.met.D.Settles.once c.loop-message.drive;
            second = g.met.D.Settles.once c.answer-answer.new.drive;
            before_is = c.count-before.ensures;
            marked = ok_of c.end_commit.result _ (sym c.is_err.ensures.value ∙ c.if-is_err.false) c.end_commit.ensures.ok;
          })
          (ok_of c.encode_answer.result _ (sym c.is_err-in-Some.ensures.value ∙ c.if-is_err-2.false) c.encode_answer.ensures.ok);
      follows = adds_then _ _ _ i.follows (adds_untouched g.D.Drive _ _ c.answer-answer.new.drive c.end_commit.new.drive c.end_commit.ensures.untouched e.answered.follows);
      lent = follows_then i.lent (follows_then (follows_any e.lent) (untouched_keeps c.answer-answer.new.drive c.end_commit.new.drive c.end_commit.ensures.untouched c.end_commit.ensures.gathering));
    }

pub loop-message-preserved-else-is_full-2 : goal.loop-message-preserved-else-is_full-2
loop-message-preserved-else-is_full-2 g c =
    let i = c.loop-message.invariant in
    let e = c.answer-answer.ensures in
    record {
      going = goes_on g.D.Drive _ c.loop-message.frames c.skip.new.self _ _ _ c.answer-answer.new.drive c.end_commit.new.drive _ _ _ _ _ c.in-Some.message c.answer-answer.result c.count-before.result i.going
          (record {
            takes = taken_first c.loop-message.frames c.skip.new.self c.in-Some.message c.in-Some.ensures.some c.skip.ensures.taken;
            answered = record { answered = e.answered; calls = e.calls; withstands = e.withstands; planned = e.planned; nothing = e.nothing };
            none = c.is_fault.ensures ∙ ap one_if c.if-is_fault.false;
            untouched = c.end_commit.ensures.untouched;
            first = g.met.D.Settles.once c.loop-message.drive;
            second = g.met.D.Settles.once c.answer-answer.new.drive;
            before_is = c.count-before.ensures;
            marked = ok_of c.end_commit.result _ (sym c.is_err.ensures.value ∙ c.if-is_err.false) c.end_commit.ensures.ok;
          })
          (ok_of c.encode_answer.result _ (sym c.is_err-in-Some.ensures.value ∙ c.if-is_err-2.false) c.encode_answer.ensures.ok);
      follows = adds_then _ _ _ i.follows (adds_untouched g.D.Drive _ _ c.answer-answer.new.drive c.end_commit.new.drive c.end_commit.ensures.untouched e.answered.follows);
      lent = follows_then i.lent (follows_then (follows_any e.lent) (untouched_keeps c.answer-answer.new.drive c.end_commit.new.drive c.end_commit.ensures.untouched c.end_commit.ensures.gathering));
    }

pub returns-then-is_fault : goal.returns-then-is_fault
returns-then-is_fault g c =
    let i = c.loop-message.invariant in
    let e = c.answer-answer.ensures in
    record {
      gathers = tt;
      held = (frames_of i.going.told.answers, i.going.told.told);
      follows = adds_then _ _ _ i.follows e.answered.follows;
      lent = follows_then i.lent (follows_any e.lent);
    }

pub returns-then-is_err : goal.returns-then-is_err
returns-then-is_err g c =
    let i = c.loop-message.invariant in
    let e = c.answer-answer.ensures in
    record {
      gathers = tt;
      held = (frames_of i.going.told.answers, i.going.told.told);
      follows = adds_then _ _ _ i.follows (adds_untouched g.D.Drive _ _ c.answer-answer.new.drive c.end_commit.new.drive c.end_commit.ensures.untouched e.answered.follows);
      lent = follows_then i.lent (follows_then (follows_any e.lent) (untouched_keeps c.answer-answer.new.drive c.end_commit.new.drive c.end_commit.ensures.untouched c.end_commit.ensures.gathering));
    }

pub returns-then-is_err-2 : goal.returns-then-is_err-2
returns-then-is_err-2 g c =
    let i = c.loop-message.invariant in
    let e = c.answer-answer.ensures in
    let kept = err_of c.encode_answer.result _ (sym c.is_err-in-Some.ensures.value ∙ c.if-is_err-2.true) c.encode_answer.ensures.err in
    record {
      gathers = goes_some g.D.Drive _ c.loop-message.frames c.skip.new.self _ _ _ c.answer-answer.new.drive c.end_commit.new.drive _ _ _ _ _ c.in-Some.message c.answer-answer.result c.count-before.result i.going
          (record {
            takes = taken_first c.loop-message.frames c.skip.new.self c.in-Some.message c.in-Some.ensures.some c.skip.ensures.taken;
            answered = record { answered = e.answered; calls = e.calls; withstands = e.withstands; planned = e.planned; nothing = e.nothing };
            none = c.is_fault.ensures ∙ ap one_if c.if-is_fault.false;
            untouched = c.end_commit.ensures.untouched;
            first = g.met.D.Settles.once c.loop-message.drive;
            second = g.met.D.Settles.once c.answer-answer.new.drive;
            before_is = c.count-before.ensures;
            marked = ok_of c.end_commit.result _ (sym c.is_err.ensures.value ∙ c.if-is_err.false) c.end_commit.ensures.ok;
          })
          kept;
      held = (frames_of i.going.told.answers, kept ∙ i.going.told.told);
      follows = adds_then _ _ _ i.follows (adds_untouched g.D.Drive _ _ c.answer-answer.new.drive c.end_commit.new.drive c.end_commit.ensures.untouched e.answered.follows);
      lent = follows_then i.lent (follows_then (follows_any e.lent) (untouched_keeps c.answer-answer.new.drive c.end_commit.new.drive c.end_commit.ensures.untouched c.end_commit.ensures.gathering));
    }

pub returns-then-is_full : goal.returns-then-is_full
returns-then-is_full g c =
    let i = c.loop-message.invariant in
    let e = c.answer-answer.ensures in
    let gathered = goes_full g.D.Drive _ c.loop-message.frames c.skip.new.self _ _ _ c.answer-answer.new.drive c.end_commit.new.drive _ _ _ _ _ c.in-Some.message c.answer-answer.result c.count-before.result i.going
    (record {
      takes = taken_first c.loop-message.frames c.skip.new.self c.in-Some.message c.in-Some.ensures.some c.skip.ensures.taken;
      answered = record { answered = e.answered; calls = e.calls; withstands = e.withstands; planned = e.planned; nothing = e.nothing };
      none = c.is_fault.ensures ∙ ap one_if c.if-is_fault.false;
      untouched = c.end_commit.ensures.untouched;
      first = g.met.D.Settles.once c.loop-message.drive;
      second = g.met.D.Settles.once c.answer-answer.new.drive;
      before_is = c.count-before.ensures;
      marked = ok_of c.end_commit.result _ (sym c.is_err.ensures.value ∙ c.if-is_err.false) c.end_commit.ensures.ok;
    })
    (ok_of c.encode_answer.result _ (sym c.is_err-in-Some.ensures.value ∙ c.if-is_err-2.false) c.encode_answer.ensures.ok) in
    record {
      gathers = gathered;
      held = (frames_of gathered.gathering.told.answers, gathered.gathering.told.told);
      follows = adds_then _ _ _ i.follows (adds_untouched g.D.Drive _ _ c.answer-answer.new.drive c.end_commit.new.drive c.end_commit.ensures.untouched e.answered.follows);
      lent = follows_then i.lent (follows_then (follows_any e.lent) (untouched_keeps c.answer-answer.new.drive c.end_commit.new.drive c.end_commit.ensures.untouched c.end_commit.ensures.gathering));
    }

pub returns : goal.returns
returns g c =
    let i = c.loop-message.invariant in
    record {
      gathers = record { gathering = i.going; some = λ none. (search rules) };
      held = (frames_of i.going.told.answers, i.going.told.told);
      follows = i.follows;
      lent = i.lent;
    }
