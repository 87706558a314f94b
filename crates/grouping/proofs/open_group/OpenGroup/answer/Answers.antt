use Rattle.std.proofs.Common.{ap, refl, sym, ◌∙◌}
use Rattle.drive.proofs.Reading.{follows_any}
use Rattle.drive.specs.Reads.{one_if}
use Rattle.request.proofs.FrameLaws.{taken_first}
use Rattle.grouping.proofs.Going.{ok_of}
use Rattle.grouping.proofs.Opening.{cut_then, next_none, next_one}
use Rattle.grouping.proofs.open_group.OpenGroup.answer.Goals as goal

pub returns-in_default-clause-ok : goal.returns-in_default-clause-ok
returns-in_default-clause-ok g c = next_none _ _ _ _ c.in_default.ensures.none

pub returns-clause-ok : goal.returns-clause-ok
returns-clause-ok g c =
    let e = c.answer-answer.ensures in
    let marked = ok_of c.end_commit.result _ (sym c.is_err.ensures.value ∙ c.if-is_err.false) c.end_commit.ensures.ok in
    next_one g.D.Drive c.args.frames.now c.skip.new.self _ _ c.answer-answer.new.drive c.end_commit.new.drive _ _ c.args.self.now.marks.items _ c.in-Some.message c.answer-answer.result c.count-before.result
    (record {
      takes = taken_first c.args.frames.now c.skip.new.self c.in-Some.message c.in-Some.ensures.some c.skip.ensures.taken;
      answered = record { answered = e.answered; calls = e.calls; withstands = e.withstands; planned = e.planned; nothing = e.nothing };
      none = c.is_fault.ensures ∙ ap one_if c.if-is_fault.false;
      untouched = c.end_commit.ensures.untouched;
      first = g.met.D.Settles.once c.args.drive.now;
      second = g.met.D.Settles.once c.answer-answer.new.drive;
      before_is = c.count-before.ensures;
      marked = refl;
    })
    (ok_of c.encode_answer.result _ (sym c.is_err-2.ensures.value ∙ c.if-is_err-2.false) c.encode_answer.ensures.ok)
    marked

pub returns-then-is_fault-clause-err : goal.returns-then-is_fault-clause-err
returns-then-is_fault-clause-err g c =
    let e = c.answer-answer.ensures in
    cut_then _ _ _ _ e.answered.follows (follows_any e.lent).failures c.take_back.ensures.back
