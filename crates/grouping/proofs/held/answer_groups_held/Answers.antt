use Rattle.std.proofs.Common.{sym, ◌∙◌}
use Rattle.engine.specs.Situation.{seen_on}
use Rattle.grouping.proofs.Going.{ok_of, err_of}
use Rattle.grouping.proofs.Holding.{held_more, held_some, one_held, some_held}
use Rattle.grouping.proofs.Settled.{settles_none, settles_then}
use Rattle.grouping.proofs.Streams.{grouping_none, one_less}
use Rattle.grouping.proofs.held.answer_groups_held.Goals as goal

pub loop-alloc-init : goal.loop-alloc-init
loop-alloc-init g c = record { grouping = grouping_none _ _ _ _; ready = c.requires; lent = settles_none _ _ }

pub loop-alloc-smaller : goal.loop-alloc-smaller
loop-alloc-smaller g c =
    let told = ok_of c.answer_group.result _ (sym c.is_err.ensures.value ∙ c.if-is_err.false) c.answer_group.ensures.ok in
    let there = c.has_message.ensures.some c.loop-alloc-test.true in
    let held = one_held c.loop-alloc.frames c.answer_group.new.frames (seen_on g.D.Drive c.loop-alloc.engine c.loop-alloc.drive) _ (seen_on g.D.Drive c.answer_group.new.engine c.answer_group.new.drive) _ c.loop-alloc.answers.items c.answer_group.new.answers.items told in
    one_less c.loop-alloc.frames c.answer_group.new.frames _ _ _ _ held.made there.0 there.1 held.one

pub loop-alloc-preserved : goal.loop-alloc-preserved
loop-alloc-preserved g c =
    let told = ok_of c.answer_group.result _ (sym c.is_err.ensures.value ∙ c.if-is_err.false) c.answer_group.ensures.ok in
    let held = one_held c.loop-alloc.frames c.answer_group.new.frames (seen_on g.D.Drive c.loop-alloc.engine c.loop-alloc.drive) _ (seen_on g.D.Drive c.answer_group.new.engine c.answer_group.new.drive) _ c.loop-alloc.answers.items c.answer_group.new.answers.items told in
    record {
      grouping = held_more _ c.loop-alloc.frames c.answer_group.new.frames _ _ _ _ _ _ _ c.loop-alloc.answers.items c.answer_group.new.answers.items c.loop-alloc.invariant.grouping held;
      ready = c.answer_group.ensures.ready;
      lent = settles_then c.loop-alloc.invariant.lent c.answer_group.ensures.lent;
    }

pub returns-then-is_err-clause-err : goal.returns-then-is_err-clause-err
returns-then-is_err-clause-err g c =
    let untold = err_of c.answer_group.result _ (sym c.is_err.ensures.value ∙ c.if-is_err.true) c.answer_group.ensures.err in
    let held = some_held c.loop-alloc.frames c.answer_group.new.frames (seen_on g.D.Drive c.loop-alloc.engine c.loop-alloc.drive) _ (seen_on g.D.Drive c.answer_group.new.engine c.answer_group.new.drive) _ c.loop-alloc.answers.items c.answer_group.new.answers.items untold in
    held_some _ c.loop-alloc.frames c.answer_group.new.frames _ _ _ _ _ _ _ c.loop-alloc.answers.items c.answer_group.new.answers.items c.loop-alloc.invariant.grouping held

pub returns-then-is_err-clause-lent : goal.returns-then-is_err-clause-lent
returns-then-is_err-clause-lent g c = settles_then c.loop-alloc.invariant.lent c.answer_group.ensures.lent
