use Rattle.std.proofs.Common.{refl, sym, subst, ◌∙◌, ℕ, List}
use Rattle.std.specs.Io.KnownBytes.{Appends}
use Rattle.grouping.proofs.Settled.{settles_none, settles_then}
use Rattle.engine.specs.declared.serving.ServeFault.{ServeFault}
use Rattle.engine.specs.Situation.{seen_on}
use Rattle.engine.specs.Streams.{PutsPrefix}
use Rattle.engine.proofs.Messages.{if_err}
use Rattle.grouping.specs.Streams.{GroupingSome}
use Rattle.grouping.proofs.Going.{ok_of, err_of}
use Rattle.grouping.proofs.Streams.{cut_by, grouping_none, grouping_more, grouping_some, grouping_kept, one_told, one_untold, one_less}
use Rattle.grouping.proofs.serving.answer_groups.Goals as goal

pub loop-alloc-init : goal.loop-alloc-init
loop-alloc-init g c = record { grouping = grouping_none _ _ _ _; ready = c.requires; lent = settles_none _ _ }

pub loop-alloc-smaller : goal.loop-alloc-smaller
loop-alloc-smaller g c =
    let told = ok_of c.answer_group-told.result _ (sym c.is_err.ensures.value ∙ c.if-is_err.false) c.answer_group-told.ensures.ok in
    let there = c.has_message.ensures.some c.loop-alloc-test.true in
    one_less c.loop-alloc.frames c.answer_group-told.new.frames _ _ _ _ _ there.0 there.1
    (one_told c.loop-alloc.frames c.answer_group-told.new.frames (seen_on g.D.Drive c.loop-alloc.engine c.loop-alloc.drive) _ (seen_on g.D.Drive c.answer_group-told.new.engine c.answer_group-told.new.drive) _ _ _ c.clear.ensures.items told)

pub loop-alloc-preserved : goal.loop-alloc-preserved
loop-alloc-preserved g c =
    let told = ok_of c.answer_group-told.result _ (sym c.is_err.ensures.value ∙ c.if-is_err.false) c.answer_group-told.ensures.ok in
    let one = one_told c.loop-alloc.frames c.answer_group-told.new.frames (seen_on g.D.Drive c.loop-alloc.engine c.loop-alloc.drive) _ (seen_on g.D.Drive c.answer_group-told.new.engine c.answer_group-told.new.drive) _ _ _ c.clear.ensures.items told in
    record {
      grouping = grouping_more _ c.loop-alloc.frames c.answer_group-told.new.frames _ _ _ _ _ _ _ (g.W.Write.contents c.loop-alloc.writer) _ c.answer_group-told.new.answers.items c.loop-alloc.invariant.grouping one
          (subst (λ (l : List ℕ). Appends (g.W.Write.contents c.loop-alloc.writer) (g.W.Write.contents c.put_all.new.writer) l) c.deref.ensures.value c.in_ok-put_all.ensures.ok);
      ready = c.answer_group-told.ensures.ready;
      lent = settles_then c.loop-alloc.invariant.lent c.answer_group-told.ensures.lent;
    }

pub returns-in_err-put_all-clause-err : goal.returns-in_err-put_all-clause-err
returns-in_err-put_all-clause-err g c =
    let cut = cut_by c.answer_group-told.result _ c.loop-alloc.frames c.answer_group-told.new.frames _ _ _ _ _ _ _ (g.W.Write.contents c.loop-alloc.writer) _ _ c.answer_group-told.new.answers.items
    c.clear.ensures.items c.loop-alloc.invariant.grouping c.answer_group-told.ensures.ok c.answer_group-told.ensures.err
    (subst (λ (l : List ℕ). PutsPrefix (g.W.Write.contents c.loop-alloc.writer) (g.W.Write.contents c.put_all.new.writer) l) c.deref.ensures.value c.in_err-put_all.ensures.err) in
    if_err c.from_residual.result _ _ _ c.from_residual.ensures.1 refl
    (subst (λ (fault : ServeFault). GroupingSome fault c.args.frames.now c.answer_group-told.new.frames (seen_on g.D.Drive c.args.engine.now c.args.drive.now) (g.D.Drive.gathering c.args.drive.now) (seen_on g.D.Drive c.answer_group-told.new.engine c.answer_group-told.new.drive) (g.D.Drive.gathering c.answer_group-told.new.drive) (g.W.Write.contents c.args.writer.now) (g.W.Write.contents c.put_all.new.writer)) (sym c.in_err-put_all.ensures.fault) cut)

pub returns-then-is_err-clause-err : goal.returns-then-is_err-clause-err
returns-then-is_err-clause-err g c =
    let untold = err_of c.answer_group-told.result _ (sym c.is_err.ensures.value ∙ c.if-is_err.true) c.answer_group-told.ensures.err in
    let one = one_untold c.loop-alloc.frames c.answer_group-told.new.frames (seen_on g.D.Drive c.loop-alloc.engine c.loop-alloc.drive) _ (seen_on g.D.Drive c.answer_group-told.new.engine c.answer_group-told.new.drive) _ _ _ c.clear.ensures.items untold in
    grouping_some _ c.loop-alloc.frames c.answer_group-told.new.frames _ _ _ _ _ _ _ (g.W.Write.contents c.loop-alloc.writer) _ c.answer_group-told.new.answers.items c.loop-alloc.invariant.grouping one
    (subst (λ (l : List ℕ). Appends (g.W.Write.contents c.loop-alloc.writer) (g.W.Write.contents c.put_all.new.writer) l) c.deref.ensures.value c.in_ok-put_all.ensures.ok)

pub returns-then-is_err-2-clause-err : goal.returns-then-is_err-2-clause-err
returns-then-is_err-2-clause-err g c =
    grouping_kept _ c.loop-alloc.frames _ _ _ _ _ _ (g.W.Write.contents c.loop-alloc.writer) _ refl (c.has_message.ensures.none c.loop-alloc-test.false)
    c.loop-alloc.invariant.grouping c.flush.ensures.bytes
