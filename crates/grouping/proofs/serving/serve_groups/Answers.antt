use Rattle.std.proofs.Common.{rules, List, [], Option, ℕ, refl, sym, subst, inl, arith, ◌∙◌}
use Rattle.grouping.proofs.Settled.{settles_none, settles_then}
use Rattle.std.proofs.lemmas.List.{nil_from_length}
use Rattle.request.specs.Frames.{IsIdle}
use Rattle.engine.proofs.Counting.{counted_on, uncounted_on}
use Rattle.engine.proofs.Messages.{goes_on, if_err, over, takes_piece, piece_some}
use Rattle.grouping.proofs.Piecewise.{serving_none, serving_more, serving_some, serving_left, serving_stops, serving_ends, serving_over, left_unread}
use Rattle.grouping.proofs.serving.serve_groups.Goals as goal

pub loop-init : goal.loop-init
loop-init g c = record {
  serving = serving_none _ _ _ _ _ c.new-frames.ensures;
  idle = subst (λ (r : Option (List ℕ)). IsIdle r) (sym c.new-frames.ensures) (inl (omega arith));
  goes = ([], c.new-frames.ensures);
  some = c.first_room-room.ensures.some;
  fits = c.first_room-room.ensures.fits;
  unfailed = refl;
  ready = c.requires.ready;
  lent = settles_none _ _;
}

pub returns-in_err-count-clause-left : goal.returns-in_err-count-clause-left
returns-in_err-count-clause-left g c =
    if_err c.from_residual.result _ _ _ c.from_residual.ensures.1 refl
    (serving_left _ c.loop.frames _ _ _ _ _ (g.R.Read.remaining c.loop.reader.stream) _ _ _ c.loop.invariant.serving c.loop.invariant.idle c.in_err-count.ensures.err)

pub returns-then-count-eq0-clause-ok : goal.returns-then-count-eq0-clause-ok
returns-then-count-eq0-clause-ok g c =
    let read = c.in_ok-count.ensures.ok in
    serving_ends c.loop.frames _ _ _ _ _ (g.R.Read.remaining c.loop.reader.stream) _ _ _ read.piece c.loop.invariant.serving c.loop.invariant.idle
    (takes_piece _ _ _ _ _ read) (nil_from_length read.piece (read.long ∙ c.if-count-eq0.true))

pub returns-in_err-answer_groups-clause-left : goal.returns-in_err-answer_groups-clause-left
returns-in_err-answer_groups-clause-left g c =
    let read = c.in_ok-count.ensures.ok in
    if_err c.from_residual-in_err-answer_groups.result _ _ _ c.from_residual-in_err-answer_groups.ensures.1 refl
    (serving_some _ c.loop.frames c.read_on.new.frames c.answer_groups.new.frames _ _ _ _ _ _ _ (g.R.Read.remaining c.loop.reader.stream) _ _ (g.W.Write.contents c.loop.writer) _ read.piece
    c.loop.invariant.serving (takes_piece _ _ _ _ _ read) (piece_some _ _ _ _ _ read c.if-count-eq0.false) read.taken c.in_err-answer_groups.ensures.err)

pub returns-then-is_over-clause-ok : goal.returns-then-is_over-clause-ok
returns-then-is_over-clause-ok g c =
    let read = c.in_ok-count.ensures.ok in
    serving_over c.loop.frames c.read_on.new.frames c.answer_groups.new.frames _ _ _ _ _ _ _ (g.R.Read.remaining c.loop.reader.stream) _ _ (g.W.Write.contents c.loop.writer) _ read.piece
    c.loop.invariant.serving c.loop.invariant.idle c.loop.invariant.goes (takes_piece _ _ _ _ _ read) (omega (arith, read.long, c.in_ok-count.ensures.bound, c.loop.invariant.fits))
    read.taken (search rules) (search rules) (over _ (search rules))

pub loop-preserved : goal.loop-preserved
loop-preserved g c =
    let read = c.in_ok-count.ensures.ok in
    record {
      serving = serving_more c.loop.frames c.read_on.new.frames c.answer_groups.new.frames _ _ _ _ _ _ _ (g.R.Read.remaining c.loop.reader.stream) _ _ (g.W.Write.contents c.loop.writer) _ read.piece
          c.loop.invariant.serving (takes_piece _ _ _ _ _ read) read.taken (search rules);
      idle = search rules;
      goes = goes_on _ (search rules);
      some = c.next_room-room.ensures.some;
      fits = c.next_room-room.ensures.fits;
      unfailed = c.in_ok-count.ensures.failures ∙ c.loop.invariant.unfailed;
      ready = c.answer_groups.ensures.ready;
      lent = settles_then c.loop.invariant.lent c.answer_groups.ensures.lent;
    }

pub returns-clause-left : goal.returns-clause-left
returns-clause-left g c = serving_stops c.loop.frames _ _ _ _ _ _ _ _ c.loop.invariant.serving c.loop.invariant.idle

pub returns-in_err-answer_groups-clause-lent : goal.returns-in_err-answer_groups-clause-lent
returns-in_err-answer_groups-clause-lent g c = settles_then c.loop.invariant.lent c.answer_groups.ensures.lent

pub returns-then-is_over-clause-lent : goal.returns-then-is_over-clause-lent
returns-then-is_over-clause-lent g c = settles_then c.loop.invariant.lent c.answer_groups.ensures.lent

pub returns-in_err-count-clause-failures : goal.returns-in_err-count-clause-failures
returns-in_err-count-clause-failures g c =
    counted_on c.from_residual.result _ _ _ _ c.from_residual.ensures.1 c.loop.invariant.unfailed c.in_err-count.ensures.failures

pub returns-in_err-answer_groups-clause-failures : goal.returns-in_err-answer_groups-clause-failures
returns-in_err-answer_groups-clause-failures g c =
    let some = c.in_err-answer_groups.ensures.err in
    uncounted_on c.from_residual-in_err-answer_groups.result _ _ _ c.from_residual-in_err-answer_groups.ensures.1
    (left_unread _ some.groups _ _ _ some.left) (c.in_ok-count.ensures.failures ∙ c.loop.invariant.unfailed)
