use Rattle.std.proofs.Common.{rules, ℕ, List, take, ap, ◌∙◌}
use Rattle.engine.proofs.Messages.{filled, took}
use Rattle.programs.proofs.Copying.{tallied_none, tallied_more, tallied_all, copied_read, copied_put, copied_kept, piece_short, until_put, until_read}
use Rattle.programs.proofs.sending.copy.Goals as goal

pub loop-init : goal.loop-init
loop-init g c = record { tallied = tallied_none c.new-frames.result _ _ c.new-frames.ensures; room = search rules }

pub returns-then-count-eq0-clause-ok : goal.returns-then-count-eq0-clause-ok
returns-then-count-eq0-clause-ok g c =
    tallied_all _ c.loop.frames _ (g.I.Read.remaining c.loop.reader) _ _ _ _ c.loop.invariant.tallied
    c.in_ok-count.ensures.ok (ap (λ (n : ℕ). take n c.read_piece.new.piece) c.if-count-eq0.true) c.count.ensures

pub returns-in_err-count-clause-err : goal.returns-in_err-count-clause-err
returns-in_err-count-clause-err g c =
    until_read c.from_residual.result _ _ _ _ _ c.from_residual.ensures.1 c.in_err-count.ensures.fault
    (copied_read (g.I.Read.remaining c.args.reader.now) (g.I.Read.remaining c.loop.reader) _ (g.O.Write.contents c.args.writer.now) (g.O.Write.contents c.loop.writer) c.loop.invariant.tallied.copied c.in_err-count.ensures.err)

pub returns-in_err-put_all-clause-err : goal.returns-in_err-put_all-clause-err
returns-in_err-put_all-clause-err g c =
    let piece = take c.in_ok-count.count c.read_piece.new.piece in
    let bytes = c.split_at.ensures.front ∙ ap (λ (x : List ℕ). take c.in_ok-count.count x)
    (c.deref.ensures.value ∙ filled c.loop.piece.len c.read_piece.new.piece _ (search rules)) in
    until_put c.from_residual-in_err-put_all.result _ _ _ _ _ c.from_residual-in_err-put_all.ensures.1 c.in_err-put_all.ensures.fault
    (copied_put (g.I.Read.remaining c.args.reader.now) (g.I.Read.remaining c.loop.reader) (g.I.Read.remaining c.read_piece.new.reader) (g.O.Write.contents c.args.writer.now) (g.O.Write.contents c.loop.writer) (g.O.Write.contents c.put_all.new.writer) piece _
    c.loop.invariant.tallied.copied c.in_ok-count.ensures.ok (took c.in_ok-count.count c.read_piece.new.piece c.in_ok-count.ensures.bound c.if-count-eq0.false)
    (piece_short c.in_ok-count.count c.read_piece.new.piece c.in_ok-count.ensures.bound (search rules)) bytes c.in_err-put_all.ensures.err)

pub returns-then-is_err-clause-err : goal.returns-then-is_err-clause-err
returns-then-is_err-clause-err g c =
    let piece = take c.in_ok-count.count c.read_piece.new.piece in
    let bytes = c.split_at.ensures.front ∙ ap (λ (x : List ℕ). take c.in_ok-count.count x)
    (c.deref.ensures.value ∙ filled c.loop.piece.len c.read_piece.new.piece _ (search rules)) in
    copied_kept (g.I.Read.remaining c.args.reader.now) (g.I.Read.remaining c.loop.reader) (g.I.Read.remaining c.read_piece.new.reader) (g.O.Write.contents c.args.writer.now) (g.O.Write.contents c.loop.writer) (g.O.Write.contents c.put_all.new.writer) (g.O.Write.contents c.flush.new.self) piece _
    c.loop.invariant.tallied.copied c.in_ok-count.ensures.ok (took c.in_ok-count.count c.read_piece.new.piece c.in_ok-count.ensures.bound c.if-count-eq0.false)
    (piece_short c.in_ok-count.count c.read_piece.new.piece c.in_ok-count.ensures.bound (search rules)) bytes c.in_ok-put_all.ensures.ok c.flush.ensures.bytes

pub returns-clause-err : goal.returns-clause-err
returns-clause-err g c = c.loop.invariant.tallied.copied

pub loop-preserved : goal.loop-preserved
loop-preserved g c =
    let piece = take c.in_ok-count.count c.read_piece.new.piece in
    let bytes = c.split_at.ensures.front ∙ ap (λ (x : List ℕ). take c.in_ok-count.count x)
    (c.deref.ensures.value ∙ filled c.loop.piece.len c.read_piece.new.piece _ (search rules)) in
    record {
      tallied = tallied_more c.loop.frames _ _ (g.I.Read.remaining c.loop.reader) _ _ (g.O.Write.contents c.loop.writer) (g.O.Write.contents c.put_all.new.writer) _ piece _
          c.loop.invariant.tallied c.in_ok-count.ensures.ok bytes
          c.in_ok-put_all.ensures.ok c.flush.ensures.bytes c.feed.ensures;
      room = search rules;
    }
