use Rattle.std.proofs.Common.{ℕ, ◌<◌, ◌≤◌, List, length, sym, subst, arith}
use Rattle.limits.specs.declared.TheConstants.{FILE_BYTES}
use Rattle.drive.specs.Journal.{Event}
use Rattle.drive.proofs.Reading.{reads_none, reads_then}
use Rattle.store.specs.Calls.{IsOpenOn}
use Rattle.programs.proofs.FilePieces.{last_is, printed_more, printed_none, puts_endless, puts_last, puts_stopped}
use Rattle.programs.proofs.questions.put_file.Goals as goal

pub loop-offset-init : goal.loop-offset-init
loop-offset-init g c = record {
  agrees = c.requires.agrees;
  going = c.requires.going;
  reads = reads_none g.D.Drive c.args.drive.now;
  knows = λ volume S honest knows. knows;
  printed = printed_none _ _ c.args.path.now (g.O.Write.contents c.args.output.now);
}

pub returns-in_err-put_piece-clause-puts : goal.returns-in_err-put_piece-clause-puts
returns-in_err-put_piece-clause-puts g c =
    puts_stopped _ _ (g.D.Drive.honest c.loop-offset.drive) (g.D.Drive.honest c.put_piece.new.drive) c.args.path.now c.loop-offset.offset _ (g.O.Write.contents c.loop-offset.output) _ c.loop-offset.invariant.printed c.put_piece.ensures.reads.honest c.loop-offset.invariant.knows
    c.from_residual.result c.in_err-put_piece.field-0.0 c.from_residual.ensures.1 c.in_err-put_piece.ensures.err

pub returns-then-branch-clause-puts : goal.returns-then-branch-clause-puts
returns-then-branch-clause-puts g c =
    let (piece, put, is, last) = c.in_ok-put_piece.ensures.ok in
    puts_last _ _ (g.D.Drive.honest c.loop-offset.drive) (g.D.Drive.honest c.put_piece.new.drive) c.args.path.now c.loop-offset.offset _ (g.O.Write.contents c.loop-offset.output) _ c.loop-offset.invariant.printed c.put_piece.ensures.reads.honest c.loop-offset.invariant.knows
    piece is _ _ c.put.result _ (last_is c.in_ok-put_piece.field-0 (length piece < FILE_BYTES) (FILE_BYTES ≤ length piece) c.if-branch.true last) put c.put.ensures.puts

pub loop-offset-preserved : goal.loop-offset-preserved
loop-offset-preserved g c =
    let (piece, put, is, last) = c.in_ok-put_piece.ensures.ok in
    let reads = c.in_ok-put_piece.ensures.reads in
    record {
      agrees = c.put_piece.ensures.agrees;
      going = c.put_piece.ensures.going;
      reads = reads_then c.loop-offset.invariant.reads reads;
      knows = λ volume S honest knows. subst (λ (n : ℕ). IsOpenOn n volume (g.D.Drive.journal c.put_piece.new.drive) S c.put_piece.new.store) (sym reads.capacity)
          (subst (λ (J : List Event). IsOpenOn (g.D.Drive.capacity c.loop-offset.drive) volume J S c.put_piece.new.store) (sym reads.journal)
          (c.put_piece.ensures.knows volume S honest (c.loop-offset.invariant.knows volume S (reads.honest honest) knows)));
      printed = printed_more _ _ (g.D.Drive.honest c.loop-offset.drive) (g.D.Drive.honest c.put_piece.new.drive) c.args.path.now c.loop-offset.offset _ (g.O.Write.contents c.loop-offset.output) _ c.loop-offset.invariant.printed reads.honest c.loop-offset.invariant.knows piece is put;
    }

pub returns-clause-puts : goal.returns-clause-puts
returns-clause-puts g c = puts_endless (Unit {0}) _ _ c.args.path.now c.loop-offset.offset _ _ c.loop-offset.invariant.printed (omega (arith, c.loop-offset-test.false))
