use Rattle.std.proofs.Common.{◌≡◌, ℕ, List, Err, sym, ap, subst, refl, ◌∙◌}
use Rattle.limits.specs.declared.TheConstants.{FILE_BYTES}
use Rattle.durability.specs.Runs.{told}
use Rattle.durability.specs.Runs.Answer.{Data}
use Rattle.durability.specs.Runs.Query.{Read}
use Rattle.store.proofs.Knowing.{shows, knows_again}
use Rattle.store.proofs.Queried.{reads}
use Rattle.store.specs.Calls.{IsOpenOn, ReadRefuses}
use Rattle.programs.specs.Questions.{Known}
use Rattle.programs.proofs.FilePieces.{is_last, stops_put, stops_refused}
use Rattle.programs.proofs.questions.put_piece.Goals as goal

pub returns-in_err-piece-clause-err : goal.returns-in_err-piece-clause-err
returns-in_err-piece-clause-err g c =
    let J = g.D.Drive.journal c.args.drive.now in let capacity = g.D.Drive.capacity c.args.drive.now in
    stops_refused _ (λ refusal. Known (λ volume S. IsOpenOn capacity volume J S c.args.store.now) (g.D.Drive.honest c.read.new.drive) (λ S. ReadRefuses (told S.tree (Read c.args.path.now c.args.offset FILE_BYTES)) refusal))
    c.from_residual.result _ (g.O.Write.contents c.args.output.now) c.from_residual.ensures.1
    (λ volume S honest knows. subst (λ (n : ℕ). ReadRefuses (told S.tree (Read c.args.path.now c.args.offset n)) c.in_err-piece.field-0.0) c.new.ensures
    (reads S c.args.path.now c.args.offset _ (Err c.in_err-piece.field-0.0) tt (c.in_err-piece.ensures.refused S.tree knows.once (shows capacity volume J S c.args.store.now knows (g.D.Drive.honest c.read.new.drive) honest) c.requires.going)))

pub returns-in_err-piece-clause-knows : goal.returns-in_err-piece-clause-knows
returns-in_err-piece-clause-knows g c volume S honest knows =
    let J = g.D.Drive.journal c.args.drive.now in
    knows_again (g.D.Drive.capacity c.args.drive.now) volume J S c.args.store.now knows J c.read.new.self refl c.in_err-piece.ensures.same.at c.in_err-piece.ensures.same.vat c.in_err-piece.ensures.same.capacity (c.in_err-piece.ensures.kept honest knows.kept)

pub returns-in_err-put_all-clause-err : goal.returns-in_err-put_all-clause-err
returns-in_err-put_all-clause-err g c =
    let J = g.D.Drive.journal c.args.drive.now in let capacity = g.D.Drive.capacity c.args.drive.now in
    stops_put (λ piece. Known (λ volume S. IsOpenOn capacity volume J S c.args.store.now) (g.D.Drive.honest c.read.new.drive) (λ S. told S.tree (Read c.args.path.now c.args.offset FILE_BYTES) ≡ Data piece)) _
    c.from_residual-in_err-put_all.result _ (g.O.Write.contents c.args.output.now) (g.O.Write.contents c.put_all.new.writer) c.as_slice-bytes.result.now c.from_residual-in_err-put_all.ensures.1 c.in_err-put_all.ensures.fault c.in_err-put_all.ensures.err
    (λ volume S honest knows. subst (λ (n : ℕ). told S.tree (Read c.args.path.now c.args.offset n) ≡ Data c.as_slice-bytes.result.now) c.new.ensures
    (c.in_ok-piece.ensures.reported S.tree knows.once (shows capacity volume J S c.args.store.now knows (g.D.Drive.honest c.read.new.drive) honest) ∙ ap (λ (xs : List ℕ). Data xs) (sym c.as_slice-bytes.ensures.bytes)))

pub returns-in_err-put_all-clause-knows : goal.returns-in_err-put_all-clause-knows
returns-in_err-put_all-clause-knows g c volume S honest knows =
    let J = g.D.Drive.journal c.args.drive.now in
    knows_again (g.D.Drive.capacity c.args.drive.now) volume J S c.args.store.now knows J c.read.new.self refl c.in_ok-piece.ensures.same.at c.in_ok-piece.ensures.same.vat c.in_ok-piece.ensures.same.capacity (c.in_ok-piece.ensures.kept honest knows.kept)

pub returns-clause-ok : goal.returns-clause-ok
returns-clause-ok g c =
    let J = g.D.Drive.journal c.args.drive.now in let capacity = g.D.Drive.capacity c.args.drive.now in (
      c.as_slice-bytes.result.now,
      c.in_ok-put_all.ensures.ok,
      λ volume S honest knows. subst (λ (n : ℕ). told S.tree (Read c.args.path.now c.args.offset n) ≡ Data c.as_slice-bytes.result.now) c.new.ensures
          (c.in_ok-piece.ensures.reported S.tree knows.once (shows capacity volume J S c.args.store.now knows (g.D.Drive.honest c.read.new.drive) honest) ∙ ap (λ (xs : List ℕ). Data xs) (sym c.as_slice-bytes.ensures.bytes)),
      is_last _ _,
    )

pub returns-clause-knows : goal.returns-clause-knows
returns-clause-knows g c volume S honest knows =
    let J = g.D.Drive.journal c.args.drive.now in
    knows_again (g.D.Drive.capacity c.args.drive.now) volume J S c.args.store.now knows J c.read.new.self refl c.in_ok-piece.ensures.same.at c.in_ok-piece.ensures.same.vat c.in_ok-piece.ensures.same.capacity (c.in_ok-piece.ensures.kept honest knows.kept)
