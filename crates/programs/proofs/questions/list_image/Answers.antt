use Rattle.std.proofs.Common.{inl, Err, ap}
use Rattle.request.specs.declared.path.PathFault.{PathFault}
use Rattle.programs.specs.Questions.Question.{Names_at}
use Rattle.programs.proofs.Opening.{unopened}
use Rattle.programs.proofs.Printing.{path_unread, shows_image, shows_path}
use Rattle.programs.proofs.questions.list_image.Goals as goal

pub returns-in_err-path-clause-prints : goal.returns-in_err-path-clause-prints
returns-in_err-path-clause-prints g c =
    path_unread Names_at c.args.image.now c.args.path.now _ c.from_residual.result _ _ c.from_residual.ensures.1 (λ e. c.in_err-path.ensures.only (ap (λ (f : PathFault). Err f) e))

pub returns-in_err-drive-clause-prints : goal.returns-in_err-drive-clause-prints
returns-in_err-drive-clause-prints g c =
    shows_path Names_at c.args.image.now c.args.path.now c.in_ok-path.path c.from_residual-in_err-drive.result _ _ _ _ c.in_ok-path.ensures.found
    (inl (unopened c.from_residual-in_err-drive.result _ _ _ _ c.from_residual-in_err-drive.ensures.1 c.in_err-drive.ensures.device c.in_err-drive.ensures.untouched c.in_err-drive.ensures.failed))

pub returns-clause-prints : goal.returns-clause-prints
returns-clause-prints g c =
    shows_path Names_at c.args.image.now c.args.path.now c.in_ok-path.path c.list-shown.result _ _ _ _ c.in_ok-path.ensures.found
    (shows_image g.M.Drive.Drive (Names_at c.in_ok-path.path) c.args.image.now c.list-shown.result _ _ _ _ _ _ _ c.in_ok-drive.ensures.opened c.put_back.ensures c.list-shown.ensures.journal c.list-shown.ensures.writes c.list-shown.ensures.failures c.list-shown.ensures.prints)
