use Rattle.std.proofs.Common.{inl, Err, ap}
use Rattle.request.specs.declared.path.PathFault.{PathFault}
use Rattle.programs.specs.Questions.Question.{Bytes_at}
use Rattle.programs.proofs.Opening.{unopened}
use Rattle.programs.proofs.Printing.{path_unread, shows_image, shows_path}
use Rattle.programs.proofs.questions.get_image.Goals as goal

pub returns-in_err-path-clause-prints : goal.returns-in_err-path-clause-prints
returns-in_err-path-clause-prints g c =
    path_unread Bytes_at c.args.image.now c.args.path.now _ c.from_residual.result _ _ c.from_residual.ensures.1 (λ e. c.in_err-path.ensures.only (ap (λ (f : PathFault). Err f) e))

pub returns-in_err-drive-clause-prints : goal.returns-in_err-drive-clause-prints
returns-in_err-drive-clause-prints g c =
    shows_path Bytes_at c.args.image.now c.args.path.now c.in_ok-path.path c.from_residual-in_err-drive.result _ _ _ _ c.in_ok-path.ensures.found
    (inl (unopened c.from_residual-in_err-drive.result _ _ _ _ c.from_residual-in_err-drive.ensures.1 c.in_err-drive.ensures.device c.in_err-drive.ensures.untouched c.in_err-drive.ensures.failed))

pub returns-clause-prints : goal.returns-clause-prints
returns-clause-prints g c =
    shows_path Bytes_at c.args.image.now c.args.path.now c.in_ok-path.path c.get-shown.result _ _ _ _ c.in_ok-path.ensures.found
    (shows_image g.M.Drive.Drive (Bytes_at c.in_ok-path.path) c.args.image.now c.get-shown.result _ _ _ _ _ _ _ c.in_ok-drive.ensures.opened c.put_back.ensures c.get-shown.ensures.journal c.get-shown.ensures.writes c.get-shown.ensures.failures c.get-shown.ensures.prints)
