use Rattle.std.proofs.Common.{inl}
use Rattle.programs.specs.Questions.Question.{Soundness}
use Rattle.programs.proofs.Opening.{unopened}
use Rattle.programs.proofs.Printing.{shows_image}
use Rattle.programs.proofs.questions.check_image.Goals as goal

pub returns-in_err-drive-clause-prints : goal.returns-in_err-drive-clause-prints
returns-in_err-drive-clause-prints g c = inl (unopened c.from_residual.result _ _ _ _ c.from_residual.ensures.1 c.in_err-drive.ensures.device c.in_err-drive.ensures.untouched c.in_err-drive.ensures.failed)

pub returns-clause-prints : goal.returns-clause-prints
returns-clause-prints g c = shows_image g.M.Drive.Drive Soundness c.args.image.now c.check-shown.result _ _ _ _ _ _ _ c.in_ok-drive.ensures.opened c.put_back.ensures c.check-shown.ensures.journal c.check-shown.ensures.writes c.check-shown.ensures.failures c.check-shown.ensures.prints
