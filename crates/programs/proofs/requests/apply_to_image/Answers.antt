use Rattle.std.proofs.Common.{inl, refl}
use Rattle.programs.proofs.Applying.{applied_to_image}
use Rattle.programs.proofs.Opening.{unopened}
use Rattle.programs.proofs.FailedReads.{counts_store}
use Rattle.programs.proofs.requests.apply_to_image.Goals as goal

pub returns-in_err-drive-clause-applies : goal.returns-in_err-drive-clause-applies
returns-in_err-drive-clause-applies g c = inl (unopened c.from_residual.result _ _ _ _ c.from_residual.ensures.1 c.in_err-drive.ensures.device c.in_err-drive.ensures.untouched c.in_err-drive.ensures.failed, refl)

pub returns-clause-applies : goal.returns-clause-applies
returns-clause-applies g c = applied_to_image g.M.Drive.Drive c.args.image.now c.apply_in_groups-applied.result _ _ _ _ _ _ _ _ _ c.in_ok-drive.ensures.opened c.put_back.ensures c.apply_in_groups-applied.ensures.applies

pub returns-in_err-drive-clause-failures : goal.returns-in_err-drive-clause-failures
returns-in_err-drive-clause-failures g c = counts_store c.from_residual.result _ _ _ c.from_residual.ensures.1 c.in_err-drive.ensures.device
