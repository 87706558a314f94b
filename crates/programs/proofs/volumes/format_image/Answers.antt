use Rattle.std.proofs.Common.{inl}
use Rattle.programs.proofs.Making.{makes_image}
use Rattle.programs.proofs.Opening.{unmade}
use Rattle.programs.proofs.volumes.format_image.Goals as goal

pub returns-in_err-drive-clause-makes : goal.returns-in_err-drive-clause-makes
returns-in_err-drive-clause-makes g c = inl (unmade c.args.image.now c.from_residual.result _ _ _ _ c.from_residual.ensures.1 c.in_err-drive.ensures.device c.in_err-drive.ensures.made c.in_err-drive.ensures.failed)

pub returns-clause-makes : goal.returns-clause-makes
returns-clause-makes g c =
    makes_image g.M.Drive.Drive c.args.image.now c.args.label.now c.args.moment c.args.capacity c.make_or_finish-made.result _ _ _ _ _ _ _ _ c.in_ok-drive.ensures.opened c.in_ok-drive.ensures.uncounted c.make_or_finish-made.ensures.looks c.put_back.ensures c.make_or_finish-made.ensures.makes
