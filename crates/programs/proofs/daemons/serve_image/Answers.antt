use Rattle.std.proofs.Common.{◌-◌, ◌^◌}
use Rattle.std.specs.Prelude.{unwrap_or}
use Rattle.programs.specs.Listening.{ServesEach, heard_on}
use Rattle.programs.proofs.Telling.{serves_unheard, serves_unopened}
use Rattle.programs.proofs.daemons.serve_image.Goals as goal

pub returns-in_err-drive-clause-serves : goal.returns-in_err-drive-clause-serves
returns-in_err-drive-clause-serves g c = serves_unopened _ _ c.from_residual.result _ _ _ c.from_residual.ensures.1 c.in_err-drive.ensures.device c.in_err-drive.ensures.untouched c.in_err-drive.ensures.failed

pub returns-clause-serves : goal.returns-clause-serves
returns-clause-serves g c =
    serves_unheard g.M.Drive.Drive _ (ServesEach (unwrap_or c.args.asked.now.connections (2 ^ 64 - 1)) (heard_on g.L.Listener c.args.listener.now) (heard_on g.L.Listener c.serve_all-served.new.listener))
    c.serve_all-served.result _ _ _ _ _ c.in_ok-drive.ensures.opened c.put_back.ensures c.serve_all-served.ensures.refused c.serve_all-served.ensures.unchanged c.serve_all-served.ensures.run
