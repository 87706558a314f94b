use Rattle.programs.proofs.Failing.{counts_then}
use Rattle.programs.proofs.Making.{makes_on, unbegun_on}
use Rattle.programs.proofs.volumes.make_or_finish.Goals as goal

pub returns-in_err-require_beginning_of-clause-makes : goal.returns-in_err-require_beginning_of-clause-makes
returns-in_err-require_beginning_of-clause-makes g c =
    unbegun_on g.M.Drive.Drive c.args.label.now c.args.moment c.from_residual.result _ _ _ _ _ _ _ c.from_residual.ensures.1 c.in_err-require_beginning_of.ensures.refused c.require_beginning_of.ensures.journal c.require_beginning_of.ensures.writes c.in_err-require_beginning_of.ensures.failures

pub returns-clause-makes : goal.returns-clause-makes
returns-clause-makes g c =
    makes_on g.M.Drive.Drive c.args.label.now c.args.moment _ c.make.result _ _ _ _ _ _ _ _ _ c.require_beginning_of.ensures.capacity c.require_beginning_of.ensures.journal c.require_beginning_of.ensures.writes c.in_ok-require_beginning_of.ensures.begun c.make.ensures.words (counts_then _ _ _ _ c.require_beginning_of.ensures.counted c.make.ensures.failures) c.make.ensures.makes c.make.ensures.withstands
