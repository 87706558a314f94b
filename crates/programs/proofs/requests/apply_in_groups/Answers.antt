use Rattle.std.proofs.Common.{None}
use Rattle.engine.specs.Situation.{situation_on}
use Rattle.programs.proofs.Applying.{grouped_all, grouped_until}
use Rattle.programs.proofs.FailedReads.{counts_stream}
use Rattle.programs.proofs.requests.apply_in_groups.Goals as goal

pub returns-in_err-serve_groups-clause-applies : goal.returns-in_err-serve_groups-clause-applies
returns-in_err-serve_groups-clause-applies g c =
    let d = c.serve_groups.new.drive in
    grouped_until c.from_residual.result _ _ _ _ _ _ _ _ _ (situation_on g.D.Drive None d) _ _ _ _ _ c.from_residual.ensures.1 c.new-engine.ensures c.in_err-serve_groups.ensures.left

pub returns-clause-applies : goal.returns-clause-applies
returns-clause-applies g c =
    let d = c.serve_groups.new.drive in
    grouped_all _ _ _ _ _ _ _ _ (situation_on g.D.Drive None d) _ _ _ _ _ c.new-engine.ensures c.in_ok-serve_groups.ensures.ok

pub returns-in_err-serve_groups-clause-failures : goal.returns-in_err-serve_groups-clause-failures
returns-in_err-serve_groups-clause-failures g c = counts_stream c.from_residual.result _ _ _ c.from_residual.ensures.1 c.in_err-serve_groups.ensures.failures
