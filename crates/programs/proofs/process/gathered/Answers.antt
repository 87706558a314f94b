use Rattle.std.proofs.Common.{rules, arith, codes, Err, refl, inl, inr}
use Rattle.recover.specs.declared.fault.StoreFault.TheVariants as stores
use Rattle.programs.specs.declared.fault.Fault.TheVariants.{Store, Stream}
use Rattle.programs.specs.Tasks.{task_of}
use Rattle.programs.proofs.Gathering.{all_unwritten, part_unwritten, gathered_done, gathered_failed, gathered_part, gathered_whole}
use Rattle.programs.proofs.Telling.{told_then}
use Rattle.programs.proofs.process.gathered.Goals as goal

pub returns-in-Ok-put_all-clause-all : goal.returns-in-Ok-put_all-clause-all
returns-in-Ok-put_all-clause-all g c asked asks done =
    gathered_done (task_of asked) c.command_on-status.result _ _ _ _ _ _ g.O.Write.contents c.args.output _ _ c.into_parts-output.result.0 _ _ c.into_parts-output.result.1.items c.deref.result.now
    c.in-Ok.ensures.inner c.in-Ok.ensures.empty c.into_parts-output.ensures.inner c.into_parts-output.ensures.buffer c.deref.ensures.value (c.command_on-status.ensures.does asked asks)
    _ c.in-Ok-put_all.ensures.ok done

pub returns-in-Ok-put_all-clause-front : goal.returns-in-Ok-put_all-clause-front
returns-in-Ok-put_all-clause-front g c asked asks =
    gathered_whole (task_of asked) c.command_on-status.result _ _ _ _ _ _ g.O.Write.contents c.args.output _ _ c.into_parts-output.result.0 _ _ c.into_parts-output.result.1.items c.deref.result.now
    c.in-Ok.ensures.inner c.in-Ok.ensures.empty c.into_parts-output.ensures.inner c.into_parts-output.ensures.buffer c.deref.ensures.value (c.command_on-status.ensures.does asked asks)
    _ c.in-Ok-put_all.ensures.ok

pub returns-in-Err-put_all-clause-front : goal.returns-in-Err-put_all-clause-front
returns-in-Err-put_all-clause-front g c asked asks =
    gathered_part (task_of asked) c.command_on-status.result _ _ _ _ _ _ g.O.Write.contents c.args.output _ _ c.into_parts-output.result.0 _ _ c.into_parts-output.result.1.items c.deref.result.now
    c.in-Ok.ensures.inner c.in-Ok.ensures.empty c.into_parts-output.ensures.inner c.into_parts-output.ensures.buffer c.deref.ensures.value (c.command_on-status.ensures.does asked asks)
    _ c.in-Err-put_all.ensures.err

pub returns-in-Ok-put_all-clause-unwritten : goal.returns-in-Ok-put_all-clause-unwritten
returns-in-Ok-put_all-clause-unwritten g c other =
    all_unwritten g.O.Write.contents c.args.output _ _ c.into_parts-output.result.0 _ _ c.into_parts-output.result.1.items c.deref.result.now
    c.in-Ok.ensures.inner c.in-Ok.ensures.empty c.into_parts-output.ensures.inner c.into_parts-output.ensures.buffer c.deref.ensures.value
    _ (c.command_on-status.ensures.unwritten other) c.in-Ok-put_all.ensures.ok

pub returns-in-Err-put_all-clause-unwritten : goal.returns-in-Err-put_all-clause-unwritten
returns-in-Err-put_all-clause-unwritten g c other =
    part_unwritten g.O.Write.contents c.args.output _ _ c.into_parts-output.result.0 _ _ c.into_parts-output.result.1.items c.deref.result.now
    c.in-Ok.ensures.inner c.in-Ok.ensures.empty c.into_parts-output.ensures.inner c.into_parts-output.ensures.buffer c.deref.ensures.value
    _ (c.command_on-status.ensures.unwritten other) c.in-Err-put_all.ensures.err

pub returns-clause-front : goal.returns-clause-front
returns-clause-front g c asked asks =
    gathered_failed (task_of asked) c.command_on-status.result _ _ _ _ _ _ g.O.Write.contents c.args.output _ _ c.into_parts-output.result.0 _ _ c.into_parts-output.result.1.items c.deref.result.now
    c.in-Ok.ensures.inner c.in-Ok.ensures.empty c.into_parts-output.ensures.inner c.into_parts-output.ensures.buffer c.deref.ensures.value (c.command_on-status.ensures.does asked asks)
    _ c.in-Err-put_all.field-0 c.report-in-Err-2.result _ c.in-Err-2.ensures.err (search rules) c.in-Err-put_all.ensures.fault c.report-in-Err-2.ensures.status c.report-in-Err-2.ensures.describes

pub returns-clause-reports : goal.returns-clause-reports
returns-clause-reports g c =
    told_then (codes "udfburn") c.command_on-status.result c.report-in-Err-2.result (Err (Stream c.in-Err-put_all.field-0)) _ _ _ c.command_on-status.ensures.reports (search rules) c.report-in-Err-2.ensures.status c.report-in-Err-2.ensures.describes

pub returns-in-Err-clause-early : goal.returns-in-Err-clause-early
returns-in-Err-clause-early g c = record { fault = Store stores.Memory; early = inr (inl refl); status_is = c.report.ensures.status; line = c.report.ensures.describes }

pub returns-in-Ok-put_all-clause-kept : goal.returns-in-Ok-put_all-clause-kept
returns-in-Ok-put_all-clause-kept g c done = c.command_on-status.ensures.asks (omega (arith, done))

pub returns-clause-asks : goal.returns-clause-asks
returns-clause-asks g c least = c.command_on-status.ensures.asks (omega arith)
