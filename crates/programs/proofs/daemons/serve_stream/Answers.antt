use Rattle.std.proofs.Common.{refl, rules}
use Rattle.engine.specs.declared.serving.ServeFault.TheVariants as streams
use Rattle.programs.proofs.Gathering.{err_of, served_all, served_part, served_cut, served_tried}
use Rattle.programs.proofs.Going.{goes_none, goes_served}
use Rattle.programs.proofs.daemons.serve_stream.Goals as goal

pub returns-in-Err-clause-goes : goal.returns-in-Err-clause-goes
returns-in-Err-clause-goes g c = goes_none _ _

pub returns-in-Ok-put_all-clause-goes : goal.returns-in-Ok-put_all-clause-goes
returns-in-Ok-put_all-clause-goes g c = goes_served _ c.serve_groups-served.result _ _ _ _ _ _ _ _ c.serve_groups-served.ensures.ok c.serve_groups-served.ensures.left

pub returns-in-Ok-put_all-clause-all : goal.returns-in-Ok-put_all-clause-all
returns-in-Ok-put_all-clause-all g c =
    served_all _ _ _ _ _ _ g.O.Write.contents c.args.output _ _ c.into_parts-output.result.0 _ _ c.into_parts-output.result.1.items c.deref.result.now
    c.in-Ok.ensures.inner c.in-Ok.ensures.empty c.into_parts-output.ensures.inner c.into_parts-output.ensures.buffer c.deref.ensures.value
    _ c.in-Ok-put_all.ensures.ok c.in-Ok-served.ensures.ok

pub returns-in-Ok-served-clause-goes : goal.returns-in-Ok-served-clause-goes
returns-in-Ok-served-clause-goes g c = goes_served _ c.serve_groups-served.result _ _ _ _ _ _ _ _ c.serve_groups-served.ensures.ok c.serve_groups-served.ensures.left

pub returns-in-Ok-served-clause-front : goal.returns-in-Ok-served-clause-front
returns-in-Ok-served-clause-front g c =
    served_part _ _ _ _ _ _ g.O.Write.contents c.args.output _ _ c.into_parts-output.result.0 _ _ c.into_parts-output.result.1.items c.deref.result.now
    c.in-Ok.ensures.inner c.in-Ok.ensures.empty c.into_parts-output.ensures.inner c.into_parts-output.ensures.buffer c.deref.ensures.value
    _ _ c.in-Err-put_all.ensures.fault c.in-Err-put_all.ensures.err c.in-Ok-served.ensures.ok

pub returns-in-Err-Write-clause-goes : goal.returns-in-Err-Write-clause-goes
returns-in-Err-Write-clause-goes g c = goes_served _ c.serve_groups-served.result _ _ _ _ _ _ _ _ c.serve_groups-served.ensures.ok c.serve_groups-served.ensures.left

pub returns-in-Err-Write-clause-front : goal.returns-in-Err-Write-clause-front
returns-in-Err-Write-clause-front g c =
    served_cut _ _ _ _ _ _ g.O.Write.contents c.args.output _ _ c.into_parts-output.result.0 _ _ c.into_parts-output.result.1.items c.into_parts-output.result.1.items
    c.in-Ok.ensures.inner c.in-Ok.ensures.empty c.into_parts-output.ensures.inner c.into_parts-output.ensures.buffer refl
    streams.Write (err_of c.serve_groups-served.result _ streams.Write _ c.in-Err-Write.is (search rules) c.serve_groups-served.ensures.left)

pub returns-clause-goes : goal.returns-clause-goes
returns-clause-goes g c = goes_served _ c.serve_groups-served.result _ _ _ _ _ _ _ _ c.serve_groups-served.ensures.ok c.serve_groups-served.ensures.left

pub returns-clause-front : goal.returns-clause-front
returns-clause-front g c =
    served_tried _ _ _ _ _ _ g.O.Write.contents c.args.output _ _ c.into_parts-output.result.0 _ _ c.into_parts-output.result.1.items c.deref-in-Err-served.result.now
    c.in-Ok.ensures.inner c.in-Ok.ensures.empty c.into_parts-output.ensures.inner c.into_parts-output.ensures.buffer c.deref-in-Err-served.ensures.value
    _ c.put_all-in-Err-served.result _ c.put_all-in-Err-served.ensures.ok c.put_all-in-Err-served.ensures.err c.in-Err-served.ensures.left
