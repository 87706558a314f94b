use Rattle.std.proofs.Common.{rules, ap}
use Rattle.engine.proofs.Pieces.{written_more, written_still}
use Rattle.engine.proofs.streams.put_all.Goals as goal
use Rattle.engine.proofs.streams.put_all.Goals.{in-Ok, in-Err}

pub loop-preserved : goal.loop-preserved
loop-preserved g c =
    let before = g.W.Write.contents c.args.writer.now in
    let between = g.W.Write.contents c.loop.writer in
    let after = g.W.Write.contents c.write.new.self in
    elim c.match-write.branch [
      | in-Ok w ↦
          written_more before between after c.args.bytes.now c.loop.rest.now c.match-write.rest.now w.in-Ok.count
          c.loop.invariant (search rules) (search rules) w.in-Ok.ensures.bytes
      | in-Err w ↦
          written_still before between after c.args.bytes.now c.loop.rest.now c.match-write.rest.now
          c.loop.invariant (ap (λ r. r.now) w.rest-is) w.in-Err.ensures.bytes
    ]
