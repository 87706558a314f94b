use Rattle.std.proofs.Common.{rules, ◌∙◌}
use Rattle.engine.proofs.Pieces.{written_more}
use Rattle.programs.proofs.errors.ErrorStream.put.Goals as goal

pub loop-rest-preserved : goal.loop-rest-preserved
loop-rest-preserved g c =
    let before = g.W.Write.contents c.args.self.now.stream in
    let between = g.W.Write.contents c.loop-rest.self.stream in
    let after = g.W.Write.contents c.write.new.self.stream in (
      written_more before between after c.args.bytes.now c.loop-rest.rest.now _ c.in_ok-count.count
          c.loop-rest.invariant.0 c.in_ok-count.ensures.bound (search rules) c.in_ok-count.ensures.ok,
      ◌∙◌ {b = c.loop-rest.self.failures} c.in_ok-count.ensures.failures c.loop-rest.invariant.1,
    )
