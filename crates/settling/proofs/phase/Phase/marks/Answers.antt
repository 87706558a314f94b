use Rattle.std.proofs.Common.{◌++◌, ◌∷◌, [], get_or, ap, ◌∙◌, arith}
use Rattle.settling.specs.Phases.{marked}
use Rattle.settling.proofs.Giving.{marked_more}
use Rattle.settling.proofs.phase.Phase.marks.Goals as goal

pub loop-block-preserved : goal.loop-block-preserved
loop-block-preserved c =
    let i = c.loop-block.block-index in
    let block = get_or c.args.blocks.now i [] in
    record {
      given = marked_more c.args.marks.now c.args.from i c.args.blocks.now c.loop-block.given.items c.push_mark.new.given.items c.loop-block-test.true c.loop-block.invariant.given
          (c.in_ok-push_mark.ensures ∙ ap (λ n. c.loop-block.given.items ++ marked c.args.marks.now ((n, block) ∷ [])) c.loop-block.invariant.at);
      at = omega (arith, c.loop-block.invariant.at);
    }
