use Rattle.std.proofs.Common.{◌++◌, ◌∷◌, [], get_or, ap, ◌∙◌, arith}
use Rattle.drive.specs.Journal.{Event}
use Rattle.settling.specs.Phases.{blank_at}
use Rattle.settling.proofs.Giving.{blanked_more}
use Rattle.settling.proofs.phase.Phase.blanks.Goals as goal

pub loop-block-preserved : goal.loop-block-preserved
loop-block-preserved c =
    let i = c.loop-block.block-index in
    let block = get_or c.args.blocks.now i [] in
    record {
      given = blanked_more c.args.marks.now c.args.from i c.args.blocks.now c.loop-block.given.items c.push.new.self.items c.loop-block-test.true c.loop-block.invariant.given
          (c.in_ok-push.ensures.items ∙ ap (λ (e : Event). c.loop-block.given.items ++ e ∷ []) (c.blank.ensures ∙ ap (λ n. blank_at c.args.marks.now (n, block)) c.loop-block.invariant.at));
      at = omega (arith, c.loop-block.invariant.at);
    }
