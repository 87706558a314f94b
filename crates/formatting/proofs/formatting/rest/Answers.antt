use Rattle.std.proofs.Common.{List, ◌+◌, sym, subst}
use Rattle.durability.specs.Formats.{Block}
use Rattle.formatting.specs.NewVolume.{words_of, AreBlocks}
use Rattle.formatting.proofs.FormatJournals.{blocks_more}
use Rattle.formatting.proofs.formatting.rest.Goals as goal

pub loop-n-preserved : goal.loop-n-preserved
loop-n-preserved c =
    subst (λ (bs : List Block). AreBlocks (words_of c.args.parts.now) c.args.next (c.loop-n.n + 1) bs) (sym c.in_ok-push.ensures.items)
    (blocks_more (words_of c.args.parts.now) c.args.next c.loop-n.n c.loop-n.blocks.items c.format_block-block.result c.loop-n.invariant c.blocks_are_bytes.ensures c.format_block-block.ensures)
