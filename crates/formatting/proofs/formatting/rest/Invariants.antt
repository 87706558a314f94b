use Rattle.formatting.specs.NewVolume.{words_of, AreBlocks}
use Rattle.formatting.proofs.formatting.rest.Given as goal

abbrev pub invariant-loop-n : goal.invariant-loop-n
invariant-loop-n l = AreBlocks (words_of l.parts) l.next l.n l.blocks.items
