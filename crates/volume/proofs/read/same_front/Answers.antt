use Rattle.std.proofs.Common.{sym, ◌∙◌, arith}
use Rattle.volume.proofs.Words.{same_word}
use Rattle.volume.proofs.read.same_front.Goals as goal

pub words-preserved : goal.words-preserved
words-preserved c = record {
  within = omega (arith, c.words-test.true, c.told-block);
  whole = omega (arith, c.words.invariant.whole);
  same = same_word c.words.at c.args.block.now c.args.expected.now (λ i. omega (arith, c.fits-block i)) (λ i. omega (arith, c.fits-expected i))
      (omega (arith, c.words-test.true, c.told-block)) (omega (arith, c.words-test.true, c.told-block, c.told-expected))
      (sym c.u64_at.ensures ∙ c.if-u64_at.false ∙ c.u64_at-in-words.ensures) c.words.invariant.same;
}
