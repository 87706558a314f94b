use Rattle.std.proofs.Common.{◌∙◌, arith}
use Rattle.drive.proofs.Reading.{honest_stays, reads_then}
use Rattle.formatting.specs.NewVolume.{words_of}
use Rattle.formatting.proofs.FormatJournals.{seen_more, too_many, other_block, blocks_differ, blocks_same}
use Rattle.formatting.proofs.formatting.begun.Goals as goal

pub returns-then-next-gt-FORMAT_BLOCKS-clause-other : goal.returns-then-next-gt-FORMAT_BLOCKS-clause-other
returns-then-next-gt-FORMAT_BLOCKS-clause-other g c = λ none honest begun.
    too_many (words_of c.args.parts.now) (g.D.Drive.journal c.args.drive.now) (omega (arith, c.in-Ok.ensures.next, c.if-next-gt-FORMAT_BLOCKS.true)) begun

pub returns-then-ne-clause-other : goal.returns-then-ne-clause-other
returns-then-ne-clause-other g c = λ none honest begun.
    other_block (words_of c.args.parts.now) (g.D.Drive.journal c.args.drive.now) c.loop-n.n c.read.new.into c.format_block-expected.result
    (omega (arith, c.in-Ok.ensures.next, c.loop-n-test.true)) (omega (arith, c.if-next-gt-FORMAT_BLOCKS.false, c.loop-n-test.true))
    (rw c.loop-n.invariant.reads.journal at (c.in-Ok-read.ensures.read honest)) c.blocks_are_bytes.ensures c.format_block-expected.ensures
    (blocks_differ c.read.new.into c.format_block-expected.result c.ne.result c.ne.ensures c.if-ne.true) begun

pub loop-n-preserved : goal.loop-n-preserved
loop-n-preserved g c = record {
  seen = seen_more (words_of c.args.parts.now) (g.D.Drive.journal c.args.drive.now) (g.D.Drive.honest c.loop-n.drive) (g.D.Drive.honest c.read.new.self) c.loop-n.n c.read.new.into
      c.format_block-expected.result c.read.ensures.honest c.loop-n.invariant.seen c.blocks_are_bytes.ensures c.format_block-expected.ensures
      (blocks_same c.read.new.into c.format_block-expected.result c.ne.result c.ne.ensures c.if-ne.false) (λ honest. rw c.loop-n.invariant.reads.journal at (c.in-Ok-read.ensures.read honest));
  reads = reads_then c.loop-n.invariant.reads (record {
    journal = c.read.ensures.journal;
    writes = c.read.ensures.writes;
    capacity = c.read.ensures.capacity;
    failures = λ few. omega (arith, c.in-Ok-read.ensures.failures);
    misreads = c.read.ensures.misreads;
    honest = c.read.ensures.honest;
    stays = honest_stays g.D.Drive g.met.D.Drive.honest_is c.loop-n.drive c.read.new.self;
    gathering = c.read.ensures.gathering;
  });
  failures = c.in-Ok-read.ensures.failures ∙ c.loop-n.invariant.failures;
}
