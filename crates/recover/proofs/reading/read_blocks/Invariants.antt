use Rattle.std.proofs.Common.{◌≡◌, IsTrue, vec_len}
use Rattle.std.specs.Prelude.{All}
use Rattle.udf.specs.Udf.{IsBlock}
use Rattle.drive.specs.Journal.{held}
use Rattle.recover.specs.Blocks.{blocks_at}
use Rattle.drive.specs.Reads.{ReadsOnly}
use Rattle.recover.proofs.reading.read_blocks.Given as goal

abbrev pub invariant-loop-i : goal.invariant-loop-i
invariant-loop-i g l = record {
  blocks : All IsBlock l.blocks.items;
  count : vec_len l.blocks ≡ l.i;
  read : IsTrue (g.D.Drive.honest l.drive) → l.blocks.items ≡ blocks_at (held (g.D.Drive.journal l.fn.drive)) l.at l.i;
  reads : ReadsOnly g.D.Drive 0 l.fn.drive l.drive;
}
