use Rattle.std.proofs.Common.{◌≡◌, ◌*◌, IsTrue, vec_len}
use Rattle.std.specs.Prelude.{min}
use Rattle.limits.specs.declared.TheConstants.{BLOCK_BYTES}
use Rattle.drive.specs.Journal.{held}
use Rattle.drive.specs.Reads.{ReadsOnly}
use Rattle.recover.proofs.Blocks.{Gathered}
use Rattle.recover.proofs.reading.read_bytes.Given as goal

abbrev pub invariant-loop-i : goal.invariant-loop-i
invariant-loop-i g l = record {
  size : vec_len l.bytes ≡ min l.size (l.i * BLOCK_BYTES);
  read : IsTrue (g.D.Drive.honest l.drive) → Gathered (held (g.D.Drive.journal l.fn.drive)) l.at l.i l.size l.bytes.items;
  reads : ReadsOnly g.D.Drive 0 l.fn.drive l.drive;
}
