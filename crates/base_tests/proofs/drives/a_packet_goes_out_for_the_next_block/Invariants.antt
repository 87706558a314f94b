use Rattle.std.proofs.Common.{◌≡◌, ◌≤◌}
use Rattle.drive.specs.Journal.{next_of}
use Rattle.drive.specs.Waiting.{next_address}
use Rattle.drive.specs.MemDrive.{journal_of, capacity_of}
use Rattle.base_tests.proofs.drives.a_packet_goes_out_for_the_next_block.Given as goal

abbrev pub invariant-loop-i : goal.invariant-loop-i
invariant-loop-i g l = record {
  begins : l.writer.at ≤ next_of (journal_of l.drive);
  ends : next_address l.writer ≡ l.i;
  capacity : capacity_of l.drive ≡ 100;
}
