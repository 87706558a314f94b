use Rattle.std.proofs.Common.{◌≡◌}
use Rattle.drive.specs.Reads.{ReadsOnly}
use Rattle.formatting.specs.NewVolume.{words_of, IsFormatRead}
use Rattle.formatting.proofs.formatting.begun.Given as goal

-- the blocks so far are those of the format
abbrev pub invariant-loop-n : goal.invariant-loop-n
invariant-loop-n g l = record {
  seen : IsFormatRead (words_of l.parts) (g.D.Drive.journal l.fn.drive) (g.D.Drive.honest l.drive) l.n;
  reads : ReadsOnly g.D.Drive 0 l.fn.drive l.drive;
  failures : g.D.Drive.failures l.drive ≡ g.D.Drive.failures l.fn.drive;
}
