use Rattle.std.proofs.Common.{◌≡◌, ℕ, IsTrue, List, Some}
use Rattle.volume.specs.Reading.{DescriptorsTell}
use Rattle.drive.specs.Journal.{held, last_at}
use Rattle.drive.specs.Reads.{ReadsOnly}
use Rattle.recover.proofs.Fronts.{BeginsFront}
use Rattle.recover.proofs.state.read_front.Given as goal

abbrev pub invariant-loop-n : goal.invariant-loop-n
invariant-loop-n g l = record {
  seen : IsTrue (g.D.Drive.honest l.drive) → BeginsFront l.front.label l.front.moment l.front.capacity l.n (held (g.D.Drive.journal l.fn.drive));
  words : IsTrue (g.D.Drive.honest l.drive) → (primary : List ℕ) × (partition : List ℕ) × (last_at (g.D.Drive.journal l.fn.drive) 32 ≡ Some primary) × (last_at (g.D.Drive.journal l.fn.drive) 34 ≡ Some partition) × DescriptorsTell l.front primary partition;
  reads : ReadsOnly g.D.Drive 0 l.fn.drive l.drive;
}
