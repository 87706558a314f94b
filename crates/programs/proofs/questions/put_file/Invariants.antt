use Rattle.std.proofs.Common.{◌≡◌, ◌-◌, ℕ, false, IsTrue}
use Rattle.drive.specs.Reads.{ReadsOnly}
use Rattle.model.specs.Session.{State}
use Rattle.store.specs.Agrees.{IsStoreOn}
use Rattle.store.specs.Calls.{IsOpenOn}
use Rattle.programs.proofs.FilePieces.{Printed}
use Rattle.programs.proofs.questions.put_file.Given as goal

-- the bytes before the offset were printed, and the store stays open on what it knows
abbrev pub invariant-loop-offset : goal.invariant-loop-offset
invariant-loop-offset g l = record {
  agrees : IsStoreOn (g.D.Drive.journal l.drive) (g.D.Drive.capacity l.drive) l.store;
  going : l.store.is_stopped ≡ false;
  reads : ReadsOnly g.D.Drive 0 l.fn.drive l.drive;
  knows : (volume : ℕ) (S : State) → IsTrue (g.D.Drive.honest l.drive) → IsOpenOn (g.D.Drive.capacity l.fn.drive) volume (g.D.Drive.journal l.fn.drive) S l.fn.store → IsOpenOn (g.D.Drive.capacity l.drive) volume (g.D.Drive.journal l.drive) S l.store;
  printed : Printed (λ volume S. IsOpenOn (g.D.Drive.capacity l.fn.drive) volume (g.D.Drive.journal l.fn.drive) S l.fn.store) (g.D.Drive.honest l.drive) l.path l.offset (g.O.Write.contents l.fn.output) (g.O.Write.contents l.output);
}

abbrev pub decreases-loop-offset : goal.decreases-loop-offset
decreases-loop-offset g l = 9223372036854775808 - l.offset
