use Rattle.std.proofs.Common.{◌≡◌, ◌+◌, ◌<◌, ◌^◌, ◌↔◌, IsTrue, IsNone, IfSome}
use Rattle.limits.specs.declared.TheConstants.{PARTITION_START}
use Rattle.drive.specs.Journal.{held}
use Rattle.drive.specs.Reads.{ReadsOnly}
use Rattle.vat.specs.Table.{view}
use Rattle.recover.specs.ReadCache.{IsKnown}
use Rattle.recover.specs.State.{IsShown}
use Rattle.recover.specs.declared.state.State.{State}
use Rattle.store.proofs.Checks.{Seen}
use Rattle.store.proofs.history.check_states.Given as goal

abbrev pub invariant-loop-vat : goal.invariant-loop-vat
invariant-loop-vat g l = record {
  seen : IsTrue (g.D.Drive.honest l.drive) → Seen (held (g.D.Drive.journal l.fn.drive)) (g.D.Drive.capacity l.fn.drive) l.fn.at (view l.vat);
  newest : IsTrue (g.D.Drive.honest l.drive) → (state : State) × IsShown (g.D.Drive.capacity l.fn.drive) (held (g.D.Drive.journal l.fn.drive)) l.fn.at state × (l.commits ≡ state.vat.sessions.commits);
  known : IsTrue (g.D.Drive.honest l.drive) → IsKnown (held (g.D.Drive.journal l.drive)) l.known;
  fits : l.fn.at < 2 ^ 32;
  link : IfSome l.vat.previous (λ number. number + PARTITION_START < l.fn.at);
  first : IsNone l.vat.previous ↔ (l.vat.sessions.commits ≡ 0);
  reads : ReadsOnly g.D.Drive 0 l.fn.drive l.drive;
}

abbrev pub decreases-loop-vat : goal.decreases-loop-vat
decreases-loop-vat g l = l.vat.sessions.commits
