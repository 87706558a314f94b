use Rattle.std.proofs.Common.{◌≡◌, ◌+◌, ◌<◌, ◌≤◌, ◌^◌, ◌↔◌, List, All, IsTrue, IsNone, IfSome}
use Rattle.limits.specs.declared.TheConstants.{PARTITION_START}
use Rattle.drive.specs.Journal.{held, next_of}
use Rattle.drive.specs.Reads.{ReadsOnly}
use Rattle.vat.specs.Table.{view}
use Rattle.store.specs.declared.history.Commit.{Commit}
use Rattle.store.specs.History.{IsHistory}
use Rattle.store.proofs.Histories.{GoesOn}
use Rattle.store.proofs.Wholes.{Goes}
use Rattle.store.proofs.store.Store.history.Given as goal

abbrev pub invariant-loop-vat : goal.invariant-loop-vat
invariant-loop-vat g l = record {
  found : IsTrue (g.D.Drive.honest l.drive) → GoesOn (held (g.D.Drive.journal l.fn.drive)) l.fn.self.vat_icb_address (view l.vat) l.commits.items;
  goes : IsTrue (g.D.Drive.honest l.drive) → (all : List Commit) → IsHistory (held (g.D.Drive.journal l.fn.drive)) l.fn.self.vat_icb_address all → Goes (held (g.D.Drive.journal l.fn.drive)) (view l.vat);
  within : All (λ (c : Commit). (PARTITION_START ≤ c.vat_icb_address) × (c.vat_icb_address < next_of (g.D.Drive.journal l.fn.drive))) l.commits.items;
  fits : l.fn.self.vat_icb_address < 2 ^ 32;
  link : IfSome l.vat.previous (λ number. number + PARTITION_START < l.fn.self.vat_icb_address);
  first : IsNone l.vat.previous ↔ (l.vat.sessions.commits ≡ 0);
  reads : ReadsOnly g.D.Drive 0 l.fn.drive l.drive;
}

abbrev pub decreases-loop-vat : goal.decreases-loop-vat
decreases-loop-vat g l = l.vat.sessions.commits
