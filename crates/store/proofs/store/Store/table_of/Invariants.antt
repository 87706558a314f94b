use Rattle.std.proofs.Common.{◌≡◌, ◌+◌, ◌<◌, ◌≤◌, ◌^◌, ◌↔◌, ℕ, IsTrue, IsNone, IfSome}
use Rattle.limits.specs.declared.TheConstants.{PARTITION_START}
use Rattle.drive.specs.Journal.{held, next_of}
use Rattle.drive.specs.Reads.{ReadsOnly}
use Rattle.vat.specs.Table.{Table, view}
use Rattle.recover.specs.Tables.{HasTableAt}
use Rattle.store.specs.History.{ChainLeads}
use Rattle.store.proofs.store.Store.table_of.Given as goal

abbrev pub invariant-loop-vat : goal.invariant-loop-vat
invariant-loop-vat g l = record {
  leads : IsTrue (g.D.Drive.honest l.drive) → (steps : ℕ) × ChainLeads (held (g.D.Drive.journal l.fn.drive)) l.fn.self.vat_icb_address steps l.at;
  table : IsTrue (g.D.Drive.honest l.drive) → HasTableAt (held (g.D.Drive.journal l.fn.drive)) l.at (view l.vat);
  more : IsTrue (g.D.Drive.honest l.drive) → (first : Table) → HasTableAt (held (g.D.Drive.journal l.fn.drive)) l.fn.self.vat_icb_address first → l.fn.commit ≤ first.commits → l.fn.commit ≤ l.vat.sessions.commits;
  first : IsNone l.vat.previous ↔ (l.vat.sessions.commits ≡ 0);
  low : PARTITION_START ≤ l.at;
  high : l.at < next_of (g.D.Drive.journal l.fn.drive);
  fits : l.at < 2 ^ 32;
  link : IfSome l.vat.previous (λ number. number + PARTITION_START < l.at);
  reads : ReadsOnly g.D.Drive 0 l.fn.drive l.drive;
}

abbrev pub decreases-loop-vat : goal.decreases-loop-vat
decreases-loop-vat g l = l.vat.sessions.commits
