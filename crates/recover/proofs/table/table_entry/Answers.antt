use Rattle.std.proofs.Common.{sym, ◌∙◌}
use Rattle.std.proofs.lemmas.Bool.{false≢true}
use Rattle.drive.specs.Journal.{held}
use Rattle.recover.proofs.Held.{held_at}
use Rattle.recover.proofs.Tables.{far_entry, is_entry_at, no_entry, other_entry}
use Rattle.recover.proofs.table.table_entry.Goals as goal

pub returns-in-Err-clause-refused : goal.returns-in-Err-clause-refused
returns-in-Err-clause-refused g c = rw c.damaged.ensures (λ h.
    no_entry (held (g.D.Drive.journal c.args.drive.now)) c.args.at c.in_ok-block.block (held_at _ _ _ c.requires.within (c.in_ok-block.ensures.read h)) c.in-Err.ensures.only)

pub returns-in-Err-clause-reads : goal.returns-in-Err-clause-reads
returns-in-Err-clause-reads g c = rw c.damaged.ensures c.in_ok-block.ensures.reads

pub returns-in-None-clause-refused : goal.returns-in-None-clause-refused
returns-in-None-clause-refused g c = rw c.damaged-in-None.ensures (λ h.
    other_entry (held (g.D.Drive.journal c.args.drive.now)) c.args.at c.in_ok-block.block c.in-Ok.entry (held_at _ _ _ c.requires.within (c.in_ok-block.ensures.read h)) c.in-Ok.ensures.only c.in-None.ensures.none)

pub returns-in-None-clause-reads : goal.returns-in-None-clause-reads
returns-in-None-clause-reads g c = rw c.damaged-in-None.ensures c.in_ok-block.ensures.reads

pub returns-then-not-lies_below-clause-refused : goal.returns-then-not-lies_below-clause-refused
returns-then-not-lies_below-clause-refused g c = rw c.damaged-then-not-lies_below.ensures (λ h.
    far_entry (held (g.D.Drive.journal c.args.drive.now)) c.args.at (record { moment = c.in-Ok.entry.moment; first = c.in-Some.first; size = c.in-Ok.entry.size })
    (is_entry_at (held (g.D.Drive.journal c.args.drive.now)) c.args.at c.in_ok-block.block c.in-Ok.entry c.in-Some.first
    (held_at _ _ _ c.requires.within (c.in_ok-block.ensures.read h)) c.in-Ok.ensures.found c.in-Some.ensures.some.0 c.in-Some.ensures.some.1)
    (λ below. false≢true (sym c.if-not-lies_below.true ∙ c.lies_below.ensures.1 below)))

pub returns-then-not-lies_below-clause-reads : goal.returns-then-not-lies_below-clause-reads
returns-then-not-lies_below-clause-reads g c = rw c.damaged-then-not-lies_below.ensures c.in_ok-block.ensures.reads

pub returns-clause-found : goal.returns-clause-found
returns-clause-found g c = λ h.
    is_entry_at (held (g.D.Drive.journal c.args.drive.now)) c.args.at c.in_ok-block.block c.in-Ok.entry c.in-Some.first
    (held_at _ _ _ c.requires.within (c.in_ok-block.ensures.read h)) c.in-Ok.ensures.found c.in-Some.ensures.some.0 c.in-Some.ensures.some.1
