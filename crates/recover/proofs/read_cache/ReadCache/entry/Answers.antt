use Rattle.std.proofs.Common.{List, sym, subst}
use Rattle.drive.specs.Journal.{Event, held}
use Rattle.recover.specs.ReadCache.{IsKnown}
use Rattle.recover.proofs.read_cache.ReadCache.entry.Goals as goal

pub returns-in_ok-entry-in-None-clause-known : goal.returns-in_ok-entry-in-None-clause-known
returns-in_ok-entry-in-None-clause-known g c = λ h.
    let read = c.in_ok-entry-in-None.ensures.reads in
    subst (λ (J : List Event). IsKnown (held J) c.keep_entry.new.self) (sym read.journal)
    (c.keep_entry.ensures (held (g.D.Drive.journal c.args.drive.now)) (c.in_ok-entry-in-None.ensures.described h) (c.requires.known (read.honest h)))
