use Rattle.drive.specs.Journal.{held}
use Rattle.recover.proofs.read_cache.ReadCache.directory.Goals as goal

pub returns-in-Some-clause-named : goal.returns-in-Some-clause-named
returns-in-Some-clause-named g c = λ h.
    let known = c.requires.known h in
    c.in-Some.ensures.named (held (g.D.Drive.journal c.args.drive.now)) known.before
