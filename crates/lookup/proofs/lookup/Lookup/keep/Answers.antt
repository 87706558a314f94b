use Rattle.std.proofs.Common.{refl}
use Rattle.lookup.proofs.lookup.Lookup.keep.Goals as goal

pub returns : goal.returns
returns g c = record { same_drive = refl; same_cache = refl; nodes = refl; drive_now = refl; kept = c.keep.ensures (g.D.Drive.journal c.args.self.now.drive.now) }
