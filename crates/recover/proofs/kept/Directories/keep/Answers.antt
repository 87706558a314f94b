use Rattle.recover.specs.ReadCache.{IsCachedListing, same_extent}
use Rattle.recover.proofs.Maps.{holds_put, one_extent}
use Rattle.recover.proofs.kept.Directories.keep.Goals as goal

pub returns : goal.returns
returns c medium named are = holds_put same_extent (IsCachedListing medium) one_extent c.args.extent c.args.names named c.insert.result c.args.self.now.kept c.insert.new.self c.insert.ensures.updates c.insert.ensures.err are
