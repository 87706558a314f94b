use Rattle.recover.specs.ReadCache.{IsCachedListing, same_extent}
use Rattle.recover.proofs.Maps.{holds_none}
use Rattle.recover.proofs.kept.Directories.new.Goals as goal

pub returns : goal.returns
returns c medium = holds_none same_extent (IsCachedListing medium) c.new.result c.new.ensures.empty
