use Rattle.recover.specs.ReadCache.{IsCachedListing, same_extent}
use Rattle.recover.proofs.Maps.{holds_none}
use Rattle.recover.proofs.kept.Directories.clear.Goals as goal

pub returns : goal.returns
returns c medium = holds_none same_extent (IsCachedListing medium) c.clear.new.self c.clear.ensures.empty
