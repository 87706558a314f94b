use Rattle.std.proofs.Common.{sym, subst}
use Rattle.recover.specs.ReadCache.{AreCachedDirectories}
use Rattle.recover.proofs.read_cache.ReadCache.begin.Goals as goal

pub returns : goal.returns
returns c medium known = record {
  front = known.front;
  entries = known.entries;
  before = subst (AreCachedDirectories medium) (sym c.swap.ensures.x_after) known.met;
  met = c.clear.ensures medium;
}
