use Rattle.lookup.proofs.Caches.{kept_put, same_place, places_exact}
use Rattle.lookup.proofs.cache.DirectoryCache.keep.Goals as goal

pub returns : goal.returns
returns c journal lies kept = kept_put c.put.result journal same_place c.args.self.now.cache c.put.new.self c.args.placed c.args.content places_exact c.put.ensures.entries c.put.ensures.err lies kept
