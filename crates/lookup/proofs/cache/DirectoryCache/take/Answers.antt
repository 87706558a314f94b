use Rattle.std.proofs.Common.{sym, ◌∙◌}
use Rattle.lookup.proofs.Caches.{kept_without, kept_found, same_place, places_exact}
use Rattle.lookup.proofs.cache.DirectoryCache.take.Goals as goal

pub returns-in_err-placed-clause-kept : goal.returns-in_err-placed-clause-kept
returns-in_err-placed-clause-kept c journal kept = kept_without journal _ c.args.self.now.cache c.pop.new.self c.pop.ensures.entries kept

pub returns-then-not-lies_below-clause-kept : goal.returns-then-not-lies_below-clause-kept
returns-then-not-lies_below-clause-kept c journal kept = kept_without journal _ c.args.self.now.cache c.pop.new.self c.pop.ensures.entries kept

pub returns-clause-lies : goal.returns-clause-lies
returns-clause-lies c journal kept =
    kept_found journal same_place c.args.self.now.cache.entries c.args.at (c.in_ok-placed.placed, c.in_ok-placed.content) places_exact (sym c.pop.ensures.value ∙ c.in_ok-placed.was) kept

pub returns-clause-kept : goal.returns-clause-kept
returns-clause-kept c journal kept = kept_without journal _ c.args.self.now.cache c.pop.new.self c.pop.ensures.entries kept
