use Rattle.std.proofs.Common.{rules}
use Rattle.lookup.proofs.Lending.{kept_lent}
use Rattle.planning.proofs.plan.LastTable.change.Goals as goal

pub returns-clause-kept : goal.returns-clause-kept
returns-clause-kept g c = kept_lent c.new.result c.change.new.self.lookup _ _ _ c.new.ensures.drive c.new.ensures.cache (search rules) c.cache-1.given.0 c.change.ensures.looks (search rules)
