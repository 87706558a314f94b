use Rattle.std.proofs.Common.{rules}
use Rattle.engine.proofs.Opening.{nothing_opened, opened_knows, opened_short}
use Rattle.engine.proofs.engine.Engine.take_open.Goals as goal

pub returns-in-Some-clause-knows : goal.returns-in-Some-clause-knows
returns-in-Some-clause-knows g c volume S honest at = at.knows c.in-Some.store (search rules, search rules)

pub returns-in_default-clause-knows : goal.returns-in_default-clause-knows
returns-in_default-clause-knows g c volume S honest at = opened_knows _ volume _ S _ (c.open.ensures.opens volume S honest at.once at.stands)

pub returns-in_default-clause-short : goal.returns-in_default-clause-short
returns-in_default-clause-short g c volume S honest at = opened_short _ volume _ S _ (c.open.ensures.opens volume S honest at.once at.stands)

pub returns-in-Some-clause-nothing : goal.returns-in-Some-clause-nothing
returns-in-Some-clause-nothing g c honest holds = holds.closed c.in-Some.store (search rules, search rules)

pub returns-in_default-clause-nothing : goal.returns-in_default-clause-nothing
returns-in_default-clause-nothing g c honest holds = nothing_opened _ _ _ (c.open.ensures.recovers) honest holds.once holds.nothing
