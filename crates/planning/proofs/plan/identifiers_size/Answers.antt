use Rattle.planning.proofs.plan.identifiers_size.Goals as goal

pub returns-clause-proper : goal.returns-clause-proper
returns-clause-proper c = record { named = c.plain_size.ensures.proper; distinct = c.len-many.ensures.unique }
