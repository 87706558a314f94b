use Rattle.std.proofs.Common.{arith}
use Rattle.recover.proofs.walk.Walk.reach.Goals as goal

pub returns-in-None-clause-refused : goal.returns-in-None-clause-refused
returns-in-None-clause-refused c = rw c.damaged.ensures (λ entry_at leads below fresh deep. let far = c.in-None.ensures.none entry_at leads in omega (arith, far, below))
