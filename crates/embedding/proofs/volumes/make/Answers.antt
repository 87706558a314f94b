use Rattle.std.proofs.Common.{Err, ap}
use Rattle.recover.specs.declared.fault.StoreFault.{StoreFault}
use Rattle.embedding.proofs.volumes.make.Goals as goal

pub returns-in-Err-clause-makes : goal.returns-in-Err-clause-makes
returns-in-Err-clause-makes g c = (
  c.in-Err.fault,
  c.fault_of.ensures,
  c.in-Err.ensures.err,
  λ e. (c.in-Err.ensures.small.0 (ap (λ (f : StoreFault). Err f) e)).1,
)
