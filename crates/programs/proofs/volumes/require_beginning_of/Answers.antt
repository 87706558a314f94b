use Rattle.std.proofs.Common.{Err, refl, rules}
use Rattle.std.specs.Prelude.{⊤}
use Rattle.formatting.proofs.Beginnings.{unbegun_look}
use Rattle.programs.proofs.volumes.require_beginning_of.Goals as goal

pub returns-in-Err-clause-refused : goal.returns-in-Err-clause-refused
returns-in-Err-clause-refused g c = (c.in-Err.fault, refl, unbegun_look {T = ⊤} (Err c.in-Err.fault) _ _ _ _ _ _ (search rules) (search rules) c.in-Err.ensures.refused)
