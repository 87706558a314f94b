use Rattle.std.proofs.Common.{◌<◌, ◌∙◌, arith, length}
use Rattle.std.proofs.lemmas.Bool.Decides.{nat_tests}
use Rattle.formatting.proofs.Beginnings.{begun_part, counts_part, unbegun_part}
use Rattle.formatting.proofs.images.require_beginning.Goals as goal

pub returns-clause-begun : goal.returns-clause-begun
returns-clause-begun g c =
    begun_part c.require_part.result _ _ c.args.moment _ c.args.label.now c.args.part.now _ (c.capacity.ensures ∙ c.next.ensures.capacity) c.in-Ok.ensures.next c.require_part.ensures.begins

pub returns-clause-refused : goal.returns-clause-refused
returns-clause-refused g c =
    let some : 0 < length c.args.part.now = grind (arith, nat_tests, c.is_empty.ensures, c.if-is_empty.false) in
    unbegun_part c.require_part.result _ _ c.args.moment _ c.args.label.now c.args.part.now _ (c.capacity.ensures ∙ c.next.ensures.capacity) c.in-Ok.ensures.next some c.require_part.ensures.refused

pub returns-clause-failures : goal.returns-clause-failures
returns-clause-failures g c =
    counts_part c.require_part.result _ c.args.moment _ _ _ c.args.label.now c.args.part.now c.in-Ok.ensures.failures c.require_part.ensures.refused
