use Rattle.std.proofs.Common.{refl, arith, rules}
use Rattle.std.proofs.lemmas.Grind.{common_steps}
use Rattle.planning.proofs.plan.take_away.Goals as goal

pub returns-in_default-clause-gone : goal.returns-in_default-clause-gone
returns-in_default-clause-gone c = record {
  table = first_of (search rules, grind (arith, common_steps));
  fits = c.requires.fits;
  below = λ at h. h;
  stays = record { previous = refl; commits = refl; unique = refl; need = refl };
}

pub returns-clause-gone : goal.returns-clause-gone
returns-clause-gone c = record {
  table = first_of (search rules, grind (arith, common_steps));
  fits = c.remove_node.ensures.fits;
  below = c.remove_node.ensures.below;
  stays = c.remove_node.ensures.stays;
}
