use Rattle.std.proofs.Common.{inl, inr, refl}
use Rattle.icb.proofs.set.examine_set.Goals as goal

pub returns-in_default-clause-fault : goal.returns-in_default-clause-fault
returns-in_default-clause-fault c = inr (c.has_set_tag.ensures.0 c.if-not-has_set_tag.false, inl ((λ fixed. c.in_default.ensures.none fixed.0 fixed.1), refl))
