use Rattle.osta.proofs.Spellings.{units_from_faultless}
use Rattle.osta.proofs.reading.expand_checked.Goals as goal

pub text_of_units-requires : goal.text_of_units-requires
text_of_units-requires c = units_from_faultless c.in-Some.id.now c.in-Some.rest.now c.args.bytes.now c.if-id-eq-NARROW.false c.in-Some.ensures.cases.0 c.requires
