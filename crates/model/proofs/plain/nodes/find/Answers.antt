use Rattle.std.proofs.Common.{sym}
use Rattle.model.specs.Plain.{texts_in}
use Rattle.model.proofs.PlainLists.{at_none, at_place}
use Rattle.model.proofs.plain.nodes.find.Goals as goal

pub returns-in-None : goal.returns-in-None
returns-in-None c = sym (at_none (texts_in c.args.path.now) c.args.nodes.now (sym c.in-None.ensures))

pub returns-in-Some : goal.returns-in-Some
returns-in-Some c = sym ((at_place (texts_in c.args.path.now) c.args.nodes.now c.in-Some.i (sym c.in-Some.ensures)).1 c.index-nodes-i.result).0
