use Rattle.std.proofs.Common.{◌≡◌, arith, length}
use Rattle.std.proofs.lemmas.Grind.{common_steps}
use Rattle.std.specs.FinMap.{len}
use Rattle.model.specs.Plain.{tree_in}
use Rattle.model.proofs.PlainLists.{apart_len}
use Rattle.model.proofs.plain.codes.code_of_addition.Goals as goal

pub returns-then-nodes : goal.returns-then-nodes
returns-then-nodes c = let n : len (tree_in c.args.nodes.now) ≡ length c.args.nodes.now = apart_len c.args.nodes.now c.requires in grind (arith, common_steps, n)

pub returns-else-nodes : goal.returns-else-nodes
returns-else-nodes c = let n : len (tree_in c.args.nodes.now) ≡ length c.args.nodes.now = apart_len c.args.nodes.now c.requires in grind (arith, common_steps, n)
