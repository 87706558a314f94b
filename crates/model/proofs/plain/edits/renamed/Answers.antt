use Rattle.std.proofs.Common.{ap, ◌∙◌, subst, IfOk}
use Rattle.model.specs.Tree.{Tree}
use Rattle.model.specs.Operation.{name_added, name_taken_out}
use Rattle.model.specs.Plain.{texts_in, ListsTree}
use Rattle.model.proofs.PlainEdits.{moved_has}
use Rattle.model.proofs.plain.edits.renamed.Goals as goal

pub name_taken_out-nodes-requires : goal.name_taken_out-nodes-requires
name_taken_out-nodes-requires c =
    (moved_has (texts_in c.args.from.now) (texts_in c.args.to.now) c.args.nodes.items c.in_ok-nodes.nodes.items c.requires.apart c.requires.tree c.requires.code c.in_ok-nodes.ensures).apart

pub returns : goal.returns
returns c =
    let from = texts_in c.args.from.now in
    let to = texts_in c.args.to.now in
    let moved = moved_has from to c.args.nodes.items c.in_ok-nodes.nodes.items c.requires.apart c.requires.tree c.requires.code c.in_ok-nodes.ensures in
    let P : Tree → Type 0 = λ tree. IfOk c.name_added.result (λ new. ListsTree new.items (name_added to c.args.moment tree)) in
    subst P (c.name_taken_out-nodes.ensures.is ∙ ap (name_taken_out from c.args.moment) moved.is) c.name_added.ensures
