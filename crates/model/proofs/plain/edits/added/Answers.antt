use Rattle.std.proofs.Common.{sym, ap, subst, List}
use Rattle.model.specs.Operation.{name_added, added}
use Rattle.model.specs.Plain.{texts_in, plain_content, tree_in, ListsTree}
use Rattle.model.specs.declared.plain.nodes.Entry.{Entry}
use Rattle.model.proofs.PlainEdits.{pushed_list, has_along, still_none}
use Rattle.model.proofs.plain.edits.added.Goals as goal

pub returns : goal.returns
returns c =
    let path = texts_in c.args.path.items in
    let tree = tree_in c.args.nodes.items in
    let before = has_along c.in_ok-nodes.nodes.items _ _ (ap (λ p. name_added (texts_in p) c.args.moment tree) c.deref.ensures.value) c.in_ok-nodes.ensures in
    subst (λ (es : List Entry). ListsTree es (added path (plain_content c.args.content) c.args.moment c.args.identity tree)) (sym c.in_ok-push.ensures.items)
    (pushed_list c.in_ok-nodes.nodes.items (name_added path c.args.moment tree) _ before (still_none path c.args.moment tree c.requires.new))
