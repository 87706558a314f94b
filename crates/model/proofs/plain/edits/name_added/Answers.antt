use Rattle.std.proofs.Common.{sym, ap, ◌∙◌, ◌++◌, refl}
use Rattle.model.specs.Tree.{parent_of, last_of}
use Rattle.model.specs.Operation.{with_names}
use Rattle.model.specs.Plain.{texts_in, node_in}
use Rattle.model.proofs.PlainEdits.{changed_place, changed_none}
use Rattle.model.proofs.plain.edits.name_added.Goals as goal

pub returns-in_default : goal.returns-in_default
returns-in_default c =
    let path = texts_in c.args.path.now in
    changed_none (parent_of path) (texts_in c.parent.result.now) c.args.nodes.items c.deref.result.now c.deref.ensures.value c.parent.ensures
    (with_names (λ names. names ++ last_of path) c.args.moment) c.requires (sym c.in_default.ensures)

pub returns : goal.returns
returns c =
    let path = texts_in c.args.path.now in
    changed_place (parent_of path) (texts_in c.parent.result.now) c.args.nodes.items c.deref.result.now c.deref.ensures.value c.parent.ensures
    c.in-Some.i _ c.index_mut.result.now (with_names (λ names. names ++ last_of path) c.args.moment) c.requires (sym c.in-Some.ensures) c.index_mut.ensures.value refl
    (c.in_ok-add_names.ensures ∙ ap (λ last. with_names (λ names. names ++ last) c.args.moment (node_in c.index_mut.result.now.node)) (c.in_ok-name.ensures ∙ c.last.ensures))
