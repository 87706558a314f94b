use Rattle.std.proofs.Common.{sym, ap, ◌∙◌, filter, refl}
use Rattle.model.specs.Tree.{parent_of, last_of}
use Rattle.model.specs.Operation.{with_names, is_other}
use Rattle.model.specs.Plain.{texts_in, node_in}
use Rattle.model.proofs.PlainEdits.{changed_place, changed_none}
use Rattle.model.proofs.plain.edits.name_taken_out.Goals as goal

pub returns-in_default : goal.returns-in_default
returns-in_default c =
    let path = texts_in c.args.path.now in
    changed_none (parent_of path) (texts_in c.parent.result.now) c.args.nodes.items c.deref.result.now c.deref.ensures.value c.parent.ensures
    (with_names (filter (is_other (last_of path))) c.args.moment) c.requires (sym c.in_default.ensures)

pub returns : goal.returns
returns c =
    let path = texts_in c.args.path.now in
    changed_place (parent_of path) (texts_in c.parent.result.now) c.args.nodes.items c.deref.result.now c.deref.ensures.value c.parent.ensures
    c.in-Some.i _ c.index_mut.result.now (with_names (filter (is_other (last_of path))) c.args.moment) c.requires (sym c.in-Some.ensures) c.index_mut.ensures.value refl
    (c.take_out.ensures ∙ ap (λ last. with_names (filter (is_other last)) c.args.moment (node_in c.index_mut.result.now.node)) c.last.ensures)
