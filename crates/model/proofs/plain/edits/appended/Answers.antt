use Rattle.std.proofs.Common.{ℕ, List, ◌++◌, sym, ap, ◌∙◌, refl}
use Rattle.model.specs.Operation.{file_bytes, with_bytes}
use Rattle.model.specs.Plain.{texts_in, node_in, tree_in}
use Rattle.model.proofs.PlainEdits.{bytes_of_place, changed_place, changed_none}
use Rattle.model.proofs.plain.edits.appended.Goals as goal

pub returns-in_default : goal.returns-in_default
returns-in_default c =
    let path = texts_in c.args.path.now in
    changed_none path path c.args.nodes.items c.deref.result.now c.deref.ensures.value refl
    (with_bytes (file_bytes (tree_in c.args.nodes.items) path ++ c.args.bytes.items) c.args.moment) c.requires (sym c.in_default.ensures)

pub returns : goal.returns
returns c =
    let path = texts_in c.args.path.now in
    let front = bytes_of_place path path c.args.nodes.items c.deref.result.now c.deref.ensures.value refl c.in-Some.i c.index_mut.result.now (sym c.in-Some.ensures) c.index_mut.ensures.value in
    changed_place path path c.args.nodes.items c.deref.result.now c.deref.ensures.value refl
    c.in-Some.i _ c.index_mut.result.now (with_bytes (file_bytes (tree_in c.args.nodes.items) path ++ c.args.bytes.items) c.args.moment) c.requires (sym c.in-Some.ensures) c.index_mut.ensures.value refl
    (c.in_ok-add_bytes.ensures ∙ ap (λ (bytes : List ℕ). with_bytes (bytes ++ c.args.bytes.items) c.args.moment (node_in c.index_mut.result.now.node)) front)
