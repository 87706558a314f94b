use Rattle.std.proofs.Common.{sym, ap, ◌∙◌, subst, refl}
use Rattle.model.specs.Operation.{name_taken_out}
use Rattle.model.specs.Plain.{texts_in, tree_in, AreApart}
use Rattle.model.proofs.PlainEdits.{removed_place, removed_none, has_along}
use Rattle.model.proofs.plain.edits.removed.Goals as goal

pub returns-in_default : goal.returns-in_default
returns-in_default c =
    let path = texts_in c.args.path.now in
    let none = removed_none path path c.args.nodes.items c.deref.result.now c.deref.ensures.value refl c.requires (sym c.in_default.ensures) in
    has_along c.name_taken_out.result.items _ _ (ap (name_taken_out path c.args.moment) none.is) c.name_taken_out.ensures

pub name_taken_out-requires-2 : goal.name_taken_out-requires-2
name_taken_out-requires-2 c =
    let path = texts_in c.args.path.now in
    let rest = removed_place path path c.args.nodes.items c.deref.result.now c.deref.ensures.value refl c.in-Some.i c.requires (sym c.in-Some.ensures) c.remove.result in
    subst AreApart (sym c.remove.ensures.items) rest.apart

pub returns : goal.returns
returns c =
    let path = texts_in c.args.path.now in
    let rest = removed_place path path c.args.nodes.items c.deref.result.now c.deref.ensures.value refl c.in-Some.i c.requires (sym c.in-Some.ensures) c.remove.result in
    has_along c.name_taken_out-2.result.items _ _ (ap (name_taken_out path c.args.moment) (ap tree_in c.remove.ensures.items ∙ rest.is)) c.name_taken_out-2.ensures
