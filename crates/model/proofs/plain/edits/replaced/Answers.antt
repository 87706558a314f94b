use Rattle.std.proofs.Common.{sym, refl}
use Rattle.model.specs.Operation.{with_bytes}
use Rattle.model.specs.Plain.{texts_in}
use Rattle.model.proofs.PlainEdits.{changed_place, changed_none}
use Rattle.model.proofs.plain.edits.replaced.Goals as goal

pub returns-in_default : goal.returns-in_default
returns-in_default c =
    changed_none (texts_in c.args.path.now) (texts_in c.args.path.now) c.args.nodes.items c.deref.result.now c.deref.ensures.value refl
    (with_bytes c.args.bytes.items c.args.moment) c.requires (sym c.in_default.ensures)

pub returns : goal.returns
returns c =
    changed_place (texts_in c.args.path.now) (texts_in c.args.path.now) c.args.nodes.items c.deref.result.now c.deref.ensures.value refl
    c.in-Some.i _ c.index_mut.result.now (with_bytes c.args.bytes.items c.args.moment) c.requires (sym c.in-Some.ensures) c.index_mut.ensures.value refl c.set_bytes.ensures
