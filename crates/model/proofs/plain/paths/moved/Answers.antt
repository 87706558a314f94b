use Rattle.std.proofs.Common.{◌∙◌, ap, sym}
use Rattle.model.specs.Plain.{texts_in}
use Rattle.model.proofs.PlainPaths.{moved_names}
use Rattle.model.proofs.plain.paths.moved.Goals as goal

pub returns : goal.returns
returns c =
    ap texts_in c.in_ok-append.ensures.items
    ∙ moved_names c.args.path.now c.args.from.now c.args.to.now c.in_ok-new.new.items c.in_ok-rest.rest.items (sym c.if-not-begins_with.ensures.begins) c.in_ok-new.ensures c.in_ok-rest.ensures
