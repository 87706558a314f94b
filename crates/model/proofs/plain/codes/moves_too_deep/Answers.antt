use Rattle.std.proofs.Common.{◌∙◌}
use Rattle.model.specs.Operation.{is_too_deep}
use Rattle.model.specs.Plain.{texts_in, path_in}
use Rattle.model.proofs.Lists.{any-map}
use Rattle.model.proofs.PlainLists.{any-tree}
use Rattle.model.proofs.plain.codes.moves_too_deep.Goals as goal

pub returns : goal.returns
returns c =
    let deep = is_too_deep (texts_in c.args.from.now) (texts_in c.args.to.now) in
    c.any_too_deep.ensures ∙ any-map deep path_in c.args.nodes.now ∙ any-tree deep c.args.nodes.now
