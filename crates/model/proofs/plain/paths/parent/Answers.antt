use Rattle.model.proofs.PlainPaths.{parent_names}
use Rattle.model.proofs.plain.paths.parent.Goals as goal

pub returns : goal.returns
returns c = parent_names c.args.path.now c.saturating_sub.result c.saturating_sub.ensures
