use Rattle.model.proofs.PlainPaths.{last_names}
use Rattle.model.proofs.plain.paths.last.Goals as goal

pub returns : goal.returns
returns c = last_names c.args.path.now c.saturating_sub.result c.saturating_sub.ensures
