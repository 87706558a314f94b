use Rattle.std.proofs.Common.{sym, ◌∙◌}
use Rattle.model.proofs.PlainPaths.{begins_names}
use Rattle.model.proofs.plain.paths.begins_with.Goals as goal

pub returns-then-front-path-clause-begins : goal.returns-then-front-path-clause-begins
returns-then-front-path-clause-begins c = c.same_path.ensures ∙ sym (begins_names c.args.path.now c.args.front.now)
