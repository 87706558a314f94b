use Rattle.std.proofs.Common.{take, drop, ap, ◌∙◌}
use Rattle.std.proofs.lemmas.List.{drop-drop}
use Rattle.dir.proofs.fids.Fid.new.Goals as goal

pub returns-clause-name : goal.returns-clause-name
returns-clause-name c =
    c.split_at-3.ensures.front ∙ ap (take c.args.name_size) (c.split_at-2.ensures.back ∙ ap (drop c.args.use_size) c.split_at.ensures.back ∙ drop-drop c.args.use_size 38 c.args.bytes.now)
