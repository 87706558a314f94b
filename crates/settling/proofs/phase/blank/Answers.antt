use Rattle.std.proofs.Common.{sym, ◌∙◌}
use Rattle.settling.proofs.Giving.{blank_here}
use Rattle.settling.proofs.phase.blank.Goals as goal

pub returns-then-is_one : goal.returns-then-is_one
returns-then-is_one c = blank_here c.args.marks.now c.args.at c.args.block.now (sym c.is_one.ensures ∙ c.if-is_one.true)
