use Rattle.std.proofs.Common.{[], sym}
use Rattle.drive.proofs.Once.{last-in_order, last-past}
use Rattle.drive.proofs.events.block_at.Goals as goal

pub returns-then-place-events : goal.returns-then-place-events
returns-then-place-events c = sym (last-in_order c.args.events.now c.args.at (0, []) c.requires c.if-place-events.true)

pub returns-else-place-events : goal.returns-else-place-events
returns-else-place-events c = sym (last-past c.args.events.now c.args.at c.requires c.if-place-events.false)
