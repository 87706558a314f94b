use Rattle.std.proofs.Common.{◌-◌, length, arith}
use Rattle.drive.proofs.Running.{packet_after}
use Rattle.drive.proofs.packet.packet_of.Goals as goal

pub returns-clause-blocks : goal.returns-clause-blocks
returns-clause-blocks c = packet_after c.args.first.now c.args.second.now c.args.done (c.min-2.result - (c.args.done - length c.args.first.now)) (omega (arith, c.if-done-first.false))
