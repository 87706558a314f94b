use Rattle.std.proofs.Common.{arith}
use Rattle.recover.proofs.Listed.{blocks_end}
use Rattle.lookup.proofs.lookup.Lookup.descriptors_start.Goals as goal

pub returns-clause-fits : goal.returns-clause-fits
returns-clause-fits g c = omega (arith, c.next_number-first.ensures, blocks_end c.args.size c.args.descriptors.now c.requires.long c.requires.are c.requires.some)
