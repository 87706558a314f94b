use Rattle.std.proofs.Common.{arith}
use Rattle.ecma.proofs.Words.{IsRemainder-word}
use Rattle.ecma.proofs.cyclic.reduced.Goals as goal

pub returns : goal.returns
returns c = IsRemainder-word c.args.dividend (omega (arith, c.ranges.dividend))
