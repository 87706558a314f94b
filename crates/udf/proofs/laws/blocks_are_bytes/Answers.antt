use Rattle.std.proofs.Common.{arith}
use Rattle.udf.proofs.laws.blocks_are_bytes.Goals as goal

pub returns : goal.returns
returns c = record { size = omega arith; bytes = c.are_bytes.ensures }
