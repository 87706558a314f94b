use Rattle.std.proofs.Common.{arith}
use Rattle.std.proofs.lemmas.Bool.{eqb-true, eq-eqb}
use Rattle.ecma.proofs.Pieces.{u8_stands}
use Rattle.ecma.proofs.InBytes.{u8_is}
use Rattle.ecma.proofs.standing.is_u8_at.Goals as goal

pub returns : goal.returns
returns c = (
  (λ yes. u8_stands c.args.at c.args.bytes.now c.args.number (omega arith) (eqb-true _ _ yes)),
  (λ stands. eq-eqb _ _ (u8_is c.args.at c.args.number c.args.bytes.now stands)),
)
