use Rattle.std.proofs.Common.{sym, ◌∙◌, arith}
use Rattle.std.proofs.lemmas.Bool.{eqb-true, eq-eqb}
use Rattle.ecma.proofs.Pieces.{u16_stands}
use Rattle.ecma.proofs.InBytes.{u16_is}
use Rattle.ecma.proofs.standing.is_u16_at.Goals as goal

pub returns : goal.returns
returns c = (
  (λ yes. u16_stands c.args.at c.args.bytes.now c.args.number (λ i. omega (arith, c.type_inv.bytes i)) c.requires (sym c.u16_at.ensures ∙ eqb-true _ _ yes)),
  (λ stands. eq-eqb _ _ (c.u16_at.ensures ∙ u16_is c.args.at c.args.number c.args.bytes.now (omega arith) stands)),
)
