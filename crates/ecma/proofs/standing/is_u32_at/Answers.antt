use Rattle.std.proofs.Common.{sym, ◌∙◌, arith}
use Rattle.std.proofs.lemmas.Bool.{eqb-true, eq-eqb}
use Rattle.ecma.proofs.Pieces.{u32_stands}
use Rattle.ecma.proofs.InBytes.{u32_is}
use Rattle.ecma.proofs.standing.is_u32_at.Goals as goal

pub returns : goal.returns
returns c = (
  (λ yes. u32_stands c.args.at c.args.bytes.now c.args.number (λ i. omega (arith, c.type_inv.bytes i)) c.requires (sym c.u32_at.ensures ∙ eqb-true _ _ yes)),
  (λ stands. eq-eqb _ _ (c.u32_at.ensures ∙ u32_is c.args.at c.args.number c.args.bytes.now (omega arith) stands)),
)
