use Rattle.std.proofs.Common.{arith}
use Rattle.vat.proofs.Places.{elsewhere}
use Rattle.vat.proofs.place.is_entry.Goals as goal

pub returns-then-u32_at-number : goal.returns-then-u32_at-number
returns-then-u32_at-number c = (λ no. absurd cc, λ is. absurd (elsewhere c.args.text.now c.args.number (omega (arith, c.if-text.true)) (omega (arith, c.u32_at.ensures, c.if-u32_at-number.true)) is))
