use Rattle.std.proofs.Common.{ℕ, ◌+◌, ◌*◌, ◌^◌, subst, sym, arith}
use Rattle.ecma.specs.Crc.{IsRemainder, next_crc}
use Rattle.ecma.proofs.Remainders.{IsRemainder-byte}
use Rattle.ecma.proofs.cyclic.next_byte.Goals as goal

pub returns : goal.returns
returns c = λ p remainder.
    subst (λ (byte : ℕ). IsRemainder (p * 2 ^ 8 + c.args.byte) (next_crc c.args.crc byte)) (sym c.from.ensures)
    (IsRemainder-byte p c.args.crc c.args.byte (omega (arith, c.ranges.byte)) remainder)
