use Rattle.std.proofs.Common.{ℕ, ◌+◌, ◌*◌, ◌%◌, ◌^◌, ◌<◌, subst, sym, arith}
use Rattle.std.specs.Int.Bits.{xor_lt}
use Rattle.ecma.specs.Crc.{◌⊕◌, IsRemainder}
use Rattle.ecma.proofs.Quads.{IsRemainder-halves, quad_more, quad_rest}
use Rattle.ecma.proofs.cyclic.next_quad.Goals as goal

pub returns : goal.returns
returns c = λ p before.
    let fits : c.args.first < 2 ^ 128 = omega (arith, c.ranges.first) in
    let second-fits : c.args.second < 2 ^ 128 = omega (arith, c.ranges.second) in
    let high = c.args.crc * 2 ^ 112 % 2 ^ 128 ⊕ c.args.first in
    subst (λ (crc : ℕ). IsRemainder (p * 2 ^ 256 + (c.args.first * 2 ^ 128 + c.args.second)) (quad_rest (crc * 2 ^ 112 % 2 ^ 128 ⊕ c.args.first) c.args.second)) (sym c.from.ensures)
    (quad_more p c.args.crc c.args.first c.args.second _ fits second-fits before
    (IsRemainder-halves high c.args.second (xor_lt 128 (c.args.crc * 2 ^ 112 % 2 ^ 128) c.args.first (omega arith) fits) second-fits))
