use Rattle.std.proofs.Common.{ℕ, ◌+◌, ◌*◌, ◌%◌, ◌^◌, ◌<◌, subst, sym, arith}
use Rattle.std.specs.Int.Bits.{xor_lt}
use Rattle.ecma.specs.Crc.{◌⊕◌, IsRemainder}
use Rattle.ecma.proofs.Words.{IsRemainder-pair, pair_more, pair_quotient, word_rest}
use Rattle.ecma.proofs.cyclic.next_pair.Goals as goal

pub returns : goal.returns
returns c = λ p before.
    let fits : c.args.pair < 2 ^ 128 = omega (arith, c.ranges.pair) in
    let dividend = c.args.crc * 2 ^ 112 % 2 ^ 128 ⊕ c.args.pair in
    subst (λ (crc : ℕ). IsRemainder (p * 2 ^ 128 + c.args.pair) (word_rest (pair_quotient (crc * 2 ^ 112 % 2 ^ 128 ⊕ c.args.pair)))) (sym c.from.ensures)
    (pair_more p c.args.crc c.args.pair _ fits before
    (IsRemainder-pair dividend (xor_lt 128 (c.args.crc * 2 ^ 112 % 2 ^ 128) c.args.pair (omega arith) fits)))
