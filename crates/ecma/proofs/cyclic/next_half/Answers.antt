use Rattle.std.proofs.Common.{ℕ, ◌*◌, ◌%◌, ◌^◌, subst, arith}
use Rattle.ecma.specs.Crc.{◌⊕◌, IsRemainder}
use Rattle.ecma.proofs.Words.{half_more}
use Rattle.ecma.proofs.cyclic.next_half.Goals as goal

pub returns : goal.returns
returns c = λ p before.
    half_more p c.args.crc c.args.half _ (omega (arith, c.ranges.half)) before
    (subst (λ (crc : ℕ). IsRemainder (crc * 2 ^ 16 % 2 ^ 64 ⊕ c.args.half) c.reduced.result) c.from.ensures
    (subst (λ (half : ℕ). IsRemainder (c.from.result * 2 ^ 16 % 2 ^ 64 ⊕ half) c.reduced.result) c.from-2.ensures c.reduced.ensures))
