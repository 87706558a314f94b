use Rattle.std.proofs.Common.{ℕ, ◌*◌, ◌%◌, ◌^◌, subst, arith}
use Rattle.ecma.specs.Crc.{◌⊕◌, IsRemainder}
use Rattle.ecma.proofs.Words.{word_more}
use Rattle.ecma.proofs.cyclic.next_word.Goals as goal

pub returns : goal.returns
returns c = λ p before.
    word_more p c.args.crc c.args.word _ (omega (arith, c.ranges.word)) before
    (subst (λ (crc : ℕ). IsRemainder (crc * 2 ^ 48 % 2 ^ 64 ⊕ c.args.word) c.reduced.result) c.from.ensures c.reduced.ensures)
