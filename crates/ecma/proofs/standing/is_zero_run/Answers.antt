use Rattle.ecma.proofs.InBytes.{four_zeros}
use Rattle.ecma.proofs.standing.is_zero_run.Goals as goal

pub returns : goal.returns
returns c =
    four_zeros c.args.at c.args.bytes.now c.two_words.result c.two_words-2.result c.two_words-3.result c.two_words-4.result
    c.two_words.ensures c.two_words-2.ensures c.two_words-3.ensures c.two_words-4.ensures
