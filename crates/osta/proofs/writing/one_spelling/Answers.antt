use Rattle.std.proofs.Common.{sym, ◌∙◌}
use Rattle.osta.proofs.Texts.{one_text}
use Rattle.osta.proofs.writing.one_spelling.Goals as goal

pub returns-clause-bytes : goal.returns-clause-bytes
returns-clause-bytes c = λ text bytes other a b. a.spelled ∙ sym b.spelled

pub returns-clause-text : goal.returns-clause-text
returns-clause-text c = one_text
