use Rattle.request.proofs.AnswerLaws.{no_beginning}
use Rattle.request.proofs.laws.no_answer_begins_another.Goals as goal

pub returns : goal.returns
returns c = λ a b x y a-good b-good e. no_beginning a b x y a-good b-good e
