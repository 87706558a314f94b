-- What messages that were answered by their store's calls leave at each prefix of the journal, and of what a power loss leaves.
use Rattle.std.proofs.Common.{◌≡◌, ℕ, ◌+◌, List, [], ◌∷◌, ◌++◌, IsTrue, Some, sum_by, refl, ap, subst, arith}
use Rattle.std.proofs.lemmas.List.Sums.{sum_by-cons}
use Rattle.drive.specs.Reads.{CountsFailures}
use Rattle.request.specs.declared.answer.Answer.{Answer}
use Rattle.request.specs.declared.message.Message.{Message}
use Rattle.model.specs.Session.{State}
use Rattle.engine.specs.Answered.{faults}
use Rattle.engine.specs.Situation.{Situation}
use Rattle.engine.specs.Said.{model_answer, model_answers}
use Rattle.engine.specs.Steps.{HoldsState, AllSteps}
use Rattle.engine.specs.Delivered.{IsAnswered}
use Rattle.engine.specs.Served.{AllAnswered, EachWithstands, ServedHolds, ServedWithstands, brought}
use Rattle.engine.proofs.Calling.{calls_are_steps}
use Rattle.engine.proofs.Holding.{steps_hold}

-- one message more was answered
pub answered_more : (messages : List Message) (answers : List Answer) (s t u : Situation) (m : Message) (a : Answer)
    → AllAnswered messages s answers t → IsAnswered m t a u → AllAnswered (messages ++ m ∷ []) s (answers ++ a ∷ []) u
answered_more [] [] s t u m a h k = (u, subst (λ (x : Situation). IsAnswered m x a u) h k, refl)
answered_more [] (b ∷ answers) s t u m a h k = absurd h
answered_more (n ∷ messages) [] s t u m a h k = absurd h
answered_more (n ∷ messages) (b ∷ answers) s t u m a h k = (h.0, h.1, answered_more messages answers h.0 t u m a h.2 k)

-- what is honest after them was so before
pub answered_honest : (messages : List Message) (before : Situation) (answers : List Answer) (afterwards : Situation) → AllAnswered messages before answers afterwards → IsTrue afterwards.honest → IsTrue before.honest
answered_honest [] before [] afterwards same honest = subst (λ (s : Situation). IsTrue s.honest) same honest
answered_honest [] before (a ∷ answers) afterwards h honest = absurd h
answered_honest (m ∷ messages) before [] afterwards h honest = absurd h
answered_honest (m ∷ messages) before (a ∷ answers) afterwards (during, one, rest) honest = one.answered.follows.honest (answered_honest messages during answers afterwards rest honest)

pub answered_steps : (volume : ℕ) (messages : List Message) (S : State) (before : Situation) (answers : List Answer) (afterwards : Situation) → AllAnswered messages before answers afterwards → IsTrue afterwards.honest → HoldsState volume S before
    → (T : State) × AllSteps volume (brought messages) S before (model_answers answers) T afterwards
answered_steps volume [] S before [] afterwards same honest at = (S, (refl, refl, same))
answered_steps volume [] S before (a ∷ answers) afterwards h honest at = absurd h
answered_steps volume (m ∷ messages) S before [] afterwards h honest at = absurd h
answered_steps volume (m ∷ messages) S before (a ∷ answers) afterwards (during, one, rest) honest at =
    let step = calls_are_steps volume m S before a during at (one.calls volume S (answered_honest messages during answers afterwards rest honest) at) in
    let later = answered_steps volume messages step.0 during answers afterwards rest honest step.1.at in
    (later.0, (Some (model_answer a), step.0, during, model_answers answers, step.1, refl, later.1))

pub served_holds : (messages : List Message) (before : Situation) (answers : List Answer) (afterwards : Situation) → AllAnswered messages before answers afterwards → ServedHolds messages before answers afterwards
served_holds messages before answers afterwards h volume S honest at =
    let steps = answered_steps volume messages S before answers afterwards h honest at in
    steps_hold volume (brought messages) S before (model_answers answers) steps.0 afterwards at steps.1

-- each message in turn is a step, and withstands
each_withstands : (volume : ℕ) (messages : List Message) (S : State) (before : Situation) (answers : List Answer) (afterwards : Situation) (all : AllAnswered messages before answers afterwards) → IsTrue afterwards.honest → HoldsState volume S before
    → (S' : State) × EachWithstands volume messages S before answers afterwards all S'
each_withstands volume [] S before [] afterwards all honest at = (S, refl)
each_withstands volume [] S before (a ∷ answers) afterwards all honest at = absurd all
each_withstands volume (m ∷ messages) S before [] afterwards all honest at = absurd all
each_withstands volume (m ∷ messages) S before (a ∷ answers) afterwards (during, one, rest) honest at =
    let so : IsTrue during.honest = answered_honest messages during answers afterwards rest honest in
    let step = calls_are_steps volume m S before a during at (one.calls volume S so at) in
    let later = each_withstands volume messages step.0 during answers afterwards rest honest step.1.at in
    (later.0, (step.0, step.1, one.withstands volume S so at, later.1))

pub served_withstand : (messages : List Message) (before : Situation) (answers : List Answer) (afterwards : Situation) (all : AllAnswered messages before answers afterwards) → ServedWithstands messages before answers afterwards all
served_withstand messages before answers afterwards all volume S honest at = each_withstands volume messages S before answers afterwards all honest at

-- no more answers stand for a failure of the drive than it counted
pub answered_counted : (messages : List Message) (before : Situation) (answers : List Answer) (afterwards : Situation) → AllAnswered messages before answers afterwards → CountsFailures (sum_by faults answers) before.failures afterwards.failures
answered_counted [] before [] afterwards same most = omega (arith, ap (λ (s : Situation). s.failures) same)
answered_counted [] before (a ∷ answers) afterwards all most = absurd all
answered_counted (m ∷ messages) before [] afterwards all most = absurd all
answered_counted (m ∷ messages) before (a ∷ answers) afterwards (during, one, rest) most =
    let later = answered_counted messages during answers afterwards rest most in
    let first = one.answered.failures (omega (arith, later, most)) in
    let all : sum_by faults (a ∷ answers) ≡ faults a + sum_by faults answers = sum_by-cons faults a answers in
    omega (arith, later, first, all)
