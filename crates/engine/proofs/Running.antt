-- A run on an honest drive, one delivery more at a time.
use Rattle.std.proofs.Common.{◌≡◌, ℕ, IsTrue, List, [], ◌∷◌, ◌++◌, Option, Some, None, refl, sym, ap, ◌∙◌, subst, append_assoc, append-nil}
use Rattle.std.specs.Option.{option_to_list}
use Rattle.request.specs.declared.answer.Answer.{Answer}
use Rattle.model.specs.Session.{State}
use Rattle.durability.specs.Runs.{Delivery}
use Rattle.durability.specs.Runs as medium
use Rattle.engine.specs.declared.runs.Delivery as delivered
use Rattle.engine.specs.declared.runs.Delivery.TheVariants.{Frame, Restart}
use Rattle.engine.specs.Situation.{Situation, situation}
use Rattle.engine.specs.Delivered.{AllDelivered, Delivers}
use Rattle.engine.specs.Said.{IsDeliverySaid, AllSaid, model_answer, model_answers, model_message, said_told}
use Rattle.engine.specs.Steps.{HoldsState, IsStep, AllSteps}
use Rattle.engine.specs.Headline.{DeliversBy, RunsBegin, RunsGoOn, RunsAreHeld}
use Rattle.engine.proofs.Calling.{none_knows, calls_are_steps, restarts_are_steps}
use Rattle.engine.proofs.Holding.{steps_hold}

-- a delivery by its calls is a step
pub delivers_step : (volume : ℕ) (d : delivered.Delivery) (S : State) (before : Situation) (told : Option Answer) (afterwards : Situation) → HoldsState volume S before → DeliversBy volume d S before told afterwards
    → (said : Delivery) × IsDeliverySaid d said × (S' : State) × IsStep volume said S before (said_told told) S' afterwards
delivers_step volume Restart S before None afterwards at is =
    (medium.Delivery.Restart, refl, S, subst (λ (s : Situation). IsStep volume medium.Delivery.Restart S before None S s) (sym is) (restarts_are_steps volume S before at))
delivers_step volume Restart S before (Some a) afterwards at is = absurd is
delivers_step volume (Frame payload) S before None afterwards at is = absurd is
delivers_step volume (Frame payload) S before (Some a) afterwards at (m, tells, calls) =
    let step = calls_are_steps volume m S before a afterwards at calls in
    (medium.Delivery.Delivered (model_message m), (m, tells, refl), step.0, step.1)

module _ (volume : ℕ) where
  -- what is recovered after the last step
  pub at_end : (ds : List Delivery) (S : State) (before : Situation) (answers : List medium.Answer) (T : State) (afterwards : Situation) → HoldsState volume S before → AllSteps volume ds S before answers T afterwards → HoldsState volume T afterwards
  at_end [] S before answers T afterwards at (none, state, same) = subst (λ (U : State). HoldsState volume U afterwards) (sym state) (subst (λ (s : Situation). HoldsState volume S s) (sym same) at)
  at_end (d ∷ ds) S before answers T afterwards at (a, U, during, rest, step, told, steps) = at_end ds U during rest T afterwards step.at steps

  pub steps_more : (ds : List Delivery) (S : State) (before : Situation) (answers : List medium.Answer) (T : State) (during : Situation) (d : Delivery) (a : Option medium.Answer) (S' : State) (afterwards : Situation)
      → AllSteps volume ds S before answers T during → IsStep volume d T during a S' afterwards → AllSteps volume (ds ++ d ∷ []) S before (answers ++ option_to_list a) S' afterwards
  steps_more [] S before answers T during d a S' afterwards (none, state, same) step = (
    a,
    S',
    afterwards,
    [],
    subst (λ (U : State). IsStep volume d U before a S' afterwards) state (subst (λ (s : Situation). IsStep volume d T s a S' afterwards) same step),
    ap (λ (xs : List medium.Answer). xs ++ option_to_list a) none ∙ sym (append-nil (option_to_list a)),
    (refl, refl, refl),
  )
  steps_more (e ∷ ds) S before answers T during d a S' afterwards (b, U, mid, rest, first, told, steps) step = (
    b,
    U,
    mid,
    rest ++ option_to_list a,
    first,
    ap (λ (xs : List medium.Answer). xs ++ option_to_list a) told ∙ append_assoc (option_to_list b) rest (option_to_list a),
    steps_more ds U mid rest T during d a S' afterwards steps step,
  )

pub said_more : (answers : List Answer) (told : Option Answer) → model_answers answers ++ option_to_list (said_told told) ≡ model_answers (answers ++ option_to_list told)
said_more [] None = refl
said_more [] (Some a) = refl
said_more (b ∷ answers) told = ap (λ (xs : List medium.Answer). model_answer b ∷ xs) (said_more answers told)

pub all_said_more : (deliveries : List delivered.Delivery) (ds : List Delivery) (one : delivered.Delivery) (d : Delivery) → AllSaid deliveries ds → IsDeliverySaid one d → AllSaid (deliveries ++ one ∷ []) (ds ++ d ∷ [])
all_said_more [] [] one d all is = (is, tt)
all_said_more [] (e ∷ ds) one d all is = absurd all
all_said_more (x ∷ deliveries) [] one d all is = absurd all
all_said_more (x ∷ deliveries) (e ∷ ds) one d all is = (all.0, all_said_more deliveries ds one d all.1 is)

pub runs_begin : RunsBegin
runs_begin volume S journal failures capacity honest writes once stands = (
  record { once = once; stands = stands; knows = none_knows volume S (situation None journal failures capacity honest writes) refl },
  record { said = []; are_said = tt; state = S; steps = (refl, refl, refl) },
)

pub runs_go_on : RunsGoOn
runs_go_on volume deliveries S before answers during at run d told afterwards delivers =
    let one = delivers_step volume d run.state during told afterwards (at_end volume run.said S before (model_answers answers) run.state during at run.steps) delivers in
    record {
      said = run.said ++ one.0 ∷ [];
      are_said = all_said_more deliveries run.said d one.0 run.are_said one.1;
      state = one.2;
      steps = subst (λ (xs : List medium.Answer). AllSteps volume (run.said ++ one.0 ∷ []) S before xs one.2 afterwards) (said_more answers told)
          (steps_more volume run.said S before (model_answers answers) run.state during one.0 (said_told told) one.2 afterwards run.steps one.3);
    }

pub runs_are_held : RunsAreHeld
runs_are_held volume deliveries S before answers afterwards at run =
    record { said = run.said; are_said = run.are_said; holds = steps_hold volume run.said S before (model_answers answers) run.state afterwards at run.steps }

-- ---- deliveries, one after another

-- what is honest after a delivery was so before
delivers_honest : (d : delivered.Delivery) (before : Situation) (told : Option Answer) (afterwards : Situation) → Delivers d before told afterwards → IsTrue afterwards.honest → IsTrue before.honest
delivers_honest Restart before None afterwards is honest = subst (λ (s : Situation). IsTrue s.honest) is honest
delivers_honest Restart before (Some a) afterwards is honest = absurd is
delivers_honest (Frame payload) before None afterwards is honest = absurd is
delivers_honest (Frame payload) before (Some a) afterwards (m, tells, one) honest = one.answered.follows.honest honest

pub delivered_honest : (deliveries : List delivered.Delivery) (before : Situation) (answers : List Answer) (afterwards : Situation) → AllDelivered deliveries before answers afterwards → IsTrue afterwards.honest → IsTrue before.honest
delivered_honest [] before answers afterwards all honest = subst (λ (s : Situation). IsTrue s.honest) all.1 honest
delivered_honest (d ∷ deliveries) before answers afterwards (told, during, rest, delivers, order, more) honest = delivers_honest d before told during delivers (delivered_honest deliveries during rest afterwards more honest)

-- a delivery, by the calls that it makes
pub delivers_by : (volume : ℕ) (d : delivered.Delivery) (S : State) (before : Situation) (told : Option Answer) (afterwards : Situation) → Delivers d before told afterwards → IsTrue afterwards.honest → HoldsState volume S before
    → DeliversBy volume d S before told afterwards
delivers_by volume Restart S before None afterwards is honest at = is
delivers_by volume Restart S before (Some a) afterwards is honest at = absurd is
delivers_by volume (Frame payload) S before None afterwards is honest at = absurd is
delivers_by volume (Frame payload) S before (Some a) afterwards (m, tells, one) honest at = (m, tells, one.calls volume S honest at)

-- its answer, and those of the others
pub said_rest : (told : Option Answer) (rest : List Answer) → model_answers (option_to_list told ++ rest) ≡ option_to_list (said_told told) ++ model_answers rest
said_rest None rest = refl
said_rest (Some a) rest = refl
