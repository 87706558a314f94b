-- Groups, one after another, as a run of the medium's.
use Rattle.std.proofs.Common.{◌≡◌, ◌⊎◌, inl, inr, ℕ, List, [], ◌∷◌, ◌++◌, length, None, IsTrue, refl, sym, ap, subst, ◌∙◌, append_assoc}
use Rattle.std.specs.Option.{option_to_list}
use Rattle.std.proofs.lemmas.List.{map-append}
use Rattle.drive.specs.Journal.{Event}
use Rattle.drive.specs.Gathering.{Gathering}
use Rattle.model.specs.Session.{State}
use Rattle.durability.specs.Journal.{Advances}
use Rattle.durability.specs.Runs.{Answer, Delivery}
use Rattle.durability.specs.Runs.Delivery.{Restart}
use Rattle.udf.specs.Udf.{udf}
use Rattle.request.specs.declared.answer.Answer as told
use Rattle.engine.specs.Said.{model_answer, model_answers}
use Rattle.engine.specs.Served.{brought}
use Rattle.engine.specs.Situation.{Situation}
use Rattle.engine.specs.Steps.{AllSteps, HoldsState, IsStep}
use Rattle.engine.proofs.Calling.{restarts_are_steps}
use Rattle.engine.proofs.Holding.{steps_hold}
use Rattle.engine.proofs.Served.{answered_steps}
use Rattle.grouping.specs.Groups.{IsTakenBack, StartsAt}
use Rattle.grouping.specs.Served.{Group, IsSettledGroup, IsLoneGroup, AreGroups, GroupsRun, answers_of, restart_before, restart_of, said_in}
use Rattle.grouping.proofs.Back.{taking_back}
use Rattle.grouping.proofs.Withstanding.{groups_honest}

-- some steps, and then others
steps_join : (volume : ℕ) (ds es : List Delivery) (S : State) (s : Situation) (answers more : List Answer) (T : State) (t : Situation) (U : State) (u : Situation)
    → AllSteps volume ds S s answers T t → AllSteps volume es T t more U u → AllSteps volume (ds ++ es) S s (answers ++ more) U u
steps_join volume [] es S s answers more T t U u (none, state, same) k =
    subst (λ (a : List Answer). AllSteps volume es S s (a ++ more) U u) (sym none)
    (subst (λ (R : State). AllSteps volume es R s more U u) state (subst (λ (x : Situation). AllSteps volume es T x more U u) same k))
steps_join volume (d ∷ ds) es S s answers more T t U u (a, R, during, rest, step, is, steps) k =
    (a, R, during, rest ++ more, step, ap (λ (l : List Answer). l ++ more) is ∙ append_assoc (option_to_list a) rest more, steps_join volume ds es R during rest more T t U u steps k)

-- a state is recovered after them
steps_at : (volume : ℕ) (ds : List Delivery) (S : State) (s : Situation) (answers : List Answer) (T : State) (t : Situation) → HoldsState volume S s → AllSteps volume ds S s answers T t → HoldsState volume T t
steps_at volume [] S s answers T t at (none, state, same) = subst (λ (R : State). HoldsState volume R t) (sym state) (subst (λ (x : Situation). HoldsState volume S x) (sym same) at)
steps_at volume (d ∷ ds) S s answers T t at (a, R, during, rest, step, is, steps) = steps_at volume ds R during rest T t step.at steps

-- a group that is taken back is a restart
back_step : (volume : ℕ) (S : State) (before start : Situation) → IsTakenBack before start → HoldsState volume S before → IsStep volume Restart S before None S start
back_step volume S before start back at =
    let step = restarts_are_steps volume S before at in
    record {
      effect = step.effect;
      row = step.row;
      blocks = ap length back.journal ∙ step.blocks;
      state = step.state;
      advances = subst (λ (J : List Event). Advances udf before.capacity volume before.journal S J S) (sym back.journal) step.advances;
      capacity = back.capacity;
      at = (taking_back before start (inr back)).1 volume S at;
    }

start_steps : (volume : ℕ) (S : State) (before start : Situation) (starts : StartsAt before start) → HoldsState volume S before → AllSteps volume (restart_of before start starts) S before [] S start
start_steps volume S before start (inl same) at = (refl, refl, same)
start_steps volume S before start (inr back) at = (None, S, start, [], back_step volume S before start back at, refl, (refl, refl, refl))

answers_joined : (answers : List told.Answer) (groups : List Group) → model_answers answers ++ model_answers (answers_of groups) ≡ model_answers (answers ++ answers_of groups)
answers_joined answers groups = sym (map-append model_answer answers (answers_of groups))

group_steps : (volume : ℕ) (S : State) (before : Situation) (begun : Gathering) (g : Group) (is : IsSettledGroup before begun g ⊎ IsLoneGroup before begun g) → IsTrue g.afterwards.honest → HoldsState volume S before
    → (T : State) × AllSteps volume (restart_before before begun g is ++ brought g.messages) S before (model_answers g.answers) T g.afterwards
group_steps volume S before begun g (inl settled) honest at =
    let (T, steps) = answered_steps volume g.messages S g.start g.answers g.afterwards settled.answered honest (subst (λ (s : Situation). HoldsState volume S s) (sym settled.starts) at) in
    (T, subst (λ (s : Situation). AllSteps volume (brought g.messages) S s (model_answers g.answers) T g.afterwards) settled.starts steps)
group_steps volume S before begun g (inr lone) honest at =
    let from : HoldsState volume S g.start = (taking_back before g.start lone.starts).1 volume S at in
    let (T, steps) = answered_steps volume g.messages S g.start g.answers g.afterwards lone.answered honest from in
    (T, steps_join volume (restart_of before g.start lone.starts) (brought g.messages) S before [] (model_answers g.answers) S g.start T g.afterwards (start_steps volume S before g.start lone.starts at) steps)

groups_steps : (volume : ℕ) (S : State) (groups : List Group) (before : Situation) (begun : Gathering) (afterwards : Situation) (ended : Gathering) (all : AreGroups groups before begun afterwards ended) → IsTrue afterwards.honest → HoldsState volume S before
    → (T : State) × AllSteps volume (said_in groups before begun afterwards ended all) S before (model_answers (answers_of groups)) T afterwards
groups_steps volume S [] before begun afterwards ended all honest at = (S, (refl, refl, all.0))
groups_steps volume S (g ∷ groups) before begun afterwards ended all honest at =
    let first = restart_before before begun g all.0 ++ brought g.messages in
    let (T, steps) = group_steps volume S before begun g all.0 (groups_honest groups g.afterwards g.gathering afterwards ended all.1 honest) at in
    let (U, rest) = groups_steps volume T groups g.afterwards g.gathering afterwards ended all.1 honest (steps_at volume first S before (model_answers g.answers) T g.afterwards at steps) in
    let later = said_in groups g.afterwards g.gathering afterwards ended all.1 in (
      U,
      subst (λ (a : List Answer). AllSteps volume (first ++ later) S before a U afterwards) (answers_joined g.answers groups)
          (steps_join volume first later S before (model_answers g.answers) (model_answers (answers_of groups)) T g.afterwards U afterwards steps rest),
    )

pub groups_run : (groups : List Group) (before : Situation) (begun : Gathering) (afterwards : Situation) (ended : Gathering) (all : AreGroups groups before begun afterwards ended) → GroupsRun groups before begun afterwards ended all
groups_run groups before begun afterwards ended all volume S honest at =
    let (T, steps) = groups_steps volume S groups before begun afterwards ended all honest at in
    steps_hold volume (said_in groups before begun afterwards ended all) S before (model_answers (answers_of groups)) T afterwards at steps
