-- Runs that are cut off by power losses, one after another.
use Rattle.std.proofs.Common.{◌≡◌, ◌⊎◌, inl, inr, ℕ, zero, suc, ◌+◌, ◌-◌, ◌<◌, ◌≤◌, List, [], ◌∷◌, ◌++◌, length, take, Some, refl, sym, ap, ◌∙◌, subst, arith, append_assoc, append-nil, length-append}
use Rattle.std.specs.Option.{option_to_list}
use Rattle.std.proofs.lemmas.List.{append_cancel_left, map-append, take_all, take-append-le}
use Rattle.drive.specs.Journal.{Event, held, Once}
use Rattle.drive.specs.Writes.{IsLeft}
use Rattle.model.specs.Session.{State, Request, due, after, after_one}
use Rattle.model.specs.Session.Due.{New}
use Rattle.model.specs.Runs.{AllNew}
use Rattle.model.proofs.Runs.{after-append}
use Rattle.model.proofs.Sessions.{each_once}
use Rattle.durability.specs.Formats.{Block}
use Rattle.durability.specs.Volume.{RecoversTo, RecoveredTo}
use Rattle.durability.specs.Commit.{need}
use Rattle.durability.specs.Journal.{Advances, HoldsOnJournal}
use Rattle.durability.specs.Runs.{Delivery, Answer}
use Rattle.durability.specs.Runs.Delivery.{Delivered}
use Rattle.durability.proofs.History.{past_now}
use Rattle.durability.proofs.Lists.{side, take_past}
use Rattle.udf.specs.Udf.{udf, spelled_length}
use Rattle.request.specs.declared.answer.Answer as told
use Rattle.request.specs.declared.message.Message.{Message}
use Rattle.engine.specs.declared.runs.Delivery as delivered
use Rattle.engine.specs.Answered.{faults}
use Rattle.engine.specs.Situation.{Situation, with_store}
use Rattle.engine.specs.Said.{AllSaid, model_answer, model_answers, model_message, said_told}
use Rattle.engine.specs.Steps.{AllSteps, HoldsState}
use Rattle.engine.specs.Delivered.{AllDelivered, faults_told}
use Rattle.engine.specs.Headline.{AllWithstand}
use Rattle.engine.specs.Served.{AllAnswered, EachWithstands, brought}
use Rattle.engine.specs.Withstanding.{AsksFor, Brings, MessageSurvivesPowerLoss}
use Rattle.engine.specs.Losses.{Life, IsRunCutShort, AreCut, Survives, IsLost, IsRunCut, IsStreamCut, LosesRun, LosesStream, RunsReach, LossesReach, ServedReach}
use Rattle.engine.proofs.Calling.{front_grows}
use Rattle.engine.proofs.Holding.{front_on, steps_hold}
use Rattle.engine.proofs.Running.{all_said_more, at_end, said_more, steps_more}
use Rattle.engine.proofs.Withstanding.{held_ended, held_stands}

-- ---- one run

-- a power loss cuts a run off
cut_here : (volume : ℕ) (S : State) (before : Situation) (said : List Delivery) (answers : List Answer) (T : State) (during next : Situation) (asked : Request → Type 0) (failed : ℕ) (lost : List Event) → HoldsState volume S before
    → AllSteps volume said S before answers T during → during.capacity ≡ before.capacity → MessageSurvivesPowerLoss volume T asked failed during next → IsLost during next lost
    → (under : List Request) × IsRunCutShort before.capacity volume S before.journal (record { said = said; answers = answers; under = under }) lost × ((under ≡ []) ⊎ ((request : Request) × (under ≡ request ∷ []) × asked request))
cut_here volume S before said answers T during next asked failed lost at steps size w l =
    let run : HoldsOnJournal udf (need spelled_length) before.capacity volume S before.journal during.journal said answers = steps_hold volume said S before answers T during at steps in
    let there : HoldsState volume T during = at_end volume said S before answers T during at steps in
    let stood : RecoversTo udf before.capacity volume (held during.journal) T = subst (λ (c : ℕ). RecoversTo udf c volume (held during.journal) T) size there.stands in
    let state : T ≡ after S run.holds.committed = held_ended volume before.capacity said S before.journal during.journal answers T run stood in
    let committed = run.holds.committed in
    let same : w.added ≡ l.added = append_cancel_left during.writes w.added l.added (sym w.writes_are ∙ l.are) in
    let back : (U : State) → Advances udf during.capacity volume during.journal T lost U → Advances udf before.capacity volume during.journal (after S committed) lost U =
    λ U h. subst (λ (V : State). Advances udf before.capacity volume during.journal V lost U) state (subst (λ (c : ℕ). Advances udf c volume during.journal T lost U) size h) in
    elim (w.torn l.left lost (subst (λ (ws : List (List Block)). IsLeft ws l.left) (sym same) l.is_left) l.lost_is) [
      | inl stays ↦ (
        [],
        record {
          during = during.journal;
          run = run;
          few = inl refl;
          advances = subst (λ (U : State). Advances udf before.capacity volume during.journal (after S committed) lost U) (state ∙ ap (λ (D : List Request). after S D) (sym (append-nil committed))) (back T stays);
        },
        inl refl,
      )
      | inr done ↦ (
        done.0 ∷ [],
        record {
          during = during.journal;
          run = run;
          few = inr (done.0, refl, subst (λ (U : State). due U done.0.client done.0.number ≡ New) state done.2);
          advances = subst (λ (U : State). Advances udf before.capacity volume during.journal (after S committed) lost U) (ap (λ (U : State). after_one U done.0) state ∙ sym (after-append committed (done.0 ∷ []) S))
              (back (after_one T done.0) done.3);
        },
        inr (done.0, refl, done.1),
      )
    ]

module _ (volume : ℕ) (S : State) (before : Situation) (at : HoldsState volume S before) where
  -- in a run, after the deliveries that were answered
  cut_along : (done : List delivered.Delivery) (said : List Delivery) (given : List told.Answer) (T : State) (during : Situation) → AllSaid done said → AllSteps volume said S before (model_answers given) T during → during.capacity ≡ before.capacity
      → (deliveries : List delivered.Delivery) (answers : List told.Answer) (afterwards : Situation) (all : AllDelivered deliveries during answers afterwards) (S' : State) → AllWithstand volume deliveries T during answers afterwards all S'
      → (lost : List Event) → LosesRun deliveries during answers afterwards all lost → IsRunCut before.capacity volume S before.journal (done ++ deliveries) (given ++ answers) lost
  cut_along done said given T during are steps size [] answers afterwards all S' each lost none = absurd none
  cut_along done said given T during are steps size (d ∷ deliveries) answers afterwards (a, next, rest, delivers, order, more) S' (one, is, U, step, withstands, later) lost (inl here) =
      let c = cut_here volume S before said (model_answers given) T during next (Brings d) (faults_told a) lost at steps size withstands here in
      record { done = done; now = d; later = deliveries; order = refl; given = given; others = answers; answers_are = refl; said = said; are_said = are; under = c.0; cut = c.1; brought = c.2 }
  cut_along done said given T during are steps size (d ∷ deliveries) answers afterwards (a, next, rest, delivers, order, more) S' (one, is, U, step, withstands, later) lost (inr there) =
      let so : AllSteps volume (said ++ one ∷ []) S before (model_answers (given ++ option_to_list a)) U next =
      subst (λ (xs : List Answer). AllSteps volume (said ++ one ∷ []) S before xs U next) (said_more given a) (steps_more volume said S before (model_answers given) T during one (said_told a) U next steps step) in
      let c = cut_along (done ++ d ∷ []) (said ++ one ∷ []) (given ++ option_to_list a) U next (all_said_more done said d one are is) so (step.capacity ∙ size) deliveries rest afterwards more S' later lost there in
      subst (λ (ds : List delivered.Delivery). IsRunCut before.capacity volume S before.journal ds (given ++ answers) lost) (append_assoc done (d ∷ []) deliveries)
      (subst (λ (xs : List told.Answer). IsRunCut before.capacity volume S before.journal ((done ++ d ∷ []) ++ deliveries) xs lost) (append_assoc given (option_to_list a) rest ∙ ap (λ (xs : List told.Answer). given ++ xs) (sym order)) c)

  -- in a stream, after the messages that were answered
  cut_among : (done : List Message) (given : List told.Answer) (T : State) (during : Situation) → AllSteps volume (brought done) S before (model_answers given) T during → during.capacity ≡ before.capacity
      → (messages : List Message) (answers : List told.Answer) (afterwards : Situation) (all : AllAnswered messages during answers afterwards) (S' : State) → EachWithstands volume messages T during answers afterwards all S'
      → (lost : List Event) → LosesStream messages during answers afterwards all lost → IsStreamCut before.capacity volume S before.journal (done ++ messages) (given ++ answers) lost
  cut_among done given T during steps size [] answers afterwards all S' each lost none = absurd none
  cut_among done given T during steps size (m ∷ messages) [] afterwards all S' each lost none = absurd none
  cut_among done given T during steps size (m ∷ messages) (a ∷ answers) afterwards (next, one, rest) S' (U, step, withstands, later) lost (inl here) =
      let c = cut_here volume S before (brought done) (model_answers given) T during next (AsksFor m) (faults a) lost at steps size withstands here in
      record { done = done; now = m; later = messages; order = refl; given = given; others = a ∷ answers; answers_are = refl; under = c.0; cut = c.1; asked = c.2 }
  cut_among done given T during steps size (m ∷ messages) (a ∷ answers) afterwards (next, one, rest) S' (U, step, withstands, later) lost (inr there) =
      let more = steps_more volume (brought done) S before (model_answers given) T during (Delivered (model_message m)) (Some (model_answer a)) U next steps step in
      let so : AllSteps volume (brought (done ++ m ∷ [])) S before (model_answers (given ++ a ∷ [])) U next =
      subst (λ (xs : List Answer). AllSteps volume (brought (done ++ m ∷ [])) S before xs U next) (said_more given (Some a))
      (subst (λ (ds : List Delivery). AllSteps volume ds S before (model_answers given ++ model_answer a ∷ []) U next) (sym (map-append (λ n. Delivered (model_message n)) done (m ∷ []))) more) in
      let c = cut_among (done ++ m ∷ []) (given ++ a ∷ []) U next so (step.capacity ∙ size) messages answers afterwards rest S' later lost there in
      subst (λ (ms : List Message). IsStreamCut before.capacity volume S before.journal ms (given ++ a ∷ answers) lost) (append_assoc done (m ∷ []) messages)
      (subst (λ (xs : List told.Answer). IsStreamCut before.capacity volume S before.journal ((done ++ m ∷ []) ++ messages) xs lost) (append_assoc given (a ∷ []) answers) c)

pub runs_reach : RunsReach
runs_reach volume deliveries S before answers afterwards at run lost loses =
    cut_along volume S before at [] [] [] S before tt (refl, refl, refl) refl deliveries answers (with_store run.kept afterwards) run.delivered run.state run.each lost loses

pub served_reach : ServedReach
served_reach volume messages S before answers afterwards at all S' each lost loses = cut_among volume S before at [] [] S before (refl, refl, refl) refl messages answers afterwards all S' each lost loses

-- ---- runs one after another

commits_after : (done : List Request) (S : State) → (after S done).commits ≡ S.commits + length done
commits_after [] S = omega arith
commits_after (r ∷ done) S = omega (arith, commits_after done (after_one S r))

new_append : (first second : List Request) (S : State) → AllNew S first → AllNew (after S first) second → AllNew S (first ++ second)
new_append [] second S f s = s
new_append (r ∷ first) second S f s = (f.0, new_append first second (after_one S r) f.1 s)

few_under : (S : State) (under : List Request) → (under ≡ []) ⊎ ((request : Request) × (under ≡ request ∷ []) × (due S request.client request.number ≡ New)) → AllNew S under × (length under ≤ 1)
few_under S under (inl none) = rw none (tt, omega arith)
few_under S under (inr (request, one, new)) = rw one ((new, tt), omega arith)

module _ (capacity volume : ℕ) where
  survives_none : (S : State) (before : List Event) → Once before → RecoversTo udf capacity volume (held before) S → Survives capacity volume S before [] before
  survives_none S before once stands = record {
    front = take_all (length before) before (omega arith);
    once = once;
    stands = stands;
    new = tt;
    each_once = tt;
    past = λ commits T was. was;
    later = λ j few. at j few;
  }
    where
      at : (j : ℕ) → j ≤ 0 → RecoveredTo udf capacity volume (held before) (S.commits + j) (after S (take j []))
      at zero few = subst (λ n. RecoveredTo udf capacity volume (held before) n S) (let e : S.commits ≡ S.commits + 0 = omega arith in e) (past_now udf capacity volume (held before) S stands)
      at (suc j) few = absurd (omega arith)

  survives_join : (S : State) (before between afterwards : List Event) (first second : List Request) → Survives capacity volume S before first between → Survives capacity volume (after S first) between second afterwards
      → Survives capacity volume S before (first ++ second) afterwards
  survives_join S before between afterwards first second f s =
      let new : AllNew S (first ++ second) = new_append first second S f.new s.new in
      record {
        front = front_on before between afterwards f.front (front_grows before between f.front) s.front;
        once = s.once;
        stands = subst (λ (T : State). RecoversTo udf capacity volume (held afterwards) T) (sym (after-append first second S)) s.stands;
        new = new;
        each_once = each_once S (first ++ second) new;
        past = λ commits T was. s.past commits T (f.past commits T was);
        later = λ j few. at j few (side j (length first));
      }
    where
      at : (j : ℕ) → j ≤ length (first ++ second) → (j < length first) ⊎ (length first ≤ j) → RecoveredTo udf capacity volume (held afterwards) (S.commits + j) (after S (take j (first ++ second)))
      at j few (inl low) =
          subst (λ (D : List Request). RecoveredTo udf capacity volume (held afterwards) (S.commits + j) (after S D)) (sym (take-append-le j first second (omega (arith, low))))
          (s.past (S.commits + j) (after S (take j first)) (f.later j (omega (arith, low))))
      at j few (inr high) =
          let i : ℕ = j - length first in
          let split : take j (first ++ second) ≡ first ++ take i second = take_past j i first second (omega (arith, high)) in
          let state : after (after S first) (take i second) ≡ after S (take j (first ++ second)) = sym (ap (λ (D : List Request). after S D) split ∙ after-append first (take i second) S) in
          let count : (after S first).commits + i ≡ S.commits + j = omega (arith, high, commits_after first S) in
          subst (λ n. RecoveredTo udf capacity volume (held afterwards) n (after S (take j (first ++ second)))) count
          (subst (λ (T : State). RecoveredTo udf capacity volume (held afterwards) ((after S first).commits + i) T) state (s.later i (omega (arith, high, few, length-append first second))))

  -- what is left of a commit
  survives_lost : (S : State) (before afterwards : List Event) (under : List Request) → RecoversTo udf capacity volume (held before) S → Advances udf capacity volume before S afterwards (after S under) → AllNew S under → length under ≤ 1
      → Survives capacity volume S before under afterwards
  survives_lost S before afterwards under stood a new one = record {
    front = a.front;
    once = a.once;
    stands = a.moves.ends;
    new = new;
    each_once = each_once S under new;
    past = a.moves.past;
    later = λ j few. at j under few one a.moves.ends;
  }
    where
      first : (n : ℕ) → n ≡ S.commits → RecoveredTo udf capacity volume (held afterwards) n S
      first n e = subst (λ m. RecoveredTo udf capacity volume (held afterwards) m S) (sym e) (a.moves.past S.commits S (past_now udf capacity volume (held before) S stood))

      at : (j : ℕ) (left : List Request) → j ≤ length left → length left ≤ 1 → RecoversTo udf capacity volume (held afterwards) (after S left) → RecoveredTo udf capacity volume (held afterwards) (S.commits + j) (after S (take j left))
      at zero [] few most ends = first (S.commits + 0) (omega arith)
      at zero (r ∷ left) few most ends = first (S.commits + 0) (omega arith)
      at (suc j) [] few most ends = absurd (omega arith)
      at (suc zero) (r ∷ []) few most ends =
          subst (λ n. RecoveredTo udf capacity volume (held afterwards) n (after_one S r)) (let e : (after_one S r).commits ≡ S.commits + suc zero = omega arith in e) (past_now udf capacity volume (held afterwards) (after_one S r) ends)
      at (suc (suc j)) (r ∷ []) few most ends = absurd (omega arith)
      at (suc j) (r ∷ s ∷ left) few most ends = absurd (omega arith)

  survives_cut : (S : State) (before afterwards : List Event) (life : Life) (cut : IsRunCutShort capacity volume S before life afterwards) → Survives capacity volume S before (cut.run.holds.committed ++ life.under) afterwards
  survives_cut S before afterwards life cut =
      survives_join S before cut.during afterwards committed life.under run
      (survives_lost (after S committed) cut.during afterwards life.under stood (subst (λ (T : State). Advances udf capacity volume cut.during (after S committed) afterwards T) (after-append committed life.under S) cut.advances) under.0 under.1)
    where
      committed : List Request
      committed = cut.run.holds.committed

      stood : RecoversTo udf capacity volume (held cut.during) (after S committed)
      stood = held_stands volume capacity life.said S before cut.during life.answers cut.run

      run : Survives capacity volume S before committed cut.during
      run = record {
        front = cut.run.front;
        once = cut.run.once;
        stands = stood;
        new = cut.run.holds.new;
        each_once = cut.run.holds.once;
        past = cut.run.holds.past;
        later = cut.run.holds.later;
      }

      under : AllNew (after S committed) life.under × (length life.under ≤ 1)
      under = few_under (after S committed) life.under cut.few

  survives_all : (lives : List Life) (S : State) (before : List Event) (done : List Request) (afterwards : List Event) → Once before → RecoversTo udf capacity volume (held before) S → AreCut capacity volume S before lives done afterwards
      → Survives capacity volume S before done afterwards
  survives_all [] S before done afterwards once stands (none, same) =
      subst (λ (D : List Request). Survives capacity volume S before D afterwards) (sym none) (subst (λ (J : List Event). Survives capacity volume S before [] J) (sym same) (survives_none S before once stands))
  survives_all (life ∷ lives) S before done afterwards once stands (between, cut, rest, order, more) =
      let one = survives_cut S before between life cut in
      let now : List Request = cut.run.holds.committed ++ life.under in
      subst (λ (D : List Request). Survives capacity volume S before D afterwards) (sym order)
      (survives_join S before between afterwards now rest one (survives_all lives (after S now) between rest afterwards one.once one.stands more))

pub losses_reach : LossesReach
losses_reach capacity volume S before lives done afterwards once stands cuts = survives_all capacity volume lives S before done afterwards once stands cuts
