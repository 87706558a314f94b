-- What a power loss leaves, one call more at a time.
use Rattle.std.proofs.Common.{◌≡◌, ◌⊎◌, inl, inr, ℕ, ◌≤◌, Bool, true, IsTrue, List, [], ◌∷◌, ◌++◌, length, take, Option, Some, None, refl, sym, ap, ◌∙◌, subst, arith, append-nil}
use Rattle.std.proofs.Math.Seq.{take-length}
use Rattle.std.proofs.lemmas.List.{take_all}
use Rattle.drive.specs.Journal.{Event, held, written, Once}
use Rattle.drive.specs.Writes.{joined, LastIsCut}
use Rattle.request.specs.declared.answer.Answer.{Answer}
use Rattle.model.specs.Session.{State, Request, due, after, after_one}
use Rattle.model.specs.Session.Due.{New}
use Rattle.durability.specs.Formats.{Block}
use Rattle.durability.specs.Commit.{need}
use Rattle.durability.specs.Journal.{Advances, HoldsOnJournal}
use Rattle.durability.specs.Runs as medium
use Rattle.durability.specs.Volume.{RecoversTo}
use Rattle.udf.specs.Udf.{udf, spelled_length}
use Rattle.store.specs.Calls as store
use Rattle.store.specs.Calls.{IsOpenOn}
use Rattle.store.specs.declared.store.Store.{Store}
use Rattle.engine.specs.Answered.{due_of, faults}
use Rattle.engine.specs.declared.runs.Delivery.{Delivery}
use Rattle.engine.specs.declared.runs.Delivery.TheVariants.{Frame, Restart}
use Rattle.engine.specs.Situation.{Situation, situation, with_store}
use Rattle.engine.specs.Said.{model_answers, said_told}
use Rattle.engine.specs.Steps.{HoldsState}
use Rattle.engine.specs.Delivered.{AllDelivered, Delivers, faults_told}
use Rattle.engine.specs.Headline.{AllWithstand, IsRun, RunHolds, RunWithstands}
use Rattle.engine.proofs.Running.{delivered_honest, delivers_by, delivers_step, runs_begin, runs_are_held, said_rest}
use Rattle.engine.specs.Withstanding.{AsksFor, MessageSurvivesPowerLoss, Brings}
use Rattle.durability.proofs.One.{stands_one}
use Rattle.udf.proofs.Formats.{exact}
use Rattle.drive.proofs.Once.{held_once, length-blocks_of}
use Rattle.engine.proofs.Calling.{front_grows, same_due, stay}

-- nothing was written
pub unwritten : (volume : ℕ) (S : State) (asked : Request → Type 0) (failed : ℕ) (before afterwards : Situation) → Once before.journal → RecoversTo udf before.capacity volume (held before.journal) S
    → afterwards.journal ≡ before.journal → afterwards.writes ≡ before.writes → MessageSurvivesPowerLoss volume S asked failed before afterwards
unwritten volume S asked failed before afterwards once stands journal writes =
    let J : List Event = before.journal in
    record {
      added = [];
      writes_are = writes ∙ sym (append-nil before.writes);
      whole = λ ok. journal ∙ sym (append-nil J);
      cut = λ more. inl (refl, journal);
      torn = λ left lost none there.
          inl (subst (λ (K : List Event). Advances udf before.capacity volume J S K S) (sym (there ∙ ap (λ (bs : List Block). J ++ written (length J) bs) none ∙ append-nil J)) (stay before.capacity volume J S once stands));
    }

-- what withstands asks for no less
pub withstands_more : (volume : ℕ) (S : State) (asked more : Request → Type 0) (failed : ℕ) (before afterwards : Situation) → ((r : Request) → asked r → more r) → MessageSurvivesPowerLoss volume S asked failed before afterwards → MessageSurvivesPowerLoss volume S more failed before afterwards
withstands_more volume S asked more failed before afterwards f w = record {
  added = w.added;
  writes_are = w.writes_are;
  whole = w.whole;
  cut = w.cut;
  torn = λ left lost cut there. elim (w.torn left lost cut there) [ inl stood ↦ inl stood | inr done ↦ inr (done.0, f done.0 done.1, done.2, done.3) ];
}

-- what is due by the store that knows the state is due by the state
pub new_there : (capacity volume : ℕ) (J : List Event) (S : State) (store : Store) (client number : ℕ) → IsOpenOn capacity volume J S store → New ≡ due_of store client number → due S client number ≡ New
new_there capacity volume J S store client number knows new = sym (new ∙ same_due volume S (situation (Some store) J 0 capacity true []) store client number knows)

-- a store's commit
pub applied_withstands : (volume : ℕ) (S : State) (r : Request) (asked : Request → Type 0) (failed : ℕ) (before afterwards : Situation) → asked r → due S r.client r.number ≡ New
    → store.CommitSurvivesPowerLoss before.capacity volume before.journal S r before.writes failed afterwards.journal afterwards.writes → MessageSurvivesPowerLoss volume S asked failed before afterwards
applied_withstands volume S r asked failed before afterwards asks new w = record {
  added = w.added;
  writes_are = w.writes_are;
  whole = w.whole;
  cut = w.cut;
  torn = λ left lost cut there. elim (w.torn left lost cut there) [ inl stood ↦ inl stood | inr done ↦ inr (r, asks, new, done) ];
}

-- from where nothing was written since
pub withstands_from : (volume : ℕ) (S : State) (asked : Request → Type 0) (failed : ℕ) (before during afterwards : Situation) → during.journal ≡ before.journal → during.capacity ≡ before.capacity → during.writes ≡ before.writes
    → MessageSurvivesPowerLoss volume S asked failed during afterwards → MessageSurvivesPowerLoss volume S asked failed before afterwards
withstands_from volume S asked failed before during afterwards journal size writes w = record {
  added = w.added;
  writes_are = w.writes_are ∙ ap (λ (ws : List (List Block)). ws ++ w.added) writes;
  whole = λ ok. w.whole ok ∙ ap (λ (L : List Event). L ++ written (length L) (joined w.added)) journal;
  cut = λ more. subst (λ (L : List Event). ((w.added ≡ []) × (afterwards.journal ≡ L)) ⊎ LastIsCut (length L) L w.added afterwards.journal) journal (w.cut more);
  torn = λ left lost cut there.
      let back : (T : State) → Advances udf during.capacity volume during.journal S lost T → Advances udf before.capacity volume before.journal S lost T =
      λ T h. subst (λ (c : ℕ). Advances udf c volume before.journal S lost T) size (subst (λ (L : List Event). Advances udf during.capacity volume L S lost T) journal h) in
      elim (w.torn left lost cut (there ∙ ap (λ (L : List Event). L ++ written (length L) left) (sym journal))) [ inl stood ↦ inl (back S stood) | inr done ↦ inr (done.0, done.1, done.2, back (after_one S done.0) done.3) ];
}

-- where a run ended the state after all its commits is recovered
pub held_stands : (volume capacity : ℕ) (deliveries : List medium.Delivery) (S : State) (before afterwards : List Event) (answers : List medium.Answer)
    (run : HoldsOnJournal udf (need spelled_length) capacity volume S before afterwards deliveries answers) → RecoversTo udf capacity volume (held afterwards) (after S run.holds.committed)
held_stands volume capacity deliveries S before afterwards answers run =
    let committed = run.holds.committed in
    let size : length (held afterwards) ≡ length afterwards = ap (λ (bs : List Block). length bs) (held_once afterwards run.once) ∙ length-blocks_of afterwards in
    let there = (run.stands (length afterwards) (front_grows before afterwards run.front) (omega arith)).1 in
    let all : take (run.holds.c (length afterwards)) committed ≡ committed =
    ap (λ (n : ℕ). take (run.holds.c n) committed) (sym size) ∙ ap (λ (n : ℕ). take n committed) run.holds.at_end ∙ take-length committed in
    subst (λ (rs : List Request). RecoversTo udf capacity volume (held afterwards) (after S rs)) all
    (subst (λ (L : List Event). RecoversTo udf capacity volume (held L) (after S (take (run.holds.c (length afterwards)) committed))) (take-length afterwards) there)

-- and no other
pub held_ended : (volume capacity : ℕ) (deliveries : List medium.Delivery) (S : State) (before afterwards : List Event) (answers : List medium.Answer) (T : State)
    (run : HoldsOnJournal udf (need spelled_length) capacity volume S before afterwards deliveries answers) → RecoversTo udf capacity volume (held afterwards) T → T ≡ after S run.holds.committed
held_ended volume capacity deliveries S before afterwards answers T run stands =
    stands_one udf exact capacity volume capacity volume (held afterwards) T (after S run.holds.committed) stands (held_stands volume capacity deliveries S before afterwards answers run)

-- ---- along a run

-- what a delivery's writes leave
pub delivers_withstand : (volume : ℕ) (d : Delivery) (S : State) (before : Situation) (told : Option Answer) (afterwards : Situation) → Delivers d before told afterwards → IsTrue afterwards.honest → HoldsState volume S before
    → MessageSurvivesPowerLoss volume S (Brings d) (faults_told told) before afterwards
delivers_withstand volume Restart S before None afterwards is honest at = unwritten volume S (Brings Restart) 0 before afterwards at.once at.stands (ap (λ (s : Situation). s.journal) is) (ap (λ (s : Situation). s.writes) is)
delivers_withstand volume Restart S before (Some a) afterwards is honest at = absurd is
delivers_withstand volume (Frame payload) S before None afterwards is honest at = absurd is
delivers_withstand volume (Frame payload) S before (Some a) afterwards (m, tells, one) honest at =
    withstands_more volume S (AsksFor m) (Brings (Frame payload)) (faults a) before afterwards (λ r asks. (m, tells, asks)) (one.withstands volume S honest at)

-- each delivery in turn is a step, and withstands
pub all_withstand : (volume : ℕ) (deliveries : List Delivery) (S : State) (before : Situation) (answers : List Answer) (afterwards : Situation) (all : AllDelivered deliveries before answers afterwards) → IsTrue afterwards.honest → HoldsState volume S before
    → (S' : State) × AllWithstand volume deliveries S before answers afterwards all S'
all_withstand volume [] S before answers afterwards all honest at = (S, refl)
all_withstand volume (d ∷ deliveries) S before answers afterwards (told, during, rest, delivers, order, more) honest at =
    let so : IsTrue during.honest = delivered_honest deliveries during rest afterwards more honest in
    let step = delivers_step volume d S before told during at (delivers_by volume d S before told during delivers so at) in
    let later = all_withstand volume deliveries step.2 during rest afterwards more honest step.3.at in
    (later.0, (step.0, step.1, step.2, step.3, delivers_withstand volume d S before told during delivers so at, later.1))

-- so they are a run
pub run_of : (volume : ℕ) (deliveries : List Delivery) (S : State) (before : Situation) (answers : List Answer) (afterwards : Situation) (all : AllDelivered deliveries before answers afterwards) (S' : State)
    → AllWithstand volume deliveries S before answers afterwards all S' → IsRun volume deliveries S before answers afterwards
run_of volume [] S before answers afterwards all S' same = record { said = []; are_said = tt; state = S'; steps = (ap model_answers all.0, same, all.1) }
run_of volume (d ∷ deliveries) S before answers afterwards (told, during, rest, delivers, order, more) S' (said, is, T, step, withstands, later) =
    let run = run_of volume deliveries T during rest afterwards more S' later in
    record { said = said ∷ run.said; are_said = (is, run.are_said); state = run.state; steps = (said_told told, T, during, model_answers rest, step, ap model_answers order ∙ said_rest told rest, run.steps) }

-- a list's deliveries, until all are made, from where no store is kept
pub ended_run : (volume : ℕ) (deliveries : List Delivery) (i : ℕ) (S : State) (journal : List Event) (failures capacity : ℕ) (honest : Bool) (writes : List (List Block)) (answers : List Answer) (kept : Option Store) (afterwards : Situation)
    → length deliveries ≤ i → Once journal → RecoversTo udf capacity volume (held journal) S → IsTrue afterwards.honest
    → AllDelivered (take i deliveries) (situation None journal failures capacity honest writes) answers (with_store kept afterwards) → RunWithstands volume deliveries S (situation None journal failures capacity honest writes) answers afterwards
ended_run volume deliveries i S journal failures capacity honest writes answers kept afterwards all once stands so delivered =
    let start : Situation = situation None journal failures capacity honest writes in
    let at : HoldsState volume S start = (runs_begin volume S journal failures capacity honest writes once stands).0 in
    let every : AllDelivered deliveries start answers (with_store kept afterwards) = subst (λ (ds : List Delivery). AllDelivered ds start answers (with_store kept afterwards)) (take_all i deliveries all) delivered in
    let each = all_withstand volume deliveries S start answers (with_store kept afterwards) every so at in
    record { kept = kept; delivered = every; state = each.0; each = each.1 }

pub ended_holds : (volume : ℕ) (deliveries : List Delivery) (S : State) (journal : List Event) (failures capacity : ℕ) (honest : Bool) (writes : List (List Block)) (answers : List Answer) (afterwards : Situation) → Once journal → RecoversTo udf capacity volume (held journal) S
    → RunWithstands volume deliveries S (situation None journal failures capacity honest writes) answers afterwards → RunHolds volume capacity deliveries S journal answers afterwards.journal
ended_holds volume deliveries S journal failures capacity honest writes answers afterwards once stands run =
    let start : Situation = situation None journal failures capacity honest writes in
    runs_are_held volume deliveries S start answers (with_store run.kept afterwards) (runs_begin volume S journal failures capacity honest writes once stands).0
    (run_of volume deliveries S start answers (with_store run.kept afterwards) run.delivered run.state run.each)
