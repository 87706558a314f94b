-- The commits that messages made, one message more at a time.
use Rattle.std.proofs.Common.{◌≡◌, inl, inr, ℕ, ◌+◌, ◌<◌, Bool, true, false, IsTrue, List, [], ◌∷◌, ◌++◌, length, Some, refl, sym, ap, ◌∙◌, subst, arith, append-nil, length-append}
use Rattle.std.proofs.lemmas.Bool.{false≢true}
use Rattle.drive.specs.Journal.{Event, held, written, Once}
use Rattle.drive.proofs.Fronts.{held_write, written_after}
use Rattle.drive.proofs.Journals.{length-written}
use Rattle.model.specs.Session.{State, Request, Due, due, reply_to, after, after_one}
use Rattle.model.specs.Session.Due.{New}
use Rattle.model.specs.Runs.{AllNew}
use Rattle.durability.specs.Commit.{need}
use Rattle.durability.specs.Formats.{Block}
use Rattle.durability.specs.Runs.{Answer, AnswersDue, AnswersNew, Effect}
use Rattle.durability.specs.Runs.Answer.{Replied, Fault}
use Rattle.durability.specs.Runs.AnswersNew.{committed, failed, full, no_memory}
use Rattle.durability.specs.Runs.Delivery.{Delivered}
use Rattle.durability.specs.Volume.{Medium, RecoversTo}
use Rattle.durability.proofs.One.{stands_one}
use Rattle.udf.specs.Udf.{udf, spelled_length}
use Rattle.udf.proofs.Formats.{exact}
use Rattle.gathering.specs.Groups.{Commit, with_marks, first_there, AreInTurn}
use Rattle.gathering.proofs.Marks.{first_cons}
use Rattle.request.specs.declared.answer.Answer as told
use Rattle.request.specs.declared.answer.Answer.TheVariants as answer
use Rattle.request.specs.declared.message.Message.{Message}
use Rattle.request.specs.declared.message.Message.TheVariants as message
use Rattle.lookup.specs.Asked.{model_request}
use Rattle.store.specs.Calls.{IsCommitPlanned}
use Rattle.engine.specs.Answered.{faults}
use Rattle.engine.specs.Said.{model_answer, model_message}
use Rattle.engine.specs.Served.{AllAnswered}
use Rattle.engine.specs.Situation.{Situation}
use Rattle.engine.specs.Steps.{HoldsState, IsStep}
use Rattle.engine.specs.Withstanding.{AsksFor}
use Rattle.engine.proofs.Calling.{calls_are_steps}
use Rattle.engine.proofs.Served.{answered_honest}
use Rattle.group_losses.specs.Gathered.{AreGathered, Commits, NoneFailed}

-- ---- one message

abbrev is_fault : Answer → Bool
is_fault Fault = true
is_fault other = false

not_fault : (a : told.Answer) → faults a ≡ 0 → is_fault (model_answer a) ≡ false
not_fault (answer.Reply reply) few = refl
not_fault (answer.Stale latest) few = refl
not_fault (answer.Gap latest) few = refl
not_fault answer.ClientsFull few = refl
not_fault answer.Full few = refl
not_fault answer.Fault few = absurd (let bad : 1 ≡ 0 = few in omega (arith, bad))
not_fault answer.Memory few = refl
not_fault (answer.Malformed cause) few = refl
not_fault answer.Damaged few = refl
not_fault answer.NotFound few = refl
not_fault answer.IsDirectory few = refl
not_fault answer.NotDirectory few = refl
not_fault answer.TooLong few = refl
not_fault (answer.Data bytes) few = refl
not_fault (answer.Names names) few = refl
not_fault (answer.Node status) few = refl

-- a new request that wrote something, where the drive did not fail, was committed
new_replied : (S : State) (mark capacity most : ℕ) (r : Request) (a : Answer) (effect : Effect) → AnswersNew S mark capacity most r a effect → is_fault a ≡ false → 0 < effect.blocks
    → (a ≡ Replied (reply_to S r)) × (effect.done ≡ r ∷ [])
new_replied S mark capacity most r a effect (committed e is grows within room) sound some = (refl, is)
new_replied S mark capacity most r a effect (failed e what within room) sound some = absurd (false≢true (sym sound))
new_replied S mark capacity most r a effect (full e nothing room) sound some = absurd (omega (arith, nothing.1, some))
new_replied S mark capacity most r a effect (no_memory e nothing) sound some = absurd (omega (arith, nothing.1, some))

step_replied : (volume : ℕ) (m : Message) (S : State) (before : Situation) (a : told.Answer) (T : State) (during : Situation) (request : Request) → IsStep volume (Delivered (model_message m)) S before (Some (model_answer a)) T during
    → AsksFor m request → due S request.client request.number ≡ New → faults a ≡ 0 → length before.journal < length during.journal → (model_answer a ≡ Replied (reply_to S request)) × (T ≡ after_one S request)
step_replied volume (message.Malformed cause) S before a T during request step asks new few more = absurd asks
step_replied volume message.NoMemory S before a T during request step asks new few more = absurd asks
step_replied volume (message.Query query) S before a T during request step asks new few more = absurd asks
step_replied volume (message.Request asked) S before a T during request step asks new few more =
    let r : Request = model_request asked in
    let due_there : due S r.client r.number ≡ New = subst (λ (q : Request). due S q.client q.number ≡ New) asks new in
    let row : AnswersNew S (length before.journal) volume (need spelled_length S r) r (model_answer a) step.effect =
    subst (λ (d : Due). AnswersDue S (length before.journal) volume (need spelled_length S r) r d (model_answer a) step.effect) due_there step.row in
    let out = new_replied S (length before.journal) volume (need spelled_length S r) r (model_answer a) step.effect row (not_fault a few) (omega (arith, step.blocks, more)) in
    (subst (λ (q : Request). model_answer a ≡ Replied (reply_to S q)) (sym asks) out.0, step.state ∙ ap (λ (D : List Request). after S D) out.1 ∙ ap (λ (q : Request). after_one S q) (sym asks))

-- where nothing was written the state stays
step_stays : (volume : ℕ) (S T : State) (before during : Situation) → HoldsState volume S before → HoldsState volume T during → during.journal ≡ before.journal → T ≡ S
step_stays volume S T before during at there same =
    stands_one udf exact during.capacity volume before.capacity volume (held before.journal) T S (subst (λ (J : List Event). RecoversTo udf during.capacity volume (held J) T) same there.stands) at.stands

-- how much longer a planned commit makes the journal
grown : (before afterwards : List Event) (blocks : List Block) → afterwards ≡ before ++ written (length before) blocks → length afterwards ≡ length before + length blocks
grown before afterwards blocks is = omega (arith, ap (λ (J : List Event). length J) is, length-append before (written (length before) blocks), length-written (length before) blocks)

some_planned : (capacity volume : ℕ) (before : List Event) (S : State) (request : Request) (afterwards : List Event) → IsCommitPlanned capacity volume before S request afterwards → length before < length afterwards
some_planned capacity volume before S request afterwards p = omega (arith, grown before afterwards (p.blocks ++ p.mark ∷ []) p.journal, length-append p.blocks (p.mark ∷ []))

-- ---- messages in turn

-- what was gathered, the state after it, and the journal
pub record HasGathered (volume : ℕ) (messages : List Message) (S : State) (before : Situation) (answers : List told.Answer) (afterwards : Situation) (all : AllAnswered messages before answers afterwards) : Type 0 where
  pub requests : List Request
  pub group : List Commit
  pub are : AreGathered messages S before answers afterwards all requests group
  pub at : HoldsState volume (after S requests) afterwards
  pub turn : AreInTurn udf before.capacity volume (held before.journal) S requests group
  pub new : AllNew S requests
  pub journal : afterwards.journal ≡ before.journal ++ written (length before.journal) (with_marks (first_there (length requests)) group)

module _ (volume : ℕ) (m : Message) (messages : List Message) (S : State) (before : Situation) (a : told.Answer) (answers : List told.Answer) (afterwards : Situation) (all : AllAnswered (m ∷ messages) before (a ∷ answers) afterwards)
    (size : all.0.capacity ≡ before.capacity) where
  -- after a message that wrote nothing
  none_more : all.0.journal ≡ before.journal → HasGathered volume messages S all.0 answers afterwards all.2 → HasGathered volume (m ∷ messages) S before (a ∷ answers) afterwards all
  none_more same later = record {
    requests = later.requests;
    group = later.group;
    are = inl (same, later.are);
    at = later.at;
    turn = subst (λ (n : ℕ). AreInTurn udf n volume (held before.journal) S later.requests later.group) size
        (subst (λ (J : List Event). AreInTurn udf all.0.capacity volume (held J) S later.requests later.group) same later.turn);
    new = later.new;
    journal = later.journal ∙ ap (λ (J : List Event). J ++ written (length J) (with_marks (first_there (length later.requests)) later.group)) same;
  }

  -- after one that committed a request
  one_more : (request : Request) (p : IsCommitPlanned before.capacity volume before.journal S request all.0.journal) → Once before.journal → Commits S m before a all.0 request (record { blocks = p.blocks; mark = p.mark })
      → HasGathered volume messages (after_one S request) all.0 answers afterwards all.2 → HasGathered volume (m ∷ messages) S before (a ∷ answers) afterwards all
  one_more request p once does later =
      let commit : Commit = record { blocks = p.blocks; mark = p.mark } in
      let blocks : List Block = p.blocks ++ p.mark ∷ [] in
      let there : held all.0.journal ≡ held before.journal ++ blocks = held_write before.journal all.0.journal (length before.journal) blocks once refl p.journal in
      record {
        requests = request ∷ later.requests;
        group = commit ∷ later.group;
        are = inr (request, commit, later.requests, later.group, refl, refl, does, later.are);
        at = later.at;
        turn = (
          p.stands,
          p.planned,
          subst (λ (n : ℕ). AreInTurn udf n volume (held before.journal ++ blocks) (after_one S request) later.requests later.group) size
              (subst (λ (M : Medium). AreInTurn udf all.0.capacity volume M (after_one S request) later.requests later.group) there later.turn),
        );
        new = (does.new, later.new);
        journal = written_after before.journal all.0.journal afterwards.journal (length before.journal) (length all.0.journal) blocks (with_marks (first_there (length later.requests)) later.group) p.journal
            (grown before.journal all.0.journal blocks p.journal) later.journal
            ∙ ap (λ (bs : List Block). before.journal ++ written (length before.journal) bs) (sym (first_cons (length later.requests) commit later.group));
      }

pub gathered : (volume : ℕ) (messages : List Message) (S : State) (before : Situation) (answers : List told.Answer) (afterwards : Situation) → HoldsState volume S before → IsTrue afterwards.honest
    → (all : AllAnswered messages before answers afterwards) → NoneFailed answers → HasGathered volume messages S before answers afterwards all
gathered volume [] S before [] afterwards at honest all sound = record {
  requests = [];
  group = [];
  are = (refl, refl);
  at = subst (λ (s : Situation). HoldsState volume S s) (sym all) at;
  turn = tt;
  new = tt;
  journal = ap (λ (s : Situation). s.journal) all ∙ sym (append-nil before.journal);
}
gathered volume [] S before (a ∷ answers) afterwards at honest all sound = absurd all
gathered volume (m ∷ messages) S before [] afterwards at honest all sound = absurd all
gathered volume (m ∷ messages) S before (a ∷ answers) afterwards at honest all sound =
    let so : IsTrue all.0.honest = answered_honest messages all.0 answers afterwards all.2 honest in
    let (T, step) = calls_are_steps volume m S before a all.0 at (all.1.calls volume S so at) in
    elim (all.1.planned volume S so at sound.0) [
      | inl same ↦ none_more volume m messages S before a answers afterwards all step.capacity same
          (gathered volume messages S all.0 answers afterwards (subst (λ (U : State). HoldsState volume U all.0) (step_stays volume S T before all.0 at step.at same) step.at) honest all.2 sound.1)
      | inr done ↦
          let request = done.0 in
          let p = done.3 in
          let out = step_replied volume m S before a T all.0 request step done.1 done.2 sound.0 (some_planned before.capacity volume before.journal S request all.0.journal p) in
          one_more volume m messages S before a answers afterwards all step.capacity request p at.once (record { asks = done.1; new = done.2; reply = out.0; journal = p.journal })
          (gathered volume messages (after_one S request) all.0 answers afterwards (subst (λ (U : State). HoldsState volume U all.0) out.1 step.at) honest all.2 sound.1)
    ]
