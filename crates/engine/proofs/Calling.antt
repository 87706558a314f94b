-- What an engine makes of its store's calls are steps that are rows of the medium's.
use Rattle.std.proofs.Common.{◌≡◌, ◌⊎◌, inl, inr, ℕ, ◌+◌, ◌-◌, ◌<◌, ◌≤◌, List, [], ◌∷◌, length, take, map, Option, Some, None, refl, sym, ap, ◌∙◌, subst, arith, append-nil}
use Rattle.std.specs.Prelude.{Result, Ok, Err}
use Rattle.std.proofs.lemmas.List.{take_all, length-map, length-take}
use Rattle.std.proofs.lemmas.Option.{same_Some, none-some}
use Rattle.drive.specs.Journal.{Event, held, Once}
use Rattle.recover.specs.declared.fault.StoreFault.{StoreFault}
use Rattle.recover.specs.declared.fault.StoreFault.TheVariants as fault
use Rattle.recover.specs.Faults.{IsShortage}
use Rattle.request.specs.declared.message.Message.{Message}
use Rattle.request.specs.declared.message.Message.TheVariants as message
use Rattle.request.specs.declared.message.Query as asked
use Rattle.request.specs.declared.message.Query.TheVariants as query
use Rattle.request.specs.declared.message.Request as asking
use Rattle.request.specs.declared.answer.Answer.{Answer}
use Rattle.request.specs.declared.answer.Answer.TheVariants as answer
use Rattle.model.specs.Session.{State, Request, ClientRecord, Due, due, due_by, record_of, reply_to, after}
use Rattle.model.specs.Session.Due.{Repeat, Stale, Gap, ClientsFull, New}
use Rattle.durability.specs.Commit.{need}
use Rattle.durability.specs.Formats.{Table_}
use Rattle.durability.specs.Volume.{Medium, RecoversTo}
use Rattle.durability.specs.Step.{Moves}
use Rattle.durability.specs.Journal.{Advances}
use Rattle.durability.specs.Runs.{Delivery, Query, Effect, Row, AnswersNew, AnswersDue, MayFail, told}
use Rattle.durability.specs.Runs as medium
use Rattle.durability.specs.Runs.AnswersNew.{committed, failed as fails, full, no_memory}
use Rattle.durability.proofs.Commits.{moves_front}
use Rattle.udf.specs.Udf.{udf, spelled_length}
use Rattle.udf.specs.Said.{model_record}
use Rattle.store.specs.declared.store.Store.{Store}
use Rattle.lookup.specs.Asked.{model_request, said_query}
use Rattle.store.specs.Calls.{IsOpenOn, IsStillOpenOn, Applies, IsCommitDone, IsFailed, IsLeftUnwritten, Gets, Lists, Reads, Stats}
use Rattle.engine.specs.Situation.{Situation, IsOpen, with_store}
use Rattle.engine.specs.Answered.{due_of}
use Rattle.engine.specs.Said.{model_message, model_answer}
use Rattle.engine.specs.Steps.{HoldsState, IsStep}
use Rattle.engine.specs.Called.{failed, refused, applied, get_answer, list_answer, read_answer, stat_answer, get_refused, list_refused, read_refused, stat_refused, IsShort, Uses, IsDealt, IsQueried, Calls, CallsAreSteps, RestartsAreSteps}

-- ---- where nothing is written

abbrev nothing : Effect
nothing = record { done = []; blocks = 0 }

pub stay : (capacity volume : ℕ) (J : List Event) (S : State) → Once J → RecoversTo udf capacity volume (held J) S → Advances udf capacity volume J S J S
stay capacity volume J S once stands = record {
  front = take_all (length J) J (omega arith);
  once = once;
  moves = subst (λ (M : Medium). Moves udf capacity volume (held J) S M S) (append-nil (held J)) (moves_front udf capacity volume (held J) [] S tt stands);
}

stands_there : (s t : Situation) (volume : ℕ) (S : State) → t.journal ≡ s.journal → t.capacity ≡ s.capacity → RecoversTo udf s.capacity volume (held s.journal) S → RecoversTo udf t.capacity volume (held t.journal) S
stands_there s t volume S journal capacity stands =
    subst (λ (J : List Event). RecoversTo udf t.capacity volume (held J) S) (sym journal) (subst (λ (c : ℕ). RecoversTo udf c volume (held s.journal) S) (sym capacity) stands)

-- a journal goes on from its beginning
pub front_grows : (J K : List Event) → take (length J) K ≡ J → length J ≤ length K
front_grows J K front = omega (arith, ap (λ (L : List Event). length L) front, length-take (length J) K)

-- the one store that is kept
kept_knows : (volume : ℕ) (S : State) (s : Situation) (kept : Store) → s.store ≡ Some kept → IsStillOpenOn s.capacity volume s.journal S kept → (store : Store) → IsOpen s store → IsOpenOn s.capacity volume s.journal S store
kept_knows volume S s kept there still store here = subst (λ (x : Store). IsStillOpenOn s.capacity volume s.journal S x) (same_Some kept store (sym there ∙ here.0)) still here.1

pub none_knows : (volume : ℕ) (S : State) (s : Situation) → s.store ≡ None → (store : Store) → IsOpen s store → IsOpenOn s.capacity volume s.journal S store
none_knows volume S s none store here = absurd (none-some store (sym none ∙ here.0))

module _ (volume : ℕ) where
  quiet : (d : Delivery) (a : Option medium.Answer) (S : State) (before afterwards : Situation) → Row (need spelled_length) S (length before.journal) volume d a nothing
      → Once before.journal → RecoversTo udf before.capacity volume (held before.journal) S → afterwards.journal ≡ before.journal → afterwards.capacity ≡ before.capacity
      → ((store : Store) → IsOpen afterwards store → IsOpenOn afterwards.capacity volume afterwards.journal S store) → IsStep volume d S before a S afterwards
  quiet d a S before afterwards row once stands journal capacity knows = record {
    effect = nothing;
    row = row;
    blocks = omega (arith, ap (λ (J : List Event). length J) journal);
    state = refl;
    advances = subst (λ (J : List Event). Advances udf before.capacity volume before.journal S J S) (sym journal) (stay before.capacity volume before.journal S once stands);
    capacity = capacity;
    at = record { once = subst Once (sym journal) once; stands = stands_there before afterwards volume S journal capacity stands; knows = knows };
  }

  -- a step from where nothing was written since
  step_from : (d : Delivery) (a : Option medium.Answer) (S S' : State) (before during afterwards : Situation) → during.journal ≡ before.journal → during.capacity ≡ before.capacity
      → IsStep volume d S during a S' afterwards → IsStep volume d S before a S' afterwards
  step_from d a S S' before during afterwards journal capacity step = record {
    effect = step.effect;
    row = subst (λ (J : List Event). Row (need spelled_length) S (length J) volume d a step.effect) journal step.row;
    blocks = subst (λ (J : List Event). length afterwards.journal ≡ length J + step.effect.blocks) journal step.blocks;
    state = step.state;
    advances = subst (λ (c : ℕ). Advances udf c volume before.journal S afterwards.journal S') capacity (subst (λ (J : List Event). Advances udf during.capacity volume J S afterwards.journal S') journal step.advances);
    capacity = step.capacity ∙ capacity;
    at = step.at;
  }

  -- ---- shortages

  may_fail : (refuse : StoreFault → Answer) → refuse fault.Device ≡ answer.Fault → refuse fault.Memory ≡ answer.Memory → (refusal : StoreFault) (a : Answer) → IsShortage refusal → a ≡ refuse refusal → MayFail (model_answer a)
  may_fail refuse device memory refusal a (inl e) is = inl (ap model_answer (is ∙ ap refuse e ∙ device))
  may_fail refuse device memory refusal a (inr e) is = inr (ap model_answer (is ∙ ap refuse e ∙ memory))

  short_due : (S : State) (mark capacity most : ℕ) (r : Request) (d : Due) (a : medium.Answer) → MayFail a → AnswersDue S mark capacity most r d a nothing
  short_due S mark capacity most r (Repeat reply) a may = (inr may, (refl, refl))
  short_due S mark capacity most r (Stale latest) a may = (inr may, (refl, refl))
  short_due S mark capacity most r (Gap latest) a may = (inr may, (refl, refl))
  short_due S mark capacity most r ClientsFull a may = (inr may, (refl, refl))
  short_due S mark capacity most r New a (inl e) = subst (λ (x : medium.Answer). AnswersNew S mark capacity most r x nothing) (sym e) (fails nothing (inl refl) (omega arith) (λ some. absurd (omega arith)))
  short_due S mark capacity most r New a (inr e) = subst (λ (x : medium.Answer). AnswersNew S mark capacity most r x nothing) (sym e) (no_memory nothing (refl, refl))

  short_step : (d : Delivery) (S : State) (before : Situation) (a : Answer) (afterwards : Situation) → HoldsState volume S before → IsShort before a afterwards → Row (need spelled_length) S (length before.journal) volume d (Some (model_answer a)) nothing
      → (S' : State) × IsStep volume d S before (Some (model_answer a)) S' afterwards
  short_step d S before a afterwards at short row = (S, quiet d (Some (model_answer a)) S before afterwards row at.once at.stands short.journal short.capacity (none_knows volume S afterwards short.store))

  short_fails : (before : Situation) (a : Answer) (afterwards : Situation) → IsShort before a afterwards → MayFail (model_answer a)
  short_fails before a afterwards short = may_fail failed refl refl short.refusal a short.shortage short.told

  -- ---- queries

  get_told : (S : State) (path : _) (result : Result (List ℕ) StoreFault) (a : Answer) → Gets S path result → a ≡ get_answer result → (model_answer a ≡ told S.tree (medium.Query.Get path)) ⊎ MayFail (model_answer a)
  get_told S path (Ok bytes) a gets is = inl (ap model_answer is ∙ sym gets)
  get_told S path (Err refusal) a (inl short) is = inr (may_fail get_refused refl refl refusal a short is)
  get_told S path (Err refusal) a (inr (inl (e, shows))) is = inl (ap model_answer (is ∙ ap get_refused e) ∙ sym shows)
  get_told S path (Err refusal) a (inr (inr (inl (e, shows)))) is = inl (ap model_answer (is ∙ ap get_refused e) ∙ sym shows)
  get_told S path (Err refusal) a (inr (inr (inr (e, shows)))) is = inl (ap model_answer (is ∙ ap get_refused e) ∙ sym shows)

  read_told : (S : State) (path : _) (offset count : ℕ) (result : Result (List ℕ) StoreFault) (a : Answer) → Reads S path offset count result → a ≡ read_answer result → (model_answer a ≡ told S.tree (medium.Query.Read path offset count)) ⊎ MayFail (model_answer a)
  read_told S path offset count (Ok bytes) a reads is = inl (ap model_answer is ∙ sym reads)
  read_told S path offset count (Err refusal) a (inl short) is = inr (may_fail read_refused refl refl refusal a short is)
  read_told S path offset count (Err refusal) a (inr (inl (e, shows))) is = inl (ap model_answer (is ∙ ap read_refused e) ∙ sym shows)
  read_told S path offset count (Err refusal) a (inr (inr (e, shows))) is = inl (ap model_answer (is ∙ ap read_refused e) ∙ sym shows)

  list_told : (S : State) (path : _) (result : Result _ StoreFault) (a : Answer) → Lists S path result → a ≡ list_answer result → (model_answer a ≡ told S.tree (medium.Query.List_ path)) ⊎ MayFail (model_answer a)
  list_told S path (Ok names) a lists is = inl (ap model_answer is ∙ sym lists)
  list_told S path (Err refusal) a (inl short) is = inr (may_fail list_refused refl refl refusal a short is)
  list_told S path (Err refusal) a (inr (inl (e, shows))) is = inl (ap model_answer (is ∙ ap list_refused e) ∙ sym shows)
  list_told S path (Err refusal) a (inr (inr (e, shows))) is = inl (ap model_answer (is ∙ ap list_refused e) ∙ sym shows)

  stat_told : (S : State) (path : _) (result : Result _ StoreFault) (a : Answer) → Stats S path result → a ≡ stat_answer result → (model_answer a ≡ told S.tree (medium.Query.Stat path)) ⊎ MayFail (model_answer a)
  stat_told S path (Ok status) a stats is = inl (ap model_answer is ∙ sym stats)
  stat_told S path (Err refusal) a (inl short) is = inr (may_fail stat_refused refl refl refusal a short is)
  stat_told S path (Err refusal) a (inr (e, shows)) is = inl (ap model_answer (is ∙ ap stat_refused e) ∙ sym shows)

  query_told : (S : State) (q : asked.Query) (a : Answer) → IsQueried S q a → (model_answer a ≡ told S.tree (said_query q)) ⊎ MayFail (model_answer a)
  query_told S (query.Get path) a (result, gets, is) = get_told S path result a gets is
  query_told S (query.List path) a (result, lists, is) = list_told S path result a lists is
  query_told S (query.Stat path) a (result, stats, is) = stat_told S path result a stats is
  query_told S (query.Read path offset count) a (result, reads, is) = read_told S path offset count result a reads is

  -- ---- what is due

  pub same_due : (S : State) (s : Situation) (store : Store) (client number : ℕ) → IsOpenOn s.capacity volume s.journal S store → due_of store client number ≡ due S client number
  same_due S s store client number knows =
      let records : map model_record store.vat.sessions.records.items ≡ S.records = ap (λ (b : Table_). b.records) knows.table ∙ knows.stands.tells.records in
      let count : length store.vat.sessions.records.items ≡ length S.records = sym (length-map store.vat.sessions.records.items model_record) ∙ ap (λ (xs : List ClientRecord). length xs) records in
      λ i. due_by number (count i) (record_of client (records i))

  -- ---- requests

  module _ (S : State) (r : Request) (during : Situation) (a : Answer) (afterwards : Situation) (new : due S r.client r.number ≡ New) where
    abbrev delivery : Delivery
    delivery = medium.Delivery.Delivered (medium.Message.Asks r)

    abbrev IsNew : Effect → Type 0
    IsNew effect = AnswersNew S (length during.journal) volume (need spelled_length S r) r (model_answer a) effect

    new_row : (effect : Effect) → IsNew effect → Row (need spelled_length) S (length during.journal) volume delivery (Some (model_answer a)) effect
    new_row effect row = subst (λ (d : Due). AnswersDue S (length during.journal) volume (need spelled_length S r) r d (model_answer a) effect) (sym new) row

    -- the journal went on
    moved : (done : List Request) (row : IsNew (record { done = done; blocks = length afterwards.journal - length during.journal })) → length during.journal ≤ length afterwards.journal
        → Advances udf during.capacity volume during.journal S afterwards.journal (after S done) → afterwards.capacity ≡ during.capacity
        → ((store : Store) → IsOpen afterwards store → IsOpenOn afterwards.capacity volume afterwards.journal (after S done) store) → IsStep volume delivery S during (Some (model_answer a)) (after S done) afterwards
    moved done row grows advances capacity knows = record {
      effect = record { done = done; blocks = length afterwards.journal - length during.journal };
      row = new_row (record { done = done; blocks = length afterwards.journal - length during.journal }) row;
      blocks = omega (arith, grows);
      state = refl;
      advances = advances;
      capacity = capacity;
      at = record { once = advances.once; stands = subst (λ (c : ℕ). RecoversTo udf c volume (held afterwards.journal) (after S done)) (sym capacity) advances.moves.ends; knows = knows };
    }

    module _ (kept : Store) (store : afterwards.store ≡ Some kept) (capacity : afterwards.capacity ≡ during.capacity) where
      knows_kept : (T : State) → IsStillOpenOn during.capacity volume afterwards.journal T kept → (x : Store) → IsOpen afterwards x → IsOpenOn afterwards.capacity volume afterwards.journal T x
      knows_kept T still = kept_knows volume T afterwards kept store (subst (λ (c : ℕ). IsStillOpenOn c volume afterwards.journal T kept) (sym capacity) still)

      when_done : (reply : _) → IsCommitDone during.capacity volume during.journal S r reply afterwards.journal kept → a ≡ answer.Reply reply → (S' : State) × IsStep volume delivery S during (Some (model_answer a)) S' afterwards
      when_done reply d is =
          let effect : Effect = record { done = r ∷ []; blocks = length afterwards.journal - length during.journal } in
          let told_is : model_answer a ≡ medium.Answer.Replied (reply_to S r) = ap model_answer is ∙ ap (λ x. medium.Answer.Replied x) d.reply_is in
          let row : IsNew (record { done = r ∷ []; blocks = length afterwards.journal - length during.journal }) =
          subst (λ (x : medium.Answer). AnswersNew S (length during.journal) volume (need spelled_length S r) r x (record { done = r ∷ []; blocks = length afterwards.journal - length during.journal })) (sym told_is)
          (committed (record { done = r ∷ []; blocks = length afterwards.journal - length during.journal }) refl (omega (arith, d.some)) (omega (arith, d.few)) d.room) in
          (after S (r ∷ []), moved (r ∷ []) row (omega (arith, d.some)) d.advances capacity (knows_kept (after S (r ∷ [])) d.knows))

      when_failed : IsFailed during.capacity volume during.journal S r afterwards.journal kept → a ≡ answer.Fault → length during.journal ≤ length afterwards.journal → (S' : State) × IsStep volume delivery S during (Some (model_answer a)) S' afterwards
      when_failed f is grows =
          let told_is : model_answer a ≡ medium.Answer.Fault = ap model_answer is in
          let row : IsNew (record { done = f.done; blocks = length afterwards.journal - length during.journal }) =
          subst (λ (x : medium.Answer). AnswersNew S (length during.journal) volume (need spelled_length S r) r x (record { done = f.done; blocks = length afterwards.journal - length during.journal })) (sym told_is)
          (fails (record { done = f.done; blocks = length afterwards.journal - length during.journal }) (whether f.whether) (omega (arith, f.few)) (λ some. f.room (omega (arith, some)))) in
          (after S f.done, moved f.done row grows f.advances capacity (knows_kept (after S f.done) f.knows))
        where
          whether : (f.done ≡ []) ⊎ ((f.done ≡ r ∷ []) × (length during.journal < length afterwards.journal)) → (f.done ≡ []) ⊎ ((f.done ≡ r ∷ []) × (1 ≤ length afterwards.journal - length during.journal))
          whether (inl none) = inl none
          whether (inr (one, some)) = inr (one, omega (arith, some))

      when_left : Once during.journal → RecoversTo udf during.capacity volume (held during.journal) S → IsLeftUnwritten during.capacity volume during.journal S afterwards.journal kept → IsNew nothing → (S' : State) × IsStep volume delivery S during (Some (model_answer a)) S' afterwards
      when_left once stands left row =
          (S, quiet delivery (Some (model_answer a)) S during afterwards (new_row nothing row) once stands left.journal capacity (knows_kept S left.knows))

      as_new : (x : medium.Answer) (effect : Effect) → model_answer a ≡ x → AnswersNew S (length during.journal) volume (need spelled_length S r) r x effect → IsNew effect
      as_new x effect e row = subst (λ (y : medium.Answer). AnswersNew S (length during.journal) volume (need spelled_length S r) r y effect) (sym e) row

      when_applied : Once during.journal → RecoversTo udf during.capacity volume (held during.journal) S → (result : _) → Applies during.capacity volume during.journal S r result afterwards.journal kept → a ≡ applied result
          → (S' : State) × IsStep volume delivery S during (Some (model_answer a)) S' afterwards
      when_applied once stands (Ok reply) d is = when_done reply d is
      when_applied once stands (Err refusal) (inl (e, f)) is = when_failed f (is ∙ ap refused e) (front_grows during.journal afterwards.journal f.advances.front)
      when_applied once stands (Err refusal) (inr (inl (e, left))) is = when_left once stands left (as_new medium.Answer.Memory nothing (ap model_answer (is ∙ ap refused e)) (no_memory nothing (refl, refl)))
      when_applied once stands (Err refusal) (inr (inr (e, left, over))) is = when_left once stands left (as_new medium.Answer.Full nothing (ap model_answer (is ∙ ap refused e)) (full nothing (refl, refl) over))

  -- a request for which another thing is due
  settled : (S : State) (r : Request) (during : Situation) (store : Store) (a : Answer) (afterwards : Situation) → IsOpenOn during.capacity volume during.journal S store → afterwards ≡ with_store (Some store) during
      → AnswersDue S (length during.journal) volume (need spelled_length S r) r (due S r.client r.number) (model_answer a) nothing
      → IsStep volume (medium.Delivery.Delivered (medium.Message.Asks r)) S during (Some (model_answer a)) S afterwards
  settled S r during store a afterwards knows same row =
      subst (λ (s : Situation). IsStep volume (medium.Delivery.Delivered (medium.Message.Asks r)) S during (Some (model_answer a)) S s) (sym same)
      (quiet (medium.Delivery.Delivered (medium.Message.Asks r)) (Some (model_answer a)) S during (with_store (Some store) during) row knows.once knows.stands refl refl
      (kept_knows volume S (with_store (Some store) during) store refl (λ here. knows)))

  due_row : (S : State) (r : Request) (during : Situation) (a : Answer) (d : Due) → d ≡ due S r.client r.number → AnswersDue S (length during.journal) volume (need spelled_length S r) r d (model_answer a) nothing
      → AnswersDue S (length during.journal) volume (need spelled_length S r) r (due S r.client r.number) (model_answer a) nothing
  due_row S r during a d e row = subst (λ (x : Due). AnswersDue S (length during.journal) volume (need spelled_length S r) r x (model_answer a) nothing) e row

  dealt : (d : Due) (S : State) (r : asking.Request) (during : Situation) (store : Store) (a : Answer) (afterwards : Situation) → d ≡ due S r.client r.number → IsOpenOn during.capacity volume during.journal S store
      → IsDealt d volume S r during store a afterwards → (S' : State) × IsStep volume (medium.Delivery.Delivered (medium.Message.Asks (model_request r))) S during (Some (model_answer a)) S' afterwards
  dealt (Repeat kept) S r during store a afterwards e knows (reply, is, same, stays) =
      (S, settled S (model_request r) during store a afterwards knows stays (due_row S (model_request r) during a (Repeat kept) e (inl (ap model_answer is ∙ ap (λ x. medium.Answer.Replied x) same), (refl, refl))))
  dealt (Stale latest) S r during store a afterwards e knows (is, stays) = (S, settled S (model_request r) during store a afterwards knows stays (due_row S (model_request r) during a (Stale latest) e (inl (ap model_answer is), (refl, refl))))
  dealt (Gap latest) S r during store a afterwards e knows (is, stays) = (S, settled S (model_request r) during store a afterwards knows stays (due_row S (model_request r) during a (Gap latest) e (inl (ap model_answer is), (refl, refl))))
  dealt ClientsFull S r during store a afterwards e knows (is, stays) = (S, settled S (model_request r) during store a afterwards knows stays (due_row S (model_request r) during a ClientsFull e (inl (ap model_answer is), (refl, refl))))
  dealt New S r during store a afterwards e knows done = when_applied S (model_request r) during a afterwards (sym e) done.kept done.store done.capacity knows.once knows.stands done.result done.applies done.told

  -- ---- messages

  use_step : (d : Delivery) (S : State) (before during : Situation) (store : Store) (a : Option medium.Answer) (afterwards : Situation) → Uses volume S before during store
      → (S' : State) × IsStep volume d S during a S' afterwards → (S' : State) × IsStep volume d S before a S' afterwards
  use_step d S before during store a afterwards uses (S', step) = (S', step_from d a S S' before during afterwards uses.journal uses.capacity step)

  calls_step : (m : Message) (S : State) (before : Situation) (a : Answer) (afterwards : Situation) → HoldsState volume S before → Calls volume m S before a afterwards
      → (S' : State) × IsStep volume (medium.Delivery.Delivered (model_message m)) S before (Some (model_answer a)) S' afterwards
  calls_step (message.Malformed cause) S before a afterwards at (is, same) = (
    S,
    subst (λ (s : Situation). IsStep volume (medium.Delivery.Delivered (model_message (message.Malformed cause))) S before (Some (model_answer a)) S s) (sym same)
        (quiet _ (Some (model_answer a)) S before before (inl (ap model_answer is), (refl, refl)) at.once at.stands refl refl at.knows),
  )
  calls_step message.NoMemory S before a afterwards at (is, same) = (
    S,
    subst (λ (s : Situation). IsStep volume (medium.Delivery.Delivered medium.Message.NoMemory) S before (Some (model_answer a)) S s) (sym same)
        (quiet _ (Some (model_answer a)) S before before (ap model_answer is, (refl, refl)) at.once at.stands refl refl at.knows),
  )
  calls_step (message.Query q) S before a afterwards at (inl short) = short_step _ S before a afterwards at short (inr (short_fails before a afterwards short), (refl, refl))
  calls_step (message.Query q) S before a afterwards at (inr (during, store, uses, read)) =
      use_step _ S before during store _ afterwards uses (
        S,
        quiet (medium.Delivery.Delivered (medium.Message.Queries (said_query q))) (Some (model_answer a)) S during afterwards (query_told S q a read.result, (refl, refl)) uses.knows.once uses.knows.stands read.journal read.capacity
            (kept_knows volume S afterwards read.kept read.store read.knows),
      )
  calls_step (message.Request r) S before a afterwards at (inl short) =
      short_step _ S before a afterwards at short
      (short_due S (length before.journal) volume (need spelled_length S (model_request r)) (model_request r) (due S r.client r.number) (model_answer a) (short_fails before a afterwards short))
  calls_step (message.Request r) S before a afterwards at (inr (during, store, uses, done)) =
      use_step _ S before during store _ afterwards uses
      (dealt (due_of store r.client r.number) S r during store a afterwards (same_due S during store r.client r.number uses.knows) uses.knows done)

pub calls_are_steps : CallsAreSteps
calls_are_steps volume m S before a afterwards at calls = calls_step volume m S before a afterwards at calls

pub restarts_are_steps : RestartsAreSteps
restarts_are_steps volume S before at =
    quiet volume medium.Delivery.Restart None S before (with_store None before) (refl, refl) at.once at.stands refl refl (none_knows volume S (with_store None before) refl)
