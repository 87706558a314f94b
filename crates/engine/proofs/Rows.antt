-- A message that needed the store was answered.
use Rattle.std.proofs.Common.{◌≡◌, ℕ, ◌+◌, ◌≤◌, ◌++◌, List, Option, Bool, IsTrue, sym, ap, subst, ◌∙◌, inl, inr, arith}
use Rattle.drive.specs.Journal.{Event}
use Rattle.model.specs.Session.{State, Due}
use Rattle.model.specs.Session.Due.{New}
use Rattle.drive.specs.Reads.{CountsFailures}
use Rattle.request.specs.declared.answer.Answer.{Answer}
use Rattle.request.specs.declared.message.Message.{Message}
use Rattle.request.specs.declared.message.Message.TheVariants as message
use Rattle.request.specs.declared.message.Query.{Query}
use Rattle.request.specs.declared.message.Request.{Request}
use Rattle.store.specs.declared.store.Store.{Store}
use Rattle.store.specs.Calls.{IsOpenOn}
use Rattle.engine.specs.Situation.{Situation, AddsBlocks, situation}
use Rattle.engine.specs.Answered.{Answered, due_of, IsCommitted, IsAnsweredAsDue, OpensStore, MessageRow, faults}
use Rattle.engine.specs.Called.{Calls, IsApplied, IsDealt, IsRead, IsShort, Uses}

-- the same store beside a drive that was not called
pub same_situation : {X : Type 0} (j : X → List Event) (f c : X → ℕ) (h : X → Bool) (w : X → List (List (List ℕ))) (s t : Option Store) (d e : X)
    → s ≡ t → d ≡ e → situation s (j d) (f d) (c d) (h d) (w d) ≡ situation t (j e) (f e) (c e) (h e) (w e)
same_situation j f c h w s t d e p q =
    ap (λ (x : Option Store). situation x (j d) (f d) (c d) (h d) (w d)) p ∙ ap (λ x. situation t (j x) (f x) (c x) (h x) (w x)) q

-- The store was opened, and did not change the medium.
pub record Opened (before during : Situation) (store : Store) : Type 0 where
  pub opens : OpensStore before during store
  pub capacity : during.capacity ≡ before.capacity
  pub honest : IsTrue during.honest → IsTrue before.honest
  pub failures : CountsFailures 0 before.failures during.failures

follows_after : (before during after : Situation) (store : Store) → Opened before during store → AddsBlocks during after → AddsBlocks before after
follows_after before during after store o f = record {
  ready = f.ready;
  front = (f.front.0, f.front.1 ∙ ap (λ (J : List Event). J ++ f.front.0) o.opens.journal);
  capacity = f.capacity ∙ o.capacity;
  honest = λ h. o.honest (f.honest h);
}

counts_after : (n f0 f1 f2 : ℕ) → CountsFailures 0 f0 f1 → CountsFailures n f1 f2 → CountsFailures n f0 f2
counts_after n f0 f1 f2 a b = λ lt. let k : f1 + n ≤ f2 = b lt in let l : f0 + 0 ≤ f1 = a (omega (arith, k, lt)) in omega (arith, k, l)

pub request_answered : (asked : Message) (request : Request) (before during after : Situation) (store : Store) (a : Answer) → asked ≡ message.Request request → Opened before during store
    → IsAnsweredAsDue (due_of store request.client request.number) during a after → AddsBlocks during after → CountsFailures (faults a) during.failures after.failures
    → Answered asked before a after
request_answered asked request before during after store a e o due follows failures = record {
  follows = follows_after before during after store o follows;
  failures = counts_after (faults a) before.failures during.failures after.failures o.failures failures;
  row = subst (λ (m : Message). MessageRow m before a after) (sym e) (inr (during, store, o.opens, due));
}

-- what holds of a new request, where that is what is due
pub committed_due : (due : Due) (before : Situation) (a : Answer) (after : Situation) → New ≡ due → IsCommitted before a after → IsAnsweredAsDue due before a after
committed_due due before a after e h = subst (λ (d : Due). IsAnsweredAsDue d before a after) e h

pub dealt_new : (due : Due) (volume : ℕ) (S : State) (request : Request) (during : Situation) (store : Store) (a : Answer) (afterwards : Situation) → New ≡ due
    → IsApplied volume S request during a afterwards → IsDealt due volume S request during store a afterwards
dealt_new due volume S request during store a afterwards e h = subst (λ (d : Due). IsDealt d volume S request during store a afterwards) e h

-- ---- at the recovered state

-- what a store knows, beside a drive that shows the same
pub knows_there : (capacity later volume : ℕ) (J K : List Event) (S : State) (store : Store) → later ≡ capacity → K ≡ J → IsOpenOn capacity volume J S store → IsOpenOn later volume K S store
knows_there capacity later volume J K S store size journal knows =
    subst (λ (c : ℕ). IsOpenOn c volume K S store) (sym size) (subst (λ (L : List Event). IsOpenOn capacity volume L S store) (sym journal) knows)

module _ (volume : ℕ) (S : State) where
  pub request_calls : (asked : Message) (request : Request) (before during afterwards : Situation) (store : Store) (a : Answer) → asked ≡ message.Request request → Uses volume S before during store
      → IsDealt (due_of store request.client request.number) volume S request during store a afterwards → Calls volume asked S before a afterwards
  request_calls asked request before during afterwards store a e uses dealt = subst (λ (m : Message). Calls volume m S before a afterwards) (sym e) (inr (during, store, uses, dealt))

  pub request_short : (asked : Message) (request : Request) (before : Situation) (a : Answer) (afterwards : Situation) → asked ≡ message.Request request → IsShort before a afterwards → Calls volume asked S before a afterwards
  request_short asked request before a afterwards e short = subst (λ (m : Message). Calls volume m S before a afterwards) (sym e) (inl short)

  pub query_calls : (asked : Message) (query : Query) (before during afterwards : Situation) (store : Store) (a : Answer) → asked ≡ message.Query query → Uses volume S before during store
      → IsRead volume S query during a afterwards → Calls volume asked S before a afterwards
  query_calls asked query before during afterwards store a e uses read = subst (λ (m : Message). Calls volume m S before a afterwards) (sym e) (inr (during, store, uses, read))

  pub query_short : (asked : Message) (query : Query) (before : Situation) (a : Answer) (afterwards : Situation) → asked ≡ message.Query query → IsShort before a afterwards → Calls volume asked S before a afterwards
  query_short asked query before a afterwards e short = subst (λ (m : Message). Calls volume m S before a afterwards) (sym e) (inl short)
