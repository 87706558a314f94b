-- What a commit says of a plan that it writes.
use Rattle.std.proofs.Common.{◌≡◌, ℕ, ◌+◌, ◌++◌, List, false, Result, Ok, Err, inr, ap, sym, subst, ◌∙◌}
use Rattle.std.proofs.lemmas.Bool.{false≢true}
use Rattle.std.specs.Prelude.{IfOk, IfErr, OnOk, OnErr, Option, Some}
use Rattle.std.specs.Option.{SomeIff}
use Rattle.drive.specs.Journal.{Event, next_of, written, AddsPrefix}
use Rattle.recover.specs.declared.fault.StoreFault.{StoreFault}
use Rattle.request.specs.Numbers.{code_number}
use Rattle.request.specs.declared.answer.Reply.{Reply}
use Rattle.request.specs.declared.message.Request.{Request}
use Rattle.planning.specs.declared.change.Change.{Change}
use Rattle.planning.specs.declared.plan.LastTable.{LastTable}
use Rattle.planning.specs.declared.plan.Plan.{Plan}
use Rattle.store.specs.declared.store.Store.{Store}
use Rattle.vat.specs.Table.{view}
use Rattle.vat.specs.declared.table.Vat.{Vat}
use Rattle.table_update.specs.NextTable.{next_table}
use Rattle.planning.specs.Entered.{IsPlanAfter}
use Rattle.planning.specs.Plan.{IsPlan, plan_blocks, plan_written}
use Rattle.planning.specs.Writings.{change_writings}
use Rattle.store.specs.Putting.{BreaksPlan, IsCommitRefused, IsPlanOf, KeepsPlan, WritesPlan}

pub if_ok : {T E : Type 0} (r : Result T E) (P Q : T → Type 0) → ((x : T) → P x → Q x) → IfOk r P → IfOk r Q
if_ok (Ok x) P Q f h = f x h
if_ok (Err e) P Q f h = h

-- what is planned at a request's moment
pub makes_plan : (store : Store) (last : LastTable) (request : Request) (change : Change) (plan : Plan) (moment : ℕ) → moment ≡ request.moment
    → IsPlanAfter last request change moment plan → last.vat_icb_address ≡ store.vat_icb_address → last.vat.now ≡ store.vat → IsPlanOf store request change plan
makes_plan store last request change plan moment at makes address vat = record {
  moment = makes.moment_is ∙ at;
  code = makes.code;
  commit = makes.commit ∙ ap (λ (v : Vat). v.sessions.commits + 1) vat;
  writings = λ medium. makes.writings medium ∙ ap (λ (m : ℕ). change_writings medium m change) at;
  kept = makes.kept;
  table = makes.table ∙ (λ i. next_table (address i) request.client request.number (code_number change.code) change.made (plan_written plan) change.removed (view (vat i)));
}

-- on the journal and the capacity before the change was looked for
pub plan_is : (J K : List Event) (m n : ℕ) (plan : Plan) → K ≡ J → n ≡ m → IsPlan (next_of K) n plan → IsPlan (next_of J) m plan
plan_is J K m n plan journal capacity is = subst (λ (x : ℕ). IsPlan (next_of J) x plan) capacity (subst (λ (L : List Event). IsPlan (next_of L) n plan) journal is)

pub writes_plan : {E : Type 0} (r : Result Reply E) (K J J' : List Event) (before : Store) (request : Request) (capacity : ℕ) (change : Change) (plan : Plan) (old store : Store) → K ≡ J → IsPlanOf before request change plan → IsPlan (next_of J) capacity plan
    → IfOk r (KeepsPlan plan K J' old store) → IfOk r (WritesPlan before request capacity J J' store)
writes_plan (Ok reply) K J J' before request capacity change plan old store same makes is done = record {
  change = change;
  plan = plan;
  is = is;
  makes = makes;
  reply_is = done.reply_is;
  at = done.at;
  vat = done.vat;
  journal = done.journal ∙ ap (λ (L : List Event). L ++ written (next_of L) (plan_blocks plan)) same;
}
writes_plan (Err e) K J J' before request capacity change plan old store same makes is done = done

pub has_failed : {T : Type 0} (r : Result T StoreFault) (K J J' : List Event) (before : Store) (request : Request) (capacity : ℕ) (change : Change) (plan : Plan) (old store : Store) → K ≡ J → IsPlanOf before request change plan → IsPlan (next_of J) capacity plan
    → IfErr r (BreaksPlan plan K J' old store) → old.vat_icb_address ≡ before.vat_icb_address → old.vat ≡ before.vat → old.capacity ≡ before.capacity → IfErr r (IsCommitRefused before request capacity J J' store)
has_failed (Ok x) K J J' before request capacity change plan old store same makes is failed at vat volume = tt
has_failed (Err e) K J J' before request capacity change plan old store same makes is failed at vat volume = inr (record {
  device = failed.device;
  front = record { change = change; plan = plan; is = is; makes = makes; front = subst (λ (L : List Event). AddsPrefix L (next_of L) (plan_blocks plan) J') same failed.front };
  stopped = failed.stopped;
  at = failed.at ∙ at;
  vat = failed.vat ∙ vat;
  volume = failed.volume ∙ volume;
})

-- a store goes on where all was written
pub goes_on : {E : Type 0} (r : Result Reply E) (K J' : List Event) (before : Store) (plan : Plan) (store : Store) → IfOk r (KeepsPlan plan K J' before store) → OnOk r (store.is_stopped ≡ false)
goes_on (Ok x) K J' before plan store done = done.going
goes_on (Err e) K J' before plan store done = tt

-- a store that is open after this was not refused
pub open_is_ok : {T : Type 0} (r : Result T StoreFault) (K J' : List Event) (before : Store) (plan : Plan) (store : Store) (P : Type 0) → IfErr r (BreaksPlan plan K J' before store) → OnErr r (store.is_stopped ≡ false → P)
open_is_ok (Ok x) K J' before plan store P failed = tt
open_is_ok (Err e) K J' before plan store P failed = λ going. absurd (false≢true (sym going ∙ failed.stopped))

-- what was unwrapped
pub some_is : (o : Option ℕ) (x m : ℕ) (P : Type 0) → o ≡ Some x → SomeIff o P m → x ≡ m
some_is o x m P e s = (subst (λ (p : Option ℕ). SomeIff p P m) e s).1
