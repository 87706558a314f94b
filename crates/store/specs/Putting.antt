-- What a commit writes to a drive.
use Rattle.std.specs.Prelude.{◌≡◌, ◌⊎◌, ℕ, ◌+◌, false, true, List, ◌++◌, IfSome}
use Rattle.drive.specs.Journal.{Event, next_of, written, AddsPrefix}
use Rattle.durability.specs.Volume.{Medium}
use Rattle.recover.specs.declared.fault.StoreFault.{StoreFault}
use Rattle.recover.specs.declared.fault.StoreFault.TheVariants.{Device}
use Rattle.request.specs.Numbers.{code_number}
use Rattle.request.specs.declared.answer.Reply.{Reply}
use Rattle.request.specs.declared.message.Request.{Request}
use Rattle.vat.specs.Table.{view}
use Rattle.table_update.specs.NextTable.{next_table}
use Rattle.planning.specs.Plan.{IsPlan, plan_blocks, plan_writings, plan_written}
use Rattle.planning.specs.Writings.{AreKeptOn, change_writings}
use Rattle.planning.specs.declared.change.Change.{Change}
use Rattle.planning.specs.declared.plan.Plan.{Plan}
use Rattle.store.specs.declared.store.Store.{Store}

-- A plan of a change that a request makes at a store: it writes what the change says, and its table is the next one.
pub record IsPlanOf (store : Store) (request : Request) (change : Change) (plan : Plan) : Type 0 where
  pub moment : plan.moment ≡ request.moment
  pub code : plan.reply.code ≡ change.code
  pub commit : plan.reply.commit ≡ store.vat.sessions.commits + 1
  pub writings : (medium : Medium) → plan_writings medium plan ≡ change_writings medium request.moment change
  pub kept : (medium : Medium) → IfSome change.file (AreKeptOn medium) → IfSome plan.file (λ f. AreKeptOn medium f.file)
  pub table : view plan.table.vat ≡ next_table store.vat_icb_address request.client request.number (code_number change.code) change.made (plan_written plan) change.removed (view store.vat)

-- All blocks of a plan were written after a journal, and the store goes on with the plan's table.
pub record KeepsPlan (plan : Plan) (J J' : List Event) (before store : Store) (reply : Reply) : Type 0 where
  pub reply_is : reply ≡ plan.reply
  pub journal : J' ≡ J ++ written (next_of J) (plan_blocks plan)
  pub at : store.vat_icb_address ≡ plan.table.at
  pub vat : store.vat ≡ plan.table.vat
  pub volume : store.capacity ≡ before.capacity
  pub going : store.is_stopped ≡ false

-- A write of a plan failed after a prefix of its blocks, and the store is stopped. It keeps the table that it had.
pub record BreaksPlan (plan : Plan) (J J' : List Event) (before store : Store) (fault : StoreFault) : Type 0 where
  pub device : fault ≡ Device
  pub front : AddsPrefix J (next_of J) (plan_blocks plan) J'
  pub at : store.vat_icb_address ≡ before.vat_icb_address
  pub vat : store.vat ≡ before.vat
  pub volume : store.capacity ≡ before.capacity
  pub stopped : store.is_stopped ≡ true

-- All that was planned was written, and the store keeps the plan's table.
pub record WritesPlan (before : Store) (request : Request) (capacity : ℕ) (J J' : List Event) (store : Store) (reply : Reply) : Type 0 where
  pub change : Change
  pub plan : Plan
  pub is : IsPlan (next_of J) capacity plan
  pub makes : IsPlanOf before request change plan
  pub reply_is : reply ≡ plan.reply
  pub at : store.vat_icb_address ≡ plan.table.at
  pub vat : store.vat ≡ plan.table.vat
  pub journal : J' ≡ J ++ written (next_of J) (plan_blocks plan)

-- a prefix of what was planned was written
pub record StopsInPlan (before : Store) (request : Request) (capacity : ℕ) (J J' : List Event) : Type 0 where
  pub change : Change
  pub plan : Plan
  pub is : IsPlan (next_of J) capacity plan
  pub makes : IsPlanOf before request change plan
  pub front : AddsPrefix J (next_of J) (plan_blocks plan) J'

-- A write failed, and the store is stopped. It keeps the table that it had, with its records.
pub record HasFailed (before : Store) (request : Request) (capacity : ℕ) (J J' : List Event) (fault : StoreFault) (store : Store) : Type 0 where
  pub device : fault ≡ Device
  pub front : StopsInPlan before request capacity J J'
  pub stopped : store.is_stopped ≡ true
  pub at : store.vat_icb_address ≡ before.vat_icb_address
  pub vat : store.vat ≡ before.vat
  pub volume : store.capacity ≡ before.capacity

-- Nothing was written, and the store is as it was, but for the directories that it keeps.
pub record WroteNothing (before : Store) (J J' : List Event) (store : Store) : Type 0 where
  pub journal : J' ≡ J
  pub store_is : store ≡ record before { directories = store.directories }

-- what a refusal leaves
abbrev pub IsCommitRefused : Store → Request → ℕ → List Event → List Event → Store → StoreFault → Type 0
IsCommitRefused before request capacity J J' store fault = WroteNothing before J J' store ⊎ HasFailed before request capacity J J' fault store
