-- What an engine makes of its store's calls on an honest drive.
use Rattle.std.specs.Prelude.{◌≡◌, ◌⊎◌, ℕ, List, Result, Ok, Err, Some, None}
use Rattle.recover.specs.declared.fault.StoreFault.{StoreFault}
use Rattle.recover.specs.declared.fault.StoreFault.TheVariants as fault
use Rattle.recover.specs.Faults.{IsShortage}
use Rattle.request.specs.declared.message.Message.{Message}
use Rattle.request.specs.declared.message.Message.TheVariants as message
use Rattle.request.specs.declared.message.Query as asked
use Rattle.request.specs.declared.message.Query.TheVariants as query
use Rattle.request.specs.declared.message.Request as asking
use Rattle.request.specs.declared.answer.Answer.{Answer}
use Rattle.request.specs.declared.answer.Answer.TheVariants as answer
use Rattle.request.specs.declared.answer.Reply.{Reply}
use Rattle.request.specs.declared.answer.Listed.{Listed}
use Rattle.request.specs.declared.answer.NodeStatus.{NodeStatus}
use Rattle.model.specs.Session.{State, Due}
use Rattle.model.specs.Session.Due.{Repeat, Stale, Gap, ClientsFull, New}
use Rattle.durability.specs.Runs.{Delivery}
use Rattle.durability.specs.Runs as medium
use Rattle.store.specs.declared.store.Store.{Store}
use Rattle.lookup.specs.Asked.{model_request}
use Rattle.store.specs.Calls.{IsOpenOn, IsStillOpenOn, Applies, Gets, Lists, Reads, Stats}
use Rattle.store.specs.Sessions.{reply_said}
use Rattle.engine.specs.Situation.{Situation, IsOpen, with_store}
use Rattle.engine.specs.Answered.{due_of}
use Rattle.engine.specs.Said.{model_message, model_answer}
use Rattle.engine.specs.Steps.{HoldsState, IsStep}

-- ---- answers, by what the store gave

abbrev pub failed : StoreFault → Answer
failed fault.Device = answer.Fault
failed fault.Memory = answer.Memory
failed other = answer.Damaged

abbrev pub refused : StoreFault → Answer
refused fault.Full = answer.Full
refused other = failed other

abbrev pub applied : Result Reply StoreFault → Answer
applied (Ok reply) = answer.Reply reply
applied (Err refusal) = refused refusal

abbrev pub read_refused : StoreFault → Answer
read_refused fault.NotFound = answer.NotFound
read_refused fault.IsDirectory = answer.IsDirectory
read_refused other = failed other

abbrev pub get_refused : StoreFault → Answer
get_refused fault.TooLong = answer.TooLong
get_refused other = read_refused other

abbrev pub get_answer : Result (List ℕ) StoreFault → Answer
get_answer (Ok bytes) = answer.Data bytes
get_answer (Err refusal) = get_refused refusal

abbrev pub read_answer : Result (List ℕ) StoreFault → Answer
read_answer (Ok bytes) = answer.Data bytes
read_answer (Err refusal) = read_refused refusal

abbrev pub list_refused : StoreFault → Answer
list_refused fault.NotFound = answer.NotFound
list_refused fault.NotDirectory = answer.NotDirectory
list_refused other = failed other

abbrev pub list_answer : Result (List Listed) StoreFault → Answer
list_answer (Ok names) = answer.Names names
list_answer (Err refusal) = list_refused refusal

abbrev pub stat_refused : StoreFault → Answer
stat_refused fault.NotFound = answer.NotFound
stat_refused other = failed other

abbrev pub stat_answer : Result NodeStatus StoreFault → Answer
stat_answer (Ok status) = answer.Node status
stat_answer (Err refusal) = stat_refused refusal

-- ---- what a message gets at the recovered state

-- No store was open, none could be opened, and nothing was written.
pub record IsShort (before : Situation) (a : Answer) (afterwards : Situation) : Type 0 where
  pub refusal : StoreFault
  pub shortage : IsShortage refusal
  pub told : a ≡ failed refusal
  pub journal : afterwards.journal ≡ before.journal
  pub capacity : afterwards.capacity ≡ before.capacity
  pub store : afterwards.store ≡ None
  pub closed : (store : Store) → IsOpen before store → ⊥

-- A store is open that keeps the state: the one that was, or one that was opened. Nothing was written.
pub record Uses (volume : ℕ) (S : State) (before during : Situation) (store : Store) : Type 0 where
  pub journal : during.journal ≡ before.journal
  pub capacity : during.capacity ≡ before.capacity
  pub knows : IsOpenOn during.capacity volume during.journal S store

-- A new request was given to the store.
pub record IsApplied (volume : ℕ) (S : State) (request : asking.Request) (during : Situation) (a : Answer) (afterwards : Situation) : Type 0 where
  pub result : Result Reply StoreFault
  pub told : a ≡ applied result
  pub kept : Store
  pub store : afterwards.store ≡ Some kept
  pub applies : Applies during.capacity volume during.journal S (model_request request) result afterwards.journal kept
  pub capacity : afterwards.capacity ≡ during.capacity

-- a request, by what is due for its number
abbrev pub IsDealt : Due → ℕ → State → asking.Request → Situation → Store → Answer → Situation → Type 0
IsDealt (Repeat kept) volume S request during store a afterwards = (reply : Reply) × (a ≡ answer.Reply reply) × (reply_said reply ≡ kept) × (afterwards ≡ with_store (Some store) during)
IsDealt (Stale latest) volume S request during store a afterwards = (a ≡ answer.Stale latest) × (afterwards ≡ with_store (Some store) during)
IsDealt (Gap latest) volume S request during store a afterwards = (a ≡ answer.Gap latest) × (afterwards ≡ with_store (Some store) during)
IsDealt ClientsFull volume S request during store a afterwards = (a ≡ answer.ClientsFull) × (afterwards ≡ with_store (Some store) during)
IsDealt New volume S request during store a afterwards = IsApplied volume S request during a afterwards

-- a query's result
abbrev pub IsQueried : State → asked.Query → Answer → Type 0
IsQueried S (query.Get path) a = (result : Result (List ℕ) StoreFault) × Gets S path result × (a ≡ get_answer result)
IsQueried S (query.List path) a = (result : Result (List Listed) StoreFault) × Lists S path result × (a ≡ list_answer result)
IsQueried S (query.Stat path) a = (result : Result NodeStatus StoreFault) × Stats S path result × (a ≡ stat_answer result)
IsQueried S (query.Read path offset count) a = (result : Result (List ℕ) StoreFault) × Reads S path offset count result × (a ≡ read_answer result)

-- A query was given to the store, and nothing was written.
pub record IsRead (volume : ℕ) (S : State) (asked : asked.Query) (during : Situation) (a : Answer) (afterwards : Situation) : Type 0 where
  pub result : IsQueried S asked a
  pub kept : Store
  pub store : afterwards.store ≡ Some kept
  pub journal : afterwards.journal ≡ during.journal
  pub capacity : afterwards.capacity ≡ during.capacity
  pub knows : IsStillOpenOn afterwards.capacity volume afterwards.journal S kept

-- each message, by the calls that it makes
abbrev pub Calls : ℕ → Message → State → Situation → Answer → Situation → Type 0
Calls volume (message.Malformed cause) S before a afterwards = (a ≡ answer.Malformed cause) × (afterwards ≡ before)
Calls volume message.NoMemory S before a afterwards = (a ≡ answer.Memory) × (afterwards ≡ before)
Calls volume (message.Query asked) S before a afterwards = IsShort before a afterwards ⊎ ((during : Situation) × (store : Store) × Uses volume S before during store × IsRead volume S asked during a afterwards)
Calls volume (message.Request request) S before a afterwards =
    IsShort before a afterwards ⊎ ((during : Situation) × (store : Store) × Uses volume S before during store × IsDealt (due_of store request.client request.number) volume S request during store a afterwards)

-- they make a step that is a row of the medium's
abbrev pub CallsAreSteps : Type 0
CallsAreSteps =
    (volume : ℕ) (m : Message) (S : State) (before : Situation) (a : Answer) (afterwards : Situation) → HoldsState volume S before → Calls volume m S before a afterwards
    → (S' : State) × IsStep volume (medium.Delivery.Delivered (model_message m)) S before (Some (model_answer a)) S' afterwards

-- and so does a restart
abbrev pub RestartsAreSteps : Type 0
RestartsAreSteps = (volume : ℕ) (S : State) (before : Situation) → HoldsState volume S before → IsStep volume medium.Delivery.Restart S before None S (with_store None before)
