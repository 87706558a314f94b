-- Which answer a message gets, and what it leaves.
use Rattle.std.specs.Prelude.{◌≡◌, ◌⊎◌, ⊤, ℕ, false, List, length, map, Option, Some, None}
use Rattle.model.specs.Session.{Due, due_by, record_of}
use Rattle.model.specs.Session.Due.{Repeat, Stale, Gap, ClientsFull, New}
use Rattle.drive.specs.Reads.{CountsFailures}
use Rattle.request.specs.declared.answer.Answer.{Answer}
use Rattle.request.specs.declared.answer.Answer.TheVariants as answer
use Rattle.request.specs.declared.answer.Reply.{Reply}
use Rattle.request.specs.declared.answer.Listed.{Listed}
use Rattle.request.specs.declared.answer.NodeStatus.{NodeStatus}
use Rattle.request.specs.declared.message.Message.{Message}
use Rattle.request.specs.declared.message.Message.TheVariants as message
use Rattle.request.specs.declared.message.Query.{Query}
use Rattle.request.specs.declared.message.Query.TheVariants as query
use Rattle.store.specs.declared.store.Store.{Store}
use Rattle.store.specs.Sessions.{reply_said}
use Rattle.udf.specs.Said.{model_record}
use Rattle.engine.specs.Situation.{Situation, IsOpen, IsReady, AddsBlocks}

-- how many failures of the drive an answer stands for
abbrev pub faults : Answer → ℕ
faults (answer.Reply reply) = 0
faults (answer.Stale latest) = 0
faults (answer.Gap latest) = 0
faults answer.ClientsFull = 0
faults answer.Full = 0
faults answer.Fault = 1
faults answer.Memory = 0
faults (answer.Malformed cause) = 0
faults answer.Damaged = 0
faults answer.NotFound = 0
faults answer.IsDirectory = 0
faults answer.NotDirectory = 0
faults answer.TooLong = 0
faults (answer.Data bytes) = 0
faults (answer.Names names) = 0
faults (answer.Node status) = 0

-- the drive failed, there was no memory, or the medium holds no sound volume
abbrev pub FailsOrIsDamaged : Answer → Type 0
FailsOrIsDamaged a = (a ≡ answer.Fault) ⊎ ((a ≡ answer.Memory) ⊎ (a ≡ answer.Damaged))

-- what a query can be answered
abbrev pub CanBeAnswered : Query → Answer → Type 0
CanBeAnswered (query.Get path) a = ((bytes : List ℕ) × (a ≡ answer.Data bytes)) ⊎ ((a ≡ answer.NotFound) ⊎ ((a ≡ answer.IsDirectory) ⊎ ((a ≡ answer.TooLong) ⊎ FailsOrIsDamaged a)))
CanBeAnswered (query.List path) a = ((names : List Listed) × (a ≡ answer.Names names)) ⊎ ((a ≡ answer.NotFound) ⊎ ((a ≡ answer.NotDirectory) ⊎ FailsOrIsDamaged a))
CanBeAnswered (query.Stat path) a = ((status : NodeStatus) × (a ≡ answer.Node status)) ⊎ ((a ≡ answer.NotFound) ⊎ FailsOrIsDamaged a)
CanBeAnswered (query.Read path offset count) a = ((bytes : List ℕ) × (a ≡ answer.Data bytes)) ⊎ ((a ≡ answer.NotFound) ⊎ ((a ≡ answer.IsDirectory) ⊎ FailsOrIsDamaged a))

-- Nothing was written, and the drive was given no write, where no store is kept, or one that did not stop.
abbrev pub IsUnwritten : Option Store → Situation → Situation → Type 0
IsUnwritten None before after = (after.journal ≡ before.journal) × (after.writes ≡ before.writes)
IsUnwritten (Some store) before after = store.is_stopped ≡ false → (after.journal ≡ before.journal) × (after.writes ≡ before.writes)

-- A new request is committed, or the answer says why not. Then nothing was written, unless the store stopped.
abbrev pub IsCommitted : Situation → Answer → Situation → Type 0
IsCommitted before a after = ((reply : Reply) × (a ≡ answer.Reply reply)) ⊎ (((a ≡ answer.Full) ⊎ FailsOrIsDamaged a) × IsUnwritten after.store before after)

-- what is due for a number of a client, by the sessions that a store keeps
abbrev pub due_of : Store → ℕ → ℕ → Due
due_of store client number = due_by number (length store.vat.sessions.records.items) (record_of client (map model_record store.vat.sessions.records.items))

-- What a request gets where this is due. Where it is not new, nothing changes, and the drive is not called.
abbrev pub IsAnsweredAsDue : Due → Situation → Answer → Situation → Type 0
IsAnsweredAsDue (Repeat kept) before a after = (reply : Reply) × (a ≡ answer.Reply reply) × (reply_said reply ≡ kept) × (after ≡ before)
IsAnsweredAsDue (Stale latest) before a after = (a ≡ answer.Stale latest) × (after ≡ before)
IsAnsweredAsDue (Gap latest) before a after = (a ≡ answer.Gap latest) × (after ≡ before)
IsAnsweredAsDue ClientsFull before a after = (a ≡ answer.ClientsFull) × (after ≡ before)
IsAnsweredAsDue New before a after = IsCommitted before a after

-- The store is open, or is opened, by which nothing is written, and the drive is given no write. It agrees with the drive.
pub record OpensStore (before during : Situation) (store : Store) : Type 0 where
  pub opened : IsOpen during store
  pub ready : IsReady during
  pub journal : during.journal ≡ before.journal
  pub writes : during.writes ≡ before.writes
  pub stays : (kept : Store) → IsOpen before kept → during ≡ before

-- The store was not open, and could not be opened. Nothing was written.
abbrev pub IsNotOpened : Situation → Answer → Situation → Type 0
IsNotOpened before a after = FailsOrIsDamaged a × (after.journal ≡ before.journal) × (after.writes ≡ before.writes) × ((store : Store) → IsOpen before store → ⊥)

-- one row for each kind of message
abbrev pub MessageRow : Message → Situation → Answer → Situation → Type 0
MessageRow (message.Malformed cause) before a after = (a ≡ answer.Malformed cause) × (after ≡ before)
MessageRow message.NoMemory before a after = (a ≡ answer.Memory) × (after ≡ before)
MessageRow (message.Query asked) before a after = CanBeAnswered asked a × (after.journal ≡ before.journal) × (after.writes ≡ before.writes)
MessageRow (message.Request request) before a after = IsNotOpened before a after
    ⊎ ((during : Situation) × (store : Store) × OpensStore before during store × IsAnsweredAsDue (due_of store request.client request.number) during a after)

-- A message was answered.
pub record Answered (asked : Message) (before : Situation) (a : Answer) (after : Situation) : Type 0 where
  pub follows : AddsBlocks before after
  pub failures : CountsFailures (faults a) before.failures after.failures
  pub row : MessageRow asked before a after

-- Where nothing is recovered, and no store is open, what needs the volume is refused: the drive failed, memory was short, or
-- there is no sound volume. Nothing is written, and no store is kept.
abbrev pub IsNothingThere : Message → Situation → Answer → Situation → Type 0
IsNothingThere (message.Malformed cause) before a after = ⊤
IsNothingThere message.NoMemory before a after = ⊤
IsNothingThere (message.Query asked) before a after = FailsOrIsDamaged a × (after.journal ≡ before.journal) × (after.store ≡ None)
IsNothingThere (message.Request request) before a after = FailsOrIsDamaged a × (after.journal ≡ before.journal) × (after.store ≡ None)
