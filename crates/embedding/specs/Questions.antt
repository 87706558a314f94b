-- What is asked of the volume beside messages.
use Rattle.std.specs.Prelude.{◌≡◌, ℕ, ℤ, List, map, Option, Some, None, IsTrue, Result, Ok, Err}
use Rattle.model.specs.Session.{State, ClientRecord, record_of}
use Rattle.recover.specs.Faults.{IsShortage}
use Rattle.recover.specs.declared.fault.StoreFault.{StoreFault}
use Rattle.store.specs.declared.store.Store.{Store}
use Rattle.udf.specs.Said.{model_record}
use Rattle.vat.specs.declared.record.Record.{Record}
use Rattle.engine.specs.Situation.{IsOpen}
use Rattle.engine.specs.Steps.{HoldsState}
use Rattle.embedding.specs.declared.fault.Fault.{Fault}
use Rattle.embedding.specs.declared.session.Session.{Session}
use Rattle.embedding.specs.Media.{in_memory}
use Rattle.embedding.specs.Numbers.{status, fault_of_store}
use Rattle.embedding.specs.Sessions.{seen, waiting}

-- What a question leaves: nothing is written, no message is taken and no answer is given. A recovered state stays known.
pub record Asked (old new : Session) : Type 0 where
  pub frames : new.frames ≡ old.frames
  pub waits : waiting new ≡ waiting old
  pub given : new.given ≡ old.given
  pub ended : new.ended ≡ old.ended
  pub group : new.group ≡ old.group
  pub journal : (seen new).journal ≡ (seen old).journal
  pub writes : (seen new).writes ≡ (seen old).writes
  pub capacity : (seen new).capacity ≡ (seen old).capacity
  pub honest : IsTrue (seen new).honest → IsTrue (seen old).honest
  pub kind : in_memory new.medium ≡ in_memory old.medium
  pub holds : (volume : ℕ) (S : State) → IsTrue (seen new).honest → HoldsState volume S (seen old) → HoldsState volume S (seen new)

-- Why the volume was not opened: no store was open, and where a state is recovered the drive failed or memory was short.
pub record Refused (fault : Fault) (old new : Session) : Type 0 where
  pub cause : StoreFault
  pub told : fault ≡ fault_of_store cause
  pub shut : (kept : Store) → IsOpen (seen old) kept → ⊥
  pub why : (volume : ℕ) (S : State) → IsTrue (seen new).honest → HoldsState volume S (seen old) → IsShortage cause

-- ---- the last number of a client

abbrev pub latest : Option ClientRecord → ℕ
latest None = 0
latest (Some kept) = kept.latest

abbrev pub last_kept : ℕ → List Record → ℕ
last_kept client records = latest (record_of client (map model_record records))

-- It is the one that the table of the open store has; so, on an honest medium where a state is recovered, that state's.
pub record IsLast (client number : ℕ) (old new : Session) : Type 0 where
  pub store : Store
  pub opened : IsOpen (seen new) store
  pub number_is : number ≡ last_kept client store.vat.sessions.records.items
  pub of_state : (volume : ℕ) (S : State) → IsTrue (seen new).honest → HoldsState volume S (seen old) → number ≡ latest (record_of client S.records)

abbrev pub TellsNumber : ℕ → Result ℕ Fault → Session → Session → Type 0
TellsNumber client (Ok number) old new = IsLast client number old new
TellsNumber client (Err fault) old new = Refused fault old new

-- The number was written, or the refusal reported and nothing written.
abbrev pub WritesNumber : ℕ → Result ℕ Fault → ℕ → ℕ → Type 0
WritesNumber client (Ok number) before after = after ≡ number
WritesNumber client (Err fault) before after = after ≡ before

abbrev pub LastNumber : ℕ → ℤ → ℕ → ℕ → Session → Session → Type 0
LastNumber client told before after old new =
    (outcome : Result ℕ Fault) × (told ≡ status outcome) × WritesNumber client outcome before after × TellsNumber client outcome old new × Asked old new
