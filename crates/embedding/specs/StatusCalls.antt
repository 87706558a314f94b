-- What a question for the status leaves, and why it is refused.
use Rattle.std.specs.Prelude.{◌≡◌, ◌⊎◌, ℕ, ℤ, List, IsTrue, Result, Ok, Err, ⊤}
use Rattle.drive.specs.Journal.{Event, held}
use Rattle.model.specs.Session.{State}
use Rattle.recover.specs.Faults.{IsShortage}
use Rattle.recover.specs.Tables.{IsEntryRefused}
use Rattle.recover.specs.declared.fault.StoreFault.{StoreFault}
use Rattle.recover.specs.declared.fault.StoreFault.TheVariants.{Memory}
use Rattle.store.specs.declared.store.Store.{Store}
use Rattle.engine.specs.Situation.{Situation, IsOpen}
use Rattle.engine.specs.Steps.{HoldsState}
use Rattle.embedding.specs.declared.fault.Fault.{Fault}
use Rattle.embedding.specs.declared.session.Session.{Session}
use Rattle.embedding.specs.declared.told.Status.{Status}
use Rattle.embedding.specs.Numbers.{status, fault_of_store}
use Rattle.embedding.specs.Questions.{Asked}
use Rattle.embedding.specs.Sessions.{seen}
use Rattle.embedding.specs.Statuses.{TellsStatus}

-- Why the open store did not tell it: the drive failed, the newest VAT ICB was not read, or memory was short for the label.
abbrev pub IsStatusRefused : List Event → Store → StoreFault → Type 0
IsStatusRefused journal store fault = IsEntryRefused (held journal) store.vat_icb_address fault ⊎ (fault ≡ Memory)

-- Why none is told: no store was open, and the volume was not opened, where a state stands because the drive failed or memory was
-- short; or the store that is open did not tell it.
abbrev pub IsStatusUnknown : StoreFault → Situation → Situation → Type 0
IsStatusUnknown fault before now =
    (((kept : Store) → IsOpen before kept → ⊥) × ((volume : ℕ) (S : State) → IsTrue now.honest → HoldsState volume S before → IsShortage fault))
    ⊎ ((store : Store) × IsOpen now store × (IsTrue now.honest → IsStatusRefused now.journal store fault))

-- The status is that of the store that is open then. A refusal writes none, and says why.
abbrev pub StatusIs : {T : Type 0} → Result T Fault → Status → Status → Session → Session → Type 0
StatusIs (Ok x) before after old new = (store : Store) × IsOpen (seen new) store × TellsStatus (seen new).journal (seen new).honest store after
StatusIs (Err fault) before after old new = (after ≡ before) × (cause : StoreFault) × (fault ≡ fault_of_store cause) × IsStatusUnknown cause (seen old) (seen new)

abbrev pub AsksStatus : ℤ → Status → Status → Session → Session → Type 0
AsksStatus told before after old new = (outcome : Result ⊤ Fault) × (told ≡ status outcome) × StatusIs outcome before after old new × Asked old new
