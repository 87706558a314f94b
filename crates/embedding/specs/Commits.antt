-- The commits of a volume, one at a time from the newest down.
use Rattle.std.specs.Prelude.{◌≡◌, ⊤, ◌⊎◌, ◌<◌, ◌≤◌, ℕ, ℤ, List, [], ◌∷◌, Some, None, IsTrue, Result, Ok, Err}
use Rattle.limits.specs.declared.TheConstants.{PARTITION_START}
use Rattle.drive.specs.Journal.{Event, held, next_of}
use Rattle.model.specs.Session.{State}
use Rattle.vat.specs.Table.{Table}
use Rattle.recover.specs.Faults.{IsShortage}
use Rattle.recover.specs.Tables.{HasTableAt, IsAtRefused, IsBefore, IsBeforeRefused, IsEntryAt}
use Rattle.recover.specs.declared.fault.StoreFault.{StoreFault}
use Rattle.recover.specs.declared.fault.StoreFault.TheVariants.{NoCommit}
use Rattle.recover.specs.declared.table.TableEntry.{TableEntry}
use Rattle.store.specs.declared.history.Commit.{Commit}
use Rattle.store.specs.declared.store.Store.{Store}
use Rattle.store.specs.History.{IsHistory, report_of}
use Rattle.engine.specs.Situation.{Situation, IsOpen}
use Rattle.engine.specs.Steps.{HoldsState}
use Rattle.embedding.specs.declared.fault.Fault.{Fault}
use Rattle.embedding.specs.declared.session.Session.{Session}
use Rattle.embedding.specs.declared.told.CommitStatus.{CommitStatus}
use Rattle.embedding.specs.Numbers as numbers
use Rattle.embedding.specs.Numbers.{status}
use Rattle.embedding.specs.Questions.{Asked}
use Rattle.embedding.specs.Sessions.{seen}

-- what is told, as a store tells of a commit
abbrev pub commit_of : CommitStatus → Commit
commit_of told = record { commit = told.number; vat_icb_address = told.address; files = told.files; directories = told.directories }

-- It is what the table says whose VAT ICB stands at an address, and the moment is that of the VAT ICB.
pub record TellsCommit (medium : List (List ℕ)) (at : ℕ) (told : CommitStatus) : Type 0 where
  pub table : Table
  pub there : HasTableAt medium at table
  pub commit : commit_of told ≡ report_of at table
  pub entry : TableEntry
  pub icb : IsEntryAt medium at entry
  pub moment : told.moment ≡ entry.moment

-- ---- one step

-- where the next VAT ICB stands: the newest after 0, else the one before the one at this address, by the chain of tables
abbrev pub IsNextInLog : List Event → ℕ → ℕ → ℕ → Type 0
IsNextInLog journal newest after at = ((after ≡ 0) × (at ≡ newest)) ⊎ ((after ≡ 0 → ⊥) × IsBefore (held journal) after (Some at))

-- it is the commit there
abbrev pub TellsNext : List Event → ℕ → ℕ → CommitStatus → Type 0
TellsNext journal newest after told = (at : ℕ) × IsNextInLog journal newest after at × TellsCommit (held journal) at told

-- no commit comes before: the address is none of the volume's blocks, or that of the format's VAT ICB
abbrev pub HasNoneBefore : List Event → ℕ → Type 0
HasNoneBefore journal after = (after < PARTITION_START) ⊎ ((next_of journal ≤ after) ⊎ IsBefore (held journal) after None)

-- why no step was taken: there is none, or the one before was not read
abbrev pub IsStepRefused : List Event → ℕ → StoreFault → Type 0
IsStepRefused journal after fault = (after ≡ 0 → ⊥) × (((fault ≡ NoCommit) × HasNoneBefore journal after) ⊎ IsBeforeRefused (held journal) after fault)

-- or the commit there was not read
abbrev pub IsLogRefused : List Event → ℕ → ℕ → StoreFault → Type 0
IsLogRefused journal newest after fault =
    IsStepRefused journal after fault ⊎ ((at : ℕ) × IsNextInLog journal newest after at × IsAtRefused (held journal) at fault)

-- ---- the history

abbrev pub IsNewest : List Commit → Commit → Type 0
IsNewest [] c = ⊥
IsNewest (d ∷ older) c = d ≡ c

-- after each of the commits whose VAT ICB has this address this one comes
abbrev pub FollowsIn : List Commit → ℕ → Commit → Type 0
FollowsIn [] after c = ⊤
FollowsIn (d ∷ older) after c = (d.vat_icb_address ≡ after → IsNewest older c) × FollowsIn older after c

-- it comes first of all after 0, else after the one at this address
abbrev pub IsInTurn : List Commit → ℕ → Commit → Type 0
IsInTurn commits after c = (after ≡ 0 → IsNewest commits c) × ((after ≡ 0 → ⊥) → FollowsIn commits after c)

-- ---- what a caller is told

-- The commit is told by the store that is open then. So, on an honest medium, it comes in turn in the list that is the history.
pub record IsLogged (after : ℕ) (told : CommitStatus) (now : Situation) : Type 0 where
  pub store : Store
  pub opened : IsOpen now store
  pub next : IsTrue now.honest → TellsNext now.journal store.vat_icb_address after told
  pub in_turn : IsTrue now.honest → (commits : List Commit) → IsHistory (held now.journal) store.vat_icb_address commits → IsInTurn commits after (commit_of told)

-- Why none is: no store was open, and the volume was not opened, where a state stands because the drive failed or memory was
-- short; or the step was refused to the store that is open.
abbrev pub IsUnlogged : ℕ → StoreFault → Situation → Situation → Type 0
IsUnlogged after fault before now =
    (((kept : Store) → IsOpen before kept → ⊥) × ((volume : ℕ) (S : State) → IsTrue now.honest → HoldsState volume S before → IsShortage fault))
    ⊎ ((store : Store) × IsOpen now store × (IsTrue now.honest → IsLogRefused now.journal store.vat_icb_address after fault))

-- a refusal writes nothing
abbrev pub CommitIs : {T : Type 0} → ℕ → Result T Fault → CommitStatus → CommitStatus → Session → Session → Type 0
CommitIs after (Ok x) before now old new = IsLogged after now (seen new)
CommitIs after (Err fault) before now old new = (now ≡ before) × (cause : StoreFault) × (fault ≡ numbers.fault_of_store cause) × IsUnlogged after cause (seen old) (seen new)

abbrev pub AsksCommit : ℕ → ℤ → CommitStatus → CommitStatus → Session → Session → Type 0
AsksCommit after number before now old new = (outcome : Result ⊤ Fault) × (number ≡ status outcome) × CommitIs after outcome before now old new × Asked old new
