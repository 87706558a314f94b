-- What an engine and its drive are between two messages.
use Rattle.std.specs.Prelude.{◌≡◌, ℕ, ◌++◌, Bool, false, List, Option, Some, IfSome, IsTrue}
use Rattle.drive.specs.Journal.{Event, Once, held}
use Rattle.drive.specs.declared.Drive.{Ghosts}
use Rattle.store.specs.declared.store.Store.{Store}
use Rattle.store.specs.Agrees.{IsStoreOn}
use Rattle.store.specs.Opened.{RecoversToNothingHere}
use Rattle.engine.specs.declared.engine.Engine.{Engine}

pub record Situation : Type 0 where
  pub store : Option Store
  pub journal : List Event
  pub failures : ℕ
  pub capacity : ℕ
  pub honest : Bool
  pub writes : List (List (List ℕ))

-- a store that is kept agrees with the drive
abbrev pub IsReady : Situation → Type 0
IsReady s = IfSome s.store (IsStoreOn s.journal s.capacity)

-- this store is kept, and did not stop
abbrev pub IsOpen : Situation → Store → Type 0
IsOpen s store = (s.store ≡ Some store) × (store.is_stopped ≡ false)

-- Blocks alone came to the medium. It has room for as many as before, and it is no more honest.
pub record AddsBlocks (before after : Situation) : Type 0 where
  pub ready : IsReady after
  pub front : (written : List Event) × (after.journal ≡ before.journal ++ written)
  pub capacity : after.capacity ≡ before.capacity
  pub honest : IsTrue after.honest → IsTrue before.honest

-- a store, if one is kept, and what a drive shows
abbrev pub situation : Option Store → List Event → ℕ → ℕ → Bool → List (List (List ℕ)) → Situation
situation store journal failures capacity honest writes =
    record { store = store; journal = journal; failures = failures; capacity = capacity; honest = honest; writes = writes }

-- a store, or an engine, beside a drive
abbrev pub situation_on : {D : Type 0} → Ghosts D → Option Store → D → Situation
situation_on drive store d = situation store (drive.journal d) (drive.failures d) (drive.capacity d) (drive.honest d) (drive.writes d)

abbrev pub seen_on : {D : Type 0} → Ghosts D → Engine → D → Situation
seen_on drive engine d = situation_on drive engine.store d

-- the same medium beside an engine that keeps this store
abbrev pub with_store : Option Store → Situation → Situation
with_store store s = record s { store = store }

-- The drive's journal recovers to no state, and no store is open.
pub record HoldsNothing (s : Situation) : Type 0 where
  pub once : Once s.journal
  pub nothing : RecoversToNothingHere s.capacity (held s.journal)
  pub closed : (store : Store) → IsOpen s store → ⊥
