-- What a drive's journal recovers to, at each of its prefixes.
use Rattle.std.specs.Prelude.{◌≡◌, ℕ, ◌≤◌, List, length, take}
use Rattle.drive.specs.Journal.{Event, held, Once}
use Rattle.model.specs.Session.{State, Request, after}
use Rattle.durability.specs.Formats.{Formats}
use Rattle.durability.specs.Volume.{RecoversTo}
use Rattle.durability.specs.Step.{Moves}
use Rattle.durability.specs.Runs.{Delivery, Answer, Holds}

module _ (formats : Formats) where
  -- The journal goes on from the one before, each address once. At each prefix before its end the old state is recovered, at its end the new one.
  pub record Advances (capacity volume : ℕ) (before : List Event) (S : State) (afterwards : List Event) (S' : State) : Type 0 where
    pub front : take (length before) afterwards ≡ before
    pub once : Once afterwards
    pub moves : Moves formats capacity volume (held before) S (held afterwards) S'

  -- The headline on a journal: at each prefix of what was written what is recovered is the state after the first of the committed requests.
  pub record HoldsOnJournal (need : State → Request → ℕ) (drive volume : ℕ) (S : State) (before afterwards : List Event) (deliveries : List Delivery) (answers : List Answer) : Type 0 where
    pub front : take (length before) afterwards ≡ before
    pub once : Once afterwards
    pub holds : Holds formats need drive volume S (held before) (held afterwards) deliveries answers
    pub stands : (k : ℕ) → length before ≤ k → k ≤ length afterwards
        → (holds.c k ≤ length holds.committed) × RecoversTo formats drive volume (held (take k afterwards)) (after S (take (holds.c k) holds.committed))
