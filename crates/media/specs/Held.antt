-- What images hold, by their paths, and what a drive shows that was just taken out of a medium.
use Rattle.std.specs.Prelude.{◌≡◌, ◌⊎◌, ℕ, ◌≤◌, true, false, List, [], Option, Some, None, bytes_eq}
use Rattle.drive.specs.Gathering.{waits_never}
use Rattle.drive.specs.Journal.{AreWhole, Event, Once, next_of}
use Rattle.drive.specs.declared.Drive.{Ghosts}

-- the journal of the image at each path, and nothing where there is no image
abbrev pub Held : Type 0
Held = List ℕ → Option (List Event)

-- each path has what it had
abbrev pub Same : {A : Type 0} → (List ℕ → A) → (List ℕ → A) → Type 0
Same old new = (path : List ℕ) → new path ≡ old path

-- each other path has what it had
abbrev pub SameBut : {A : Type 0} → List ℕ → (List ℕ → A) → (List ℕ → A) → Type 0
SameBut path old new = (other : List ℕ) → bytes_eq other path ≡ false → new other ≡ old other

-- the journal of an image that is made where it is missing
abbrev pub initial_journal : Option (List Event) → List Event
initial_journal None = []
initial_journal (Some journal) = journal

-- Each path has what it had, or an image of no blocks was made at this one, where none was.
abbrev pub SameOrMade : List ℕ → Held → Held → Type 0
SameOrMade path old new = Same old new ⊎ ((old path ≡ None) × (new path ≡ Some []) × SameBut path old new)

-- Where as many blocks were found as are held, whole and each written once, in order, they are those.
abbrev pub FoundAsHeld : List Event → List Event → Type 0
FoundAsHeld held found = Once held → AreWhole held → next_of found ≡ next_of held → found ≡ held

-- No call was made yet on a drive of this capacity, whose blocks were each written once, in order.
pub record IsFresh {D : Type 0} (drive : Ghosts D) (capacity : ℕ) (d : D) : Type 0 where
  pub size : drive.capacity d ≡ capacity
  pub fits : next_of (drive.journal d) ≤ capacity
  pub once : Once (drive.journal d)
  pub writes : drive.writes d ≡ []
  pub failures : drive.failures d ≡ 0
  pub misreads : drive.misreads d ≡ 0
  pub honest : drive.honest d ≡ true
  pub gathering : drive.gathering d ≡ waits_never
