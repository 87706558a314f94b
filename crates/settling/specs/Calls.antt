-- What the calls of a drive that settles do to the drive.
use Rattle.std.specs.Prelude.{◌≡◌, ◌++◌, ℕ, Bool, true, false, List}
use Rattle.drive.specs.Journal.{Event}
use Rattle.drive.specs.Gathering.{Gathering}
use Rattle.drive.specs.declared.Drive.{Ghosts}

-- what the drive shows is as before, but perhaps its journal and how many failures it counted
pub record KeepsRest {D : Type 0} (drive : Ghosts D) (old new : D) : Type 0 where
  pub writes : drive.writes new ≡ drive.writes old
  pub capacity : drive.capacity new ≡ drive.capacity old
  pub misreads : drive.misreads new ≡ drive.misreads old
  pub honest : drive.honest new ≡ drive.honest old

-- what the drive shows is as before
pub record IsUntouched {D : Type 0} (drive : Ghosts D) (old new : D) : Type 0 where
  pub journal : drive.journal new ≡ drive.journal old
  pub failures : drive.failures new ≡ drive.failures old
  pub rest : KeepsRest drive old new

-- the first of these phases were given to the disk, and no others
pub record GivesFront (phases old new : List (List Event)) : Type 0 where
  pub given : List (List Event)
  pub rest : List (List Event)
  pub order : given ++ rest ≡ phases
  pub all : new ≡ old ++ given

-- a drive that gathers, or not, and what came of it so far
abbrev pub gathering_as : Bool → ℕ → List (List Event) → Gathering
gathering_as gathers waited phases = record { gathers = gathers; waited = waited; phases = phases }

-- from now on its writes wait
abbrev pub begun : Gathering → Gathering
begun g = gathering_as true g.waited g.phases

-- A gathering ended, and the first of these phases were given to the disk.
pub record EndsGathering (phases : List (List Event)) (old new : Gathering) : Type 0 where
  pub gathers : new.gathers ≡ false
  pub waited : new.waited ≡ old.waited
  pub given : GivesFront phases old.phases new.phases
