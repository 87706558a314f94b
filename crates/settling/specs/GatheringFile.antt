-- What a `GatheringFileDrive` shows.
use Rattle.std.specs.Prelude.{◌≡◌, ◌==◌, ℕ, Bool, List, Option}
use Rattle.drive.specs.Gathering.{Gathering}
use Rattle.drive.specs.Journal.{Event}
use Rattle.settling.specs.Calls.{gathering_as}
use Rattle.settling.specs.declared.file.GatheringFileDrive.{GatheringFileDrive}

abbrev pub journal_of : GatheringFileDrive → List Event
journal_of d = d.contents.journal

abbrev pub writes_of : GatheringFileDrive → List (List (List ℕ))
writes_of d = d.contents.writes

abbrev pub failures_of : GatheringFileDrive → ℕ
failures_of d = d.failures

abbrev pub capacity_of : GatheringFileDrive → ℕ
capacity_of d = d.capacity

abbrev pub misreads_of : GatheringFileDrive → ℕ
misreads_of d = d.contents.misreads

abbrev pub honest_of : GatheringFileDrive → Bool
honest_of d = misreads_of d == 0

abbrev pub phases_of : GatheringFileDrive → List (List Event)
phases_of d = d.contents.phases

abbrev pub gathers_of : GatheringFileDrive → Bool
gathers_of d = d.image.gathers

abbrev pub waited_of : GatheringFileDrive → ℕ
waited_of d = d.contents.waited

abbrev pub gathering_of : GatheringFileDrive → Gathering
gathering_of d = gathering_as (gathers_of d) (waited_of d) (phases_of d)

-- the bytes that were found after the last block when the drive was opened
abbrev pub found_of : GatheringFileDrive → Option (List ℕ)
found_of d = d.found.part

-- the file was given phases, and the drive is else as it was
pub record KeepsAllButPhases (old new : GatheringFileDrive) : Type 0 where
  pub journal : journal_of new ≡ journal_of old
  pub gathers : gathers_of new ≡ gathers_of old
  pub waited : waited_of new ≡ waited_of old
  pub failures : failures_of new ≡ failures_of old
  pub writes : writes_of new ≡ writes_of old
  pub capacity : capacity_of new ≡ capacity_of old
  pub misreads : misreads_of new ≡ misreads_of old
