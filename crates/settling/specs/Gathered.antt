-- What a `GatheringDrive` shows.
use Rattle.std.specs.Prelude.{◌≡◌, ℕ, Bool, List, length}
use Rattle.drive.specs.Gathering.{Gathering}
use Rattle.drive.specs.Journal.{Event, written}
use Rattle.drive.specs.MemDrive.{capacity_of as script_capacity, writes_of as script_writes}
use Rattle.settling.specs.Calls.{gathering_as}
use Rattle.settling.specs.Given.{phases_in}
use Rattle.settling.specs.declared.memory.GatheringDrive.{GatheringDrive}

abbrev pub blocks_of : GatheringDrive → List (List ℕ)
blocks_of d = d.blocks.items

abbrev pub journal_of : GatheringDrive → List Event
journal_of d = written 0 d.blocks.items

abbrev pub writes_of : GatheringDrive → List (List (List ℕ))
writes_of d = script_writes d.script

abbrev pub capacity_of : GatheringDrive → ℕ
capacity_of d = script_capacity d.script

abbrev pub phases_of : GatheringDrive → List (List Event)
phases_of d = phases_in d.phases.items

abbrev pub gathers_of : GatheringDrive → Bool
gathers_of d = d.gathers

abbrev pub waited_of : GatheringDrive → ℕ
waited_of d = length (script_writes d.waits)

abbrev pub gathering_of : GatheringDrive → Gathering
gathering_of d = gathering_as (gathers_of d) (waited_of d) (phases_of d)

abbrev pub failures_of : GatheringDrive → ℕ
failures_of d = d.failures

-- the drive was given phases, and is else as it was
pub record KeepsAllButPhases (old new : GatheringDrive) : Type 0 where
  pub blocks : blocks_of new ≡ blocks_of old
  pub gathers : new.gathers ≡ old.gathers
  pub waits : new.waits ≡ old.waits
  pub failures : new.failures ≡ old.failures
  pub writes : writes_of new ≡ writes_of old
  pub capacity : capacity_of new ≡ capacity_of old
