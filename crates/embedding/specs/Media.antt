-- What a session's volume lies on, as the drive of an engine.
use Rattle.std.specs.Prelude.{ℕ, Bool, true, false, List, []}
use Rattle.drive.specs.Journal.{Event}
use Rattle.drive.specs.FileDrive as ordered
use Rattle.drive.specs.Gathering.{Gathering, waits_never}
use Rattle.drive.specs.MemDrive as memory
use Rattle.settling.specs.GatheringFile as image
use Rattle.engine.specs.declared.engine.Engine.{Engine}
use Rattle.engine.specs.Situation.{Situation, situation}
use Rattle.embedding.specs.declared.medium.Medium.{Medium}
use Rattle.embedding.specs.declared.medium.Medium.TheVariants.{Image, InOrder, Memory}

abbrev pub journal_on : Medium → List Event
journal_on (Image d) = image.journal_of d
journal_on (InOrder d) = ordered.journal_of d
journal_on (Memory d) = memory.journal_of d

abbrev pub failures_on : Medium → ℕ
failures_on (Image d) = image.failures_of d
failures_on (InOrder d) = ordered.failures_of d
failures_on (Memory d) = memory.failures_of d

abbrev pub capacity_on : Medium → ℕ
capacity_on (Image d) = image.capacity_of d
capacity_on (InOrder d) = ordered.capacity_of d
capacity_on (Memory d) = memory.capacity_of d

abbrev pub honest_on : Medium → Bool
honest_on (Image d) = image.honest_of d
honest_on (InOrder d) = ordered.honest_of d
honest_on (Memory d) = memory.honest_of d

abbrev pub writes_on : Medium → List (List (List ℕ))
writes_on (Image d) = image.writes_of d
writes_on (InOrder d) = ordered.writes_of d
writes_on (Memory d) = memory.writes_of d

abbrev pub in_memory : Medium → Bool
in_memory (Image d) = false
in_memory (InOrder d) = false
in_memory (Memory d) = true

-- messages are answered in groups: those on an image file
abbrev pub in_groups : Medium → Bool
in_groups (Image d) = true
in_groups (InOrder d) = false
in_groups (Memory d) = false

-- how writes wait for the disk
abbrev pub gathering_on : Medium → Gathering
gathering_on (Image d) = image.gathering_of d
gathering_on (InOrder d) = waits_never
gathering_on (Memory d) = waits_never

-- the blocks that a caller is given, each with its address: those of a volume in memory
abbrev pub blocks_of : Medium → List Event
blocks_of (Image d) = []
blocks_of (InOrder d) = []
blocks_of (Memory d) = memory.journal_of d

-- an engine beside it
abbrev pub seen_by : Engine → Medium → Situation
seen_by engine medium = situation engine.store (journal_on medium) (failures_on medium) (capacity_on medium) (honest_on medium) (writes_on medium)
