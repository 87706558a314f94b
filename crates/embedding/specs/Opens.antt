-- A session that was opened.
use Rattle.std.specs.Prelude.{◌≡◌, ◌⊎◌, ℕ, Bool, true, false, List, [], Some, None, IsTrue, Result, Ok, Err}
use Rattle.limits.specs.declared.TheConstants.{GREATEST_CAPACITY}
use Rattle.drive.specs.FileDrive.{capacity_of, journal_of, BeginsWith}
use Rattle.drive.specs.Gathering.{waits_never}
use Rattle.drive.specs.declared.file.FileDrive.{FileDrive}
use Rattle.drive.specs.declared.memory.MemDrive.{MemDrive}
use Rattle.model.specs.Session.{State}
use Rattle.recover.specs.Faults.{IsShortage}
use Rattle.recover.specs.declared.fault.StoreFault.{StoreFault}
use Rattle.settling.specs.declared.file.GatheringFileDrive.{GatheringFileDrive}
use Rattle.settling.specs.GatheringFile as image
use Rattle.settling.specs.Head.{Counts}
use Rattle.store.specs.declared.store.Store.{Store}
use Rattle.engine.specs.Situation.{Situation, HoldsNothing, IsOpen, situation}
use Rattle.engine.specs.Steps.{HoldsState}
use Rattle.embedding.specs.declared.fault.Fault.{Fault}
use Rattle.embedding.specs.declared.fault.Fault.TheVariants.{Device}
use Rattle.embedding.specs.declared.medium.Medium.{Medium}
use Rattle.embedding.specs.declared.medium.Medium.TheVariants.{Image, InOrder, Memory}
use Rattle.embedding.specs.declared.session.Session.{Session}
use Rattle.embedding.specs.Formats.{IsMadeInMemory, IsNotMade}
use Rattle.embedding.specs.Media.{journal_on, failures_on, capacity_on, honest_on, writes_on, in_memory}
use Rattle.embedding.specs.Numbers.{fault_of_store}
use Rattle.embedding.specs.Sessions.{seen, waiting}

-- a medium on which no store is open
abbrev pub fresh : Medium → Situation
fresh medium = situation None (journal_on medium) (failures_on medium) (capacity_on medium) (honest_on medium) (writes_on medium)

-- A store is open on what the medium holds, no message came yet, and nothing was taken. On an honest medium a recovered state
-- there is known: the run begins with it.
pub record Opened (medium : Medium) (s : Session) : Type 0 where
  pub frames : s.frames ≡ Some []
  pub waits : waiting s ≡ []
  pub given : s.given ≡ 0
  pub ended : s.ended ≡ None
  pub group : s.group ≡ None
  pub kept : (store : Store) × IsOpen (seen s) store
  pub journal : (seen s).journal ≡ journal_on medium
  pub writes : (seen s).writes ≡ writes_on medium
  pub capacity : (seen s).capacity ≡ capacity_on medium
  pub honest : IsTrue (seen s).honest → IsTrue (honest_on medium)
  pub recovers : IsTrue (seen s).honest → HoldsNothing (fresh medium) → ⊥
  pub kind : in_memory s.medium ≡ in_memory medium
  pub holds : (volume : ℕ) (S : State) → IsTrue (seen s).honest → HoldsState volume S (fresh medium) → HoldsState volume S (seen s)

-- Where it is refused on an honest medium nothing is recovered there, or the drive failed or memory was short. The medium is let
-- go then, and nothing was written on it. Whether a drive over a file read right no clause can know; one in memory does.
pub record RefusesToOpen (medium : Medium) (fault : Fault) : Type 0 where
  pub cause : StoreFault
  pub told : fault ≡ fault_of_store cause
  pub afterwards : Medium
  pub kind : in_memory afterwards ≡ in_memory medium
  pub journal : journal_on afterwards ≡ journal_on medium
  pub writes : writes_on afterwards ≡ writes_on medium
  pub why : (volume : ℕ) (S : State) → IsTrue (honest_on afterwards) → HoldsState volume S (fresh medium) → IsShortage cause

abbrev pub OpensSession : Medium → Result Session Fault → Type 0
OpensSession medium (Ok s) = Opened medium s
OpensSession medium (Err fault) = RefusesToOpen medium fault

-- ---- in the place of what a session held

-- a session on this medium was opened, or why not; then the session is as it was
abbrev pub TurnsTo : {T : Type 0} → Medium → Result T Fault → Session → Session → Type 0
TurnsTo medium (Ok x) old new = Opened medium new
TurnsTo medium (Err fault) old new = RefusesToOpen medium fault × (new ≡ old)

-- A file that is written in groups counts the blocks of a drive over it, or those before a group that was never settled. Nothing was done on it.
pub record IsGathered (file : FileDrive) (drive : GatheringFileDrive) : Type 0 where
  pub counts : Counts (image.found_of drive) (journal_of file) (image.journal_of drive)
  pub size : image.capacity_of drive ≡ capacity_of file
  pub writes : image.writes_of drive ≡ []
  pub failures : image.failures_of drive ≡ 0
  pub misreads : image.misreads_of drive ≡ 0
  pub gathering : image.gathering_of drive ≡ waits_never

-- it is the drive itself, which is written in order, or the drive as a file that is written in groups
abbrev pub IsOn : Bool → FileDrive → Medium → Type 0
IsOn true file medium = medium ≡ InOrder file
IsOn false file medium = (drive : GatheringFileDrive) × IsGathered file drive × (medium ≡ Image drive)

-- What the file or drive under a number has no clause can know: it is whatever blocks the drive's reads agree with.
abbrev pub LiesUnder : Bool → Medium → Type 0
LiesUnder in_order medium = (blocks : List (List ℕ)) × (file : FileDrive) × BeginsWith blocks file × (capacity_of file ≡ GREATEST_CAPACITY) × IsOn in_order file medium

-- the file could not be had, or the volume on it was looked for
abbrev pub OpensFile : {T : Type 0} → Bool → Result T Fault → Session → Session → Type 0
OpensFile in_order outcome old new =
    ((outcome ≡ Err Device) × (new ≡ old))
    ⊎ ((medium : Medium) × LiesUnder in_order medium × TurnsTo medium outcome old new)

-- No such volume can be made, or it was made in memory and looked for.
abbrev pub OpensMemory : {T : Type 0} → List ℕ → ℕ → ℕ → Result T Fault → Session → Session → Type 0
OpensMemory label moment capacity outcome old new =
    ((fault : Fault) × (outcome ≡ Err fault) × IsNotMade label moment capacity fault × (new ≡ old))
    ⊎ ((drive : MemDrive) × IsMadeInMemory label moment capacity drive × TurnsTo (Memory drive) outcome old new)
