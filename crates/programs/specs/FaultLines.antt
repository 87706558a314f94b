-- How a fault is said: as its number and its name.
use Rattle.std.specs.Prelude.{◌≡◌, ◌⊎◌, ℕ, true, List, [], ◌++◌, codes, decimal, Option, Some, None, Result, Ok, Err}
use Rattle.std.specs.Io.KnownBytes.{Appends}
use Rattle.std.specs.declared.io.Write.{Ghosts}
use Rattle.drive.specs.Journal.{counted}
use Rattle.engine.specs.declared.serving.ServeFault.{ServeFault}
use Rattle.engine.specs.declared.serving.ServeFault.TheVariants as streams
use Rattle.engine.specs.Streams.{PutsPrefix}
use Rattle.recover.specs.declared.fault.StoreFault.{StoreFault}
use Rattle.recover.specs.declared.fault.StoreFault.TheVariants as stores
use Rattle.programs.specs.declared.errors.ErrorStream.{ErrorStream}
use Rattle.programs.specs.declared.fault.Fault.{Fault}
use Rattle.programs.specs.declared.fault.Fault.TheVariants.{Usage, Path, Socket, Store, Stream}
use Rattle.programs.specs.Status.{status_of}

abbrev pub stream_name : ServeFault → List ℕ
stream_name streams.Read = codes "91 Read"
stream_name streams.Write = codes "92 Write"
stream_name streams.Memory = codes "93 Memory"

abbrev pub store_name : StoreFault → List ℕ
store_name stores.NotBlank = codes "61 NotBlank"
store_name stores.Label = codes "62 Label"
store_name stores.Small = codes "63 Small"
store_name stores.Device = codes "64 Device"
store_name stores.Memory = codes "65 Memory"
store_name stores.NotFormatted = codes "66 NotFormatted"
store_name (stores.Damaged block cause) = codes "67 Damaged"
store_name stores.Full = codes "68 Full"
store_name stores.Stopped = codes "69 Stopped"
store_name stores.NoCommit = codes "70 NoCommit"
store_name stores.NotFound = codes "96 NotFound"
store_name stores.IsDirectory = codes "97 IsDirectory"
store_name stores.NotDirectory = codes "98 NotDirectory"
store_name stores.TooLong = codes "99 TooLong"

abbrev pub fault_name : Fault → List ℕ
fault_name Usage = codes "usage"
fault_name Path = codes "55 Path"
fault_name Socket = codes "94 Socket"
fault_name (Store fault) = store_name fault
fault_name (Stream fault) = stream_name fault

-- what is damaged, and how
abbrev pub store_damage : StoreFault → Option (ℕ × ℕ)
store_damage stores.NotBlank = None
store_damage stores.Label = None
store_damage stores.Small = None
store_damage stores.Device = None
store_damage stores.Memory = None
store_damage stores.NotFormatted = None
store_damage (stores.Damaged block cause) = Some (block, cause)
store_damage stores.Full = None
store_damage stores.Stopped = None
store_damage stores.NoCommit = None
store_damage stores.NotFound = None
store_damage stores.IsDirectory = None
store_damage stores.NotDirectory = None
store_damage stores.TooLong = None

abbrev pub fault_damage : Fault → Option (ℕ × ℕ)
fault_damage Usage = None
fault_damage Path = None
fault_damage Socket = None
fault_damage (Store fault) = store_damage fault
fault_damage (Stream fault) = None

abbrev pub place_text : ℕ → ℕ → List ℕ
place_text block cause = codes " block " ++ decimal block ++ codes " cause " ++ decimal cause

abbrev pub damage_text : Option (ℕ × ℕ) → List ℕ
damage_text None = []
damage_text (Some damage) = place_text damage.0 damage.1

-- a fault in a line of the program with this name
abbrev pub fault_line : List ℕ → Fault → List ℕ
fault_line name fault = name ++ codes ": " ++ fault_name fault ++ damage_text (fault_damage fault) ++ codes "\n"

-- What a stream of errors holds, where that is known, and how many writes to it failed.
pub record Said : Type 0 where
  pub contents : Option (List ℕ)
  pub failures : ℕ

abbrev pub said_on : {W : Type 0} → Ghosts W → ErrorStream W → Said
said_on write errors = record { contents = write.contents errors.stream; failures = errors.failures }

-- The whole line was said; or a write of it failed, and a prefix was said.
abbrev pub SaysLine : Said → Said → List ℕ → Type 0
SaysLine errors told line =
    (Appends errors.contents told.contents line × (told.failures ≡ errors.failures)) ⊎ (PutsPrefix errors.contents told.contents line × (told.failures ≡ counted true errors.failures))

-- Of an outcome that is a fault its line was said, or a prefix where a write failed; of another nothing.
abbrev pub Reports : {T : Type 0} → List ℕ → Result T Fault → Said → Said → Type 0
Reports name (Ok x) errors told = told ≡ errors
Reports name (Err fault) errors told = SaysLine errors told (fault_line name fault)

-- A program with this name ended with this status, which is that of an outcome, and said of it what there is to say.
abbrev pub ReportsOutcome : List ℕ → ℕ → Said → Said → Type 0
ReportsOutcome name status errors told = (outcome : Result (Unit {0}) Fault) × (status ≡ status_of outcome) × Reports name outcome errors told
