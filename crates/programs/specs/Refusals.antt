-- Why a program began nothing, or a daemon served nothing, what it says of its connections, and how.
use Rattle.std.specs.Prelude.{◌≡◌, ◌⊎◌, ⊤, ℕ, List, [], ◌∷◌, codes, Result, Ok, Err}
use Rattle.limits.specs.declared.TheConstants.{GREATEST_CAPACITY}
use Rattle.command_line.specs.declared.daemon.DaemonWords.{DaemonWords}
use Rattle.command_line.specs.Daemon.{AsksDaemon}
use Rattle.engine.specs.Situation.{Situation}
use Rattle.recover.specs.declared.fault.StoreFault.TheVariants as stores
use Rattle.programs.specs.declared.fault.Fault.{Fault}
use Rattle.programs.specs.declared.fault.Fault.TheVariants.{Usage, Path, Socket, Store, Stream}
use Rattle.programs.specs.FaultLines.{Said, SaysLine, fault_line}
use Rattle.programs.specs.Images.{AreUntouched, HasFailed, Images, IsThere, IsUnchanged, OnMedia}
use Rattle.programs.specs.Status.{fault_status}

-- these are words of the daemon
abbrev pub AreDaemonWords : List (List ℕ) → Type 0
AreDaemonWords words = (asked : DaemonWords) × AsksDaemon words asked

-- these are words of the daemon, and this was done on the drive of the image that they name
abbrev pub OnAsked : List (List ℕ) → (DaemonWords → Situation → Situation → Type 0) → Images → Images → Type 0
OnAsked words Did old new = (asked : DaemonWords) × AsksDaemon words asked × OnMedia IsThere GREATEST_CAPACITY asked.image.now (Did asked) old new

-- They are none, memory is short to read them, or what they name cannot be had: the image, or then the socket.
abbrev pub RefusesDaemon : List (List ℕ) → Fault → Images → Images → Type 0
RefusesDaemon words Usage old new = AreUntouched old new × ((asked : DaemonWords) → AsksDaemon words asked → ⊥)
RefusesDaemon words Path old new = ⊥
RefusesDaemon words Socket old new = OnAsked words (λ asked. IsUnchanged) old new
RefusesDaemon words (Store fault) old new = AreUntouched old new × ((fault ≡ stores.Memory) ⊎ ((fault ≡ stores.Device) × HasFailed old new × AreDaemonWords words))
RefusesDaemon words (Stream fault) old new = ⊥

-- by the outcome, of the image at this path: this was done, the socket could not be had, or the image could not
abbrev pub ServesImage : {T : Type 0} → List ℕ → (Situation → Situation → Type 0) → Result T Fault → Images → Images → Type 0
ServesImage image Did (Ok x) old new = OnMedia IsThere GREATEST_CAPACITY image Did old new
ServesImage image Did (Err Usage) old new = ⊥
ServesImage image Did (Err Path) old new = ⊥
ServesImage image Did (Err Socket) old new = OnMedia IsThere GREATEST_CAPACITY image IsUnchanged old new
ServesImage image Did (Err (Store fault)) old new = AreUntouched old new × (fault ≡ stores.Device) × HasFailed old new
ServesImage image Did (Err (Stream fault)) old new = ⊥

-- this is its status, and the line that is said of it, or a prefix where a write failed
pub record ReportsRefusal (words : List (List ℕ)) (status : ℕ) (old new : Images) (errors told : Said) : Type 0 where
  pub fault : Fault
  pub refuses : RefusesDaemon words fault old new
  pub status_is : status ≡ fault_status fault
  pub line : SaysLine errors told (fault_line (codes "udfburnd") fault)

-- why a connection could not be had, or was left
abbrev pub IsLeaving : Fault → Type 0
IsLeaving Usage = ⊥
IsLeaving Path = ⊥
IsLeaving Socket = ⊤
IsLeaving (Store fault) = fault ≡ stores.Memory
IsLeaving (Stream fault) = ⊤

-- the lines of such faults were said one after another, the last of them first here, or a prefix of one where a write failed
abbrev pub ReportsEach : List Fault → Said → Said → Type 0
ReportsEach [] errors told = told ≡ errors
ReportsEach (fault ∷ earlier) errors told =
    (between : Said) × ReportsEach earlier errors between × IsLeaving fault × SaysLine between told (fault_line (codes "udfburnd") fault)

-- such lines were said, and nothing else
pub record ReportsFaults (errors told : Said) : Type 0 where
  pub faults : List Fault
  pub lines : ReportsEach faults errors told

-- The words of the process are no texts, memory is short for them or for the output, or a descriptor cannot be held.
abbrev pub IsEarly : Fault → Type 0
IsEarly fault = (fault ≡ Usage) ⊎ ((fault ≡ Store stores.Memory) ⊎ (fault ≡ Store stores.Device))

-- So a program of this name ended before anything was begun.
pub record ReportsEarly (name : List ℕ) (status : ℕ) (errors told : Said) : Type 0 where
  pub fault : Fault
  pub early : IsEarly fault
  pub status_is : status ≡ fault_status fault
  pub line : SaysLine errors told (fault_line name fault)

-- why the process of a daemon served nothing: before it had its words, or with these
abbrev pub IsDaemonReported : ℕ → Images → Images → Said → Said → Type 0
IsDaemonReported status old new errors told =
    (AreUntouched old new × ReportsEarly (codes "udfburnd") status errors told) ⊎ ((words : List (List ℕ)) × ReportsRefusal words status old new errors told)
