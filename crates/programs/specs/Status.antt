-- The statuses with which the programs end.
use Rattle.std.specs.Prelude.{◌≡◌, ℕ, Result, Ok, Err}
use Rattle.recover.specs.Faults.{device_failures}
use Rattle.recover.specs.declared.fault.StoreFault.TheVariants as store
use Rattle.request.specs.declared.path.PathFault.{PathFault}
use Rattle.request.specs.declared.path.PathFault.TheVariants as paths
use Rattle.command_line.specs.declared.daemon.WordsFault.{WordsFault}
use Rattle.command_line.specs.declared.daemon.WordsFault.TheVariants as words
use Rattle.programs.specs.declared.fault.Fault.{Fault}
use Rattle.programs.specs.declared.fault.Fault.TheVariants.{Usage, Path, Socket, Store, Stream}

abbrev pub fault_status : Fault → ℕ
fault_status Usage = 2
fault_status Path = 1
fault_status Socket = 1
fault_status (Store fault) = 1
fault_status (Stream fault) = 1

abbrev pub status_of : {T : Type 0} → Result T Fault → ℕ
status_of (Ok x) = 0
status_of (Err fault) = fault_status fault

-- how many failures of a drive an outcome stands for
abbrev pub drive_failures : {T : Type 0} → Result T Fault → ℕ
drive_failures (Ok x) = 0
drive_failures (Err Usage) = 0
drive_failures (Err Path) = 0
drive_failures (Err Socket) = 0
drive_failures (Err (Store fault)) = device_failures fault
drive_failures (Err (Stream fault)) = 0

-- a program that has a command's words was refused
abbrev pub IsRefusal : Fault → Type 0
IsRefusal fault = fault_status fault ≡ 1

-- how a fault of the words is reported: other words as such, lack of memory as a refusal
abbrev pub AreWordsTold : WordsFault → Fault → Type 0
AreWordsTold words.Usage fault = fault ≡ Usage
AreWordsTold words.Memory fault = fault ≡ Store store.Memory

-- how a fault of a path is reported
abbrev pub IsPathTold : PathFault → Fault → Type 0
IsPathTold paths.Path fault = fault ≡ Path
IsPathTold paths.Memory fault = fault ≡ Store store.Memory
