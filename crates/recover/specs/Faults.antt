-- How many failures of the drive a refusal stands for.
use Rattle.std.specs.Prelude.{◌≡◌, ◌⊎◌, ℕ, Result, Ok, Err}
use Rattle.recover.specs.declared.fault.StoreFault.{StoreFault}
use Rattle.recover.specs.declared.fault.StoreFault.TheVariants.{NotBlank, Label, Small, Device, Memory, NotFormatted, Damaged, Full, Stopped, NoCommit, NotFound, IsDirectory, NotDirectory, TooLong}

abbrev pub device_failures : StoreFault → ℕ
device_failures NotBlank = 0
device_failures Label = 0
device_failures Small = 0
device_failures Device = 1
device_failures Memory = 0
device_failures NotFormatted = 0
device_failures (Damaged block cause) = 0
device_failures Full = 0
device_failures Stopped = 0
device_failures NoCommit = 0
device_failures NotFound = 0
device_failures IsDirectory = 0
device_failures NotDirectory = 0
device_failures TooLong = 0

abbrev pub devices : {T : Type 0} → Result T StoreFault → ℕ
devices (Ok x) = 0
devices (Err fault) = device_failures fault

-- the drive failed, or memory was short
abbrev pub IsShortage : StoreFault → Type 0
IsShortage fault = (fault ≡ Device) ⊎ (fault ≡ Memory)
