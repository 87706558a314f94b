-- Whether a refusal is that of a drive that has no room, and what is refused for nothing but memory.
use Rattle.std.specs.Prelude.{◌≡◌, Bool, true, false, IfErr, Result, Ok, Err}
use Rattle.recover.specs.Faults.{devices}
use Rattle.recover.specs.declared.fault.StoreFault.{StoreFault}
use Rattle.recover.specs.declared.fault.StoreFault.TheVariants.{NotBlank, Label, Small, Device, Memory, NotFormatted, Damaged, Full, Stopped, NoCommit, NotFound, IsDirectory, NotDirectory, TooLong}

abbrev pub names_full : StoreFault → Bool
names_full NotBlank = false
names_full Label = false
names_full Small = false
names_full Device = false
names_full Memory = false
names_full NotFormatted = false
names_full (Damaged block cause) = false
names_full Full = true
names_full Stopped = false
names_full NoCommit = false
names_full NotFound = false
names_full IsDirectory = false
names_full NotDirectory = false
names_full TooLong = false

abbrev pub is_full : {T : Type 0} → Result T StoreFault → Bool
is_full (Ok x) = false
is_full (Err fault) = names_full fault

-- nothing is refused but where memory is short, so the drive has room and did not fail
pub record OnlyMemoryIsShort {T : Type 0} (result : Result T StoreFault) : Type 0 where
  pub memory : IfErr result (λ fault. fault ≡ Memory)
  pub full : is_full result ≡ false
  pub failures : devices result ≡ 0
