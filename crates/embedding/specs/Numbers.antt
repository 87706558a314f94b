-- The numbers by which C learns of outcomes.
use Rattle.std.specs.Prelude.{ℤ, pos, Result, Ok, Err}
use Rattle.recover.specs.declared.fault.StoreFault.{StoreFault}
use Rattle.recover.specs.declared.fault.StoreFault.TheVariants as stores
use Rattle.embedding.specs.declared.fault.Fault.{Fault}
use Rattle.embedding.specs.declared.fault.Fault.TheVariants.{Memory, Device, TooLong, Text, Volume, Nothing}

abbrev pub number_of : Fault → ℤ
number_of Memory = pos 1
number_of Device = pos 2
number_of TooLong = pos 3
number_of Text = pos 4
number_of Volume = pos 5
number_of Nothing = pos 7

-- 0 where it was done
abbrev pub status : {T : Type 0} → Result T Fault → ℤ
status (Ok x) = pos 0
status (Err fault) = number_of fault

-- what a refusal of a store or of a format is to the caller
abbrev pub fault_of_store : StoreFault → Fault
fault_of_store stores.NotBlank = Volume
fault_of_store stores.Label = Text
fault_of_store stores.Small = Volume
fault_of_store stores.Device = Device
fault_of_store stores.Memory = Memory
fault_of_store stores.NotFormatted = Volume
fault_of_store (stores.Damaged block cause) = Volume
fault_of_store stores.Full = Volume
fault_of_store stores.Stopped = Volume
fault_of_store stores.NoCommit = Nothing
fault_of_store stores.NotFound = Volume
fault_of_store stores.IsDirectory = Volume
fault_of_store stores.NotDirectory = Volume
fault_of_store stores.TooLong = Volume
