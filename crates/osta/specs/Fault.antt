-- The faults, and the numbers by which they are shown.
use Rattle.std.specs.Prelude.{ℕ, Option, Some, None}
use Rattle.osta.specs.declared.fault.NameFault.{NameFault}
use Rattle.osta.specs.declared.fault.NameFault.TheVariants as name
use Rattle.osta.specs.declared.fault.OstaFault.{OstaFault}
use Rattle.osta.specs.declared.fault.OstaFault.TheVariants as osta

-- the fault of the text that an answer reports: none where it reports lack of memory
abbrev pub text_fault : NameFault → Option NameFault
text_fault name.Empty = Some name.Empty
text_fault name.Dot = Some name.Dot
text_fault name.Slash = Some name.Slash
text_fault name.Nul = Some name.Nul
text_fault name.Wide = Some name.Wide
text_fault name.Long = Some name.Long
text_fault name.Memory = None

abbrev pub name_number : NameFault → ℕ
name_number name.Empty = 1
name_number name.Dot = 2
name_number name.Slash = 3
name_number name.Nul = 4
name_number name.Wide = 5
name_number name.Long = 6
name_number name.Memory = 7

-- the fault of the bytes that an answer reports: none where it reports lack of memory
abbrev pub bytes_fault : OstaFault → Option OstaFault
bytes_fault osta.Memory = None
bytes_fault osta.CompId = Some osta.CompId
bytes_fault osta.Odd = Some osta.Odd
bytes_fault osta.NotShortest = Some osta.NotShortest
bytes_fault osta.Surrogate = Some osta.Surrogate
bytes_fault osta.Count = Some osta.Count
bytes_fault osta.Tail = Some osta.Tail

abbrev pub osta_number : OstaFault → ℕ
osta_number osta.Memory = 7
osta_number osta.CompId = 11
osta_number osta.Odd = 12
osta_number osta.NotShortest = 13
osta_number osta.Surrogate = 14
osta_number osta.Count = 15
osta_number osta.Tail = 16
