-- The numbers of faults.
use Rattle.std.specs.Prelude.{ℕ}
use Rattle.dir.specs.declared.fault.DirFault.{DirFault}
use Rattle.dir.specs.declared.fault.DirFault.TheVariants as faults

abbrev pub dir_number : DirFault → ℕ
dir_number faults.Tag = 31
dir_number faults.Parent = 32
dir_number faults.Name = 33
dir_number faults.Twice = 34
dir_number faults.Span = 35
dir_number faults.Pad = 36
dir_number faults.End = 37
dir_number faults.Memory = 7
