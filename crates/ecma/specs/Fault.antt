-- The numbers of faults.
use Rattle.std.specs.Prelude.{ℕ}
use Rattle.ecma.specs.declared.tag.TagFault.{TagFault}
use Rattle.ecma.specs.declared.tag.TagFault.TheVariants as faults

abbrev pub tag_number : TagFault → ℕ
tag_number faults.Short = 1
tag_number faults.Id = 2
tag_number faults.Version = 3
tag_number faults.Checksum = 4
tag_number faults.Reserved = 5
tag_number faults.Serial = 6
tag_number faults.Length = 7
tag_number faults.Crc = 8
tag_number faults.Location = 9
