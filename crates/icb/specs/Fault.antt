-- The numbers of faults.
use Rattle.std.specs.Prelude.{ℕ}
use Rattle.icb.specs.declared.fault.IcbFault.{IcbFault}
use Rattle.icb.specs.declared.fault.IcbFault.TheVariants as faults

abbrev pub icb_number : IcbFault → ℕ
icb_number faults.Tag = 21
icb_number faults.Strategy = 22
icb_number faults.Kind = 23
icb_number faults.Fixed = 24
icb_number faults.Lengths = 25
icb_number faults.Extent = 26
icb_number faults.Tail = 27
