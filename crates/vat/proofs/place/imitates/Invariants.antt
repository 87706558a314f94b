use Rattle.std.proofs.Common.{ℕ, ◌+◌, ◌<◌}
use Rattle.icb.specs.VatIcb.{IsVatIcb}
use Rattle.vat.specs.Imitation.{data_block}
use Rattle.vat.proofs.place.imitates.Given as goal

abbrev pub invariant-loop-i : goal.invariant-loop-i
invariant-loop-i l = (k : ℕ) → k < l.i → IsVatIcb (data_block l.bytes k) (l.start + k) → ⊥
