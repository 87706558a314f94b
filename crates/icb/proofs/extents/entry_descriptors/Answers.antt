use Rattle.std.proofs.Common.{◌≡◌, ℕ, ◌+◌, ◌*◌, ◌-◌, take, drop, ap, ◌∙◌, arith}
use Rattle.icb.specs.Extents.{slots}
use Rattle.icb.proofs.EntryReads.{descriptors_there}
use Rattle.icb.proofs.extents.entry_descriptors.Goals as goal

pub returns : goal.returns
returns c e loc entry size one =
    ap (λ (n : ℕ). take n (drop 176 c.args.block.now)) (let long : 176 + 16 * c.slots.result - 176 ≡ 16 * slots 117 c.args.size = omega (arith, c.slots.ensures.slots) in long)
    ∙ descriptors_there e loc c.args.size c.args.block.now entry size one
