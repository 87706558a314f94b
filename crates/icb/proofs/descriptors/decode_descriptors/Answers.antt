use Rattle.std.proofs.Common.{ℕ, ◌<◌, get_or, arith}
use Rattle.icb.proofs.DescriptorReads.{found_descriptors, only_descriptors}
use Rattle.icb.proofs.descriptors.decode_descriptors.Goals as goal

pub returns-clause-found : goal.returns-clause-found
returns-clause-found c =
    let bytes : (i : ℕ) → get_or c.args.block.now i 0 < 256 = λ i. omega (arith, c.fits-block i) in
    found_descriptors c.args.size c.args.number c.args.block.now c.examine_descriptors.result c.told-block bytes c.examine_descriptors.ensures.rules

pub returns-clause-only : goal.returns-clause-only
returns-clause-only c = only_descriptors c.args.size c.args.number c.args.block.now c.examine_descriptors.result c.examine_descriptors.ensures.fault
