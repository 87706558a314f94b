use Rattle.std.proofs.Common.{◌≡◌, ◌*◌, arith}
use Rattle.ecma.specs.Numbers.{u32_at}
use Rattle.icb.specs.Extents.{slots}
use Rattle.icb.proofs.DescriptorReads.{front_is}
use Rattle.icb.proofs.descriptors.examine_descriptors.Goals as goal

pub returns-clause-descriptors : goal.returns-clause-descriptors
returns-clause-descriptors c =
    let len : u32_at 20 c.args.block.now ≡ 16 * slots 126 c.args.size = omega (arith, c.u32_at.ensures, c.slots.ensures.slots, c.if-u32_at-slots.false) in
    front_is c.args.block.now c.split_at.result.0.now c.descriptors_end-end.result (slots 126 c.args.size) c.descriptors_end-end.ensures.value c.split_at.ensures.front c.split_at.ensures.front_len len (omega arith)
