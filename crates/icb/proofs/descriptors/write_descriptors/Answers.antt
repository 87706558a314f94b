use Rattle.std.proofs.Common.{◌≡◌, ◌<◌, ◌≤◌, ℕ, suc, ◌+◌, List, ◌++◌, get_or, ap, ◌∙◌, arith}
use Rattle.ecma.specs.Descriptor.{descriptor_block}
use Rattle.icb.specs.Extents.{descriptors_body, extent_count, next_descriptor}
use Rattle.icb.proofs.DescriptorWrites.{written_all, written_some}
use Rattle.icb.proofs.descriptors.write_descriptors.Goals as goal

pub returns-then-extent_count-le-ROOM : goal.returns-then-extent_count-le-ROOM
returns-then-extent_count-le-ROOM c =
    let descriptors = c.args.descriptors.now in
    let bytes : (i : ℕ) → get_or descriptors i 0 < 256 = λ i. omega (arith, c.type_inv.descriptors i) in
    let few : extent_count c.args.size ≤ 126 = omega (arith, c.extent_count.ensures.count, c.if-extent_count-le-ROOM.true) in
    let made = written_all c.args.size c.args.number descriptors c.write_list.new.block c.ranges.number.fits bytes few c.requires.long c.requires.are c.write_list.ensures in
    record { is = made.0; list = made.1 }

pub returns : goal.returns
returns c =
    let number = c.args.number in
    let descriptors = c.args.descriptors.now in
    let bytes : (i : ℕ) → get_or descriptors i 0 < 256 = λ i. omega (arith, c.type_inv.descriptors i) in
    let more : 126 < extent_count c.args.size = omega (arith, c.extent_count.ensures.count, c.if-extent_count-le-ROOM.false) in
    let next : c.next_descriptor-next.result ≡ next_descriptor (suc number) = c.next_descriptor-next.ensures ∙ ap next_descriptor (let after : number + 1 ≡ suc number = omega arith in after) in
    let block = c.write_list-2.ensures ∙ ap (λ (x : List ℕ). descriptor_block 258 number (descriptors_body (x ++ c.next_descriptor-next.result))) c.split_at.ensures.front in
    let made = written_some c.args.size number descriptors c.next_descriptor-next.result c.write_list-2.new.block (omega (arith, c.requires.number)) bytes more c.requires.long c.requires.are next block in
    record { is = made.0; list = made.1 }
