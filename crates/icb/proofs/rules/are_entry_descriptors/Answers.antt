use Rattle.std.proofs.Common.{◌≡◌, ℕ, ◌<◌, subst, arith}
use Rattle.ecma.specs.Numbers.{u32_at}
use Rattle.icb.specs.Extents.{AreDescriptors, extent_count}
use Rattle.icb.proofs.EntryLaws.{descriptor_first}
use Rattle.icb.proofs.rules.are_entry_descriptors.Goals as goal

pub returns-then-extent_count-room : goal.returns-then-extent_count-room
returns-then-extent_count-room c = (
  (λ yes. (0, omega (arith, c.extent_count.ensures.count, c.if-extent_count-room.true), c.are_descriptors.ensures.0 yes)),
  (λ all. c.are_descriptors.ensures.1 (record {
    extents = all.2.extents;
    leads = λ more. absurd (let no : ⊥ = omega (arith, more, c.extent_count.ensures.count, c.if-extent_count-room.true) in no);
  })),
)

pub returns-then-from : goal.returns-then-from
returns-then-from c = (
  (λ no. absurd cc),
  (λ all.
      let more : 117 < extent_count c.args.size = omega (arith, c.extent_count.ensures.count, c.if-extent_count-room.false) in
      let first : u32_at 2036 c.args.block.now ≡ all.0 = descriptor_first 2032 3_221_227_520 all.0 c.args.block.now (omega (arith, all.1)) (all.2.leads more) in
      absurd (let no : ⊥ = omega (arith, first, all.1, c.u32_at-next.ensures, c.descriptor_blocks.ensures.count, c.if-from.true) in no)),
)

pub returns : goal.returns
returns c =
    let more : 117 < extent_count c.args.size = omega (arith, c.extent_count.ensures.count, c.if-extent_count-room.false) in (
      (λ yes. (c.u32_at-next.result, omega (arith, c.descriptor_blocks.ensures.count, c.if-from.false), c.are_descriptors-2.ensures.0 yes)),
      (λ all.
          let first : u32_at 2036 c.args.block.now ≡ all.0 = descriptor_first 2032 3_221_227_520 all.0 c.args.block.now (omega (arith, all.1)) (all.2.leads more) in
          let same : all.0 ≡ c.u32_at-next.result = omega (arith, first, c.u32_at-next.ensures) in
          c.are_descriptors-2.ensures.1 (subst (λ (n : ℕ). AreDescriptors 117 176 c.args.size n c.args.block.now) same all.2)),
    )
