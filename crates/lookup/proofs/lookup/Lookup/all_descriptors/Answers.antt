use Rattle.std.proofs.Common.{◌≡◌, ◌+◌, ◌*◌, ◌<◌, ◌∙◌, ◌++◌, List, ℕ, ap, length-take, slice_get, subst, sym, take, arith}
use Rattle.limits.specs.declared.TheConstants.{BLOCK_DESCRIPTORS, PARTITION_START}
use Rattle.drive.specs.Journal.{held}
use Rattle.icb.specs.Extents.{AreExtents, IsDescriptorBlock, descriptor_blocks, descriptors_in, listed}
use Rattle.lookup.proofs.AllDescriptors.{block_seen, entry_are, gathered_long, gathers_more, gathers_none}
use Rattle.lookup.proofs.Looking.{below_same, looks_failed, looks_none, looks_then, refused_by}
use Rattle.lookup.proofs.lookup.Lookup.all_descriptors.Goals as goal

pub returns-then-count-eq0-clause-are : goal.returns-then-count-eq0-clause-are
returns-then-count-eq0-clause-are g c =
    let none : descriptor_blocks c.args.size ≡ 0 = omega (arith, c.if-count-eq0.true, c.descriptor_blocks-count.ensures.count) in
    subst (λ (d : List ℕ). AreExtents 0 c.args.size d) (sym (c.in_ok-to_vec.ensures.items_if_clones_equal (λ x y e. e))) (entry_are c.args.size c.args.descriptors.now none c.requires.are)

pub slice_bounds-to_vec-end : goal.slice_bounds-to_vec-end
slice_bounds-to_vec-end g c =
    omega (arith, c.if-count-eq0.false, c.descriptor_blocks-count.ensures.count, c.requires.long, length-take 1_856 c.args.descriptors.now)

pub loop-number-init : goal.loop-number-init
loop-number-init g c = record {
  looks = looks_none;
  gathers = gathers_none _ _ c.args.size c.in_ok-first.first c.args.descriptors.now c.in_ok-all.all.items c.requires.long (omega (arith, c.if-count-eq0.false, c.descriptor_blocks-count.ensures.count)) (c.in_ok-all.ensures.items_if_clones_equal (λ x y e. e));
}

pub returns-in_err-add_descriptors-clause-short : goal.returns-in_err-add_descriptors-clause-short
returns-in_err-add_descriptors-clause-short g c honest all =
    let M = take c.args.self.now.nodes.vat_icb_address (held (g.D.Drive.journal c.args.self.now.drive.now)) in
    let low : c.loop-number.number < descriptor_blocks c.args.size = omega (arith, c.loop-number-test.true, c.descriptor_blocks-count.ensures.count) in
    let has = block_seen M c.args.size c.args.descriptors.now c.requires.long c.requires.are all _ c.in_ok-first.first c.loop-number.number c.bytes_from_block.result (below_same c.loop-number.invariant.looks) c.in_ok-first.ensures.first c.bytes_from_block.ensures.bytes low in
    refused_by c.from_residual-in_err-add_descriptors.result _ _ c.from_residual-in_err-add_descriptors.ensures.1 (c.in_err-add_descriptors.ensures.refused honest has)

pub returns-in_err-add_descriptors-clause-looks : goal.returns-in_err-add_descriptors-clause-looks
returns-in_err-add_descriptors-clause-looks g c =
    looks_failed c.from_residual-in_err-add_descriptors.result _ c.from_residual-in_err-add_descriptors.ensures.1 (looks_then c.loop-number.invariant.looks c.in_err-add_descriptors.ensures.looks)

pub loop-number-preserved : goal.loop-number-preserved
loop-number-preserved g c =
    let p = c.loop-number.invariant.looks in
    let q = c.in_ok-add_descriptors.ensures.looks in
    let a = c.in_ok-add_descriptors.ensures.added in
    let number = c.in_ok-first.first + c.loop-number.number in
    let bytes = c.bytes_from_block.ensures.bytes in
    record {
      looks = looks_then p q;
      gathers = gathers_more _ _ _ c.args.size c.in_ok-first.first c.loop-number.number c.args.descriptors.now c.loop-number.all.items c.add_descriptors.new.all.items a.block c.loop-number.invariant.gathers
          (omega (arith, c.loop-number-test.true, c.descriptor_blocks-count.ensures.count))
          (subst (λ (n : ℕ). IsDescriptorBlock n number a.block) bytes a.is) q.reads.honest
          (λ honest. ap (λ (M : List (List ℕ)). slice_get M (number + PARTITION_START)) (sym (below_same p)) ∙ a.there honest)
          (a.items ∙ ap (λ (n : ℕ). c.loop-number.all.items ++ take (16 * listed BLOCK_DESCRIPTORS n) (descriptors_in a.block)) bytes);
    }

pub returns-clause-long : goal.returns-clause-long
returns-clause-long g c =
    let last : c.loop-number.number ≡ descriptor_blocks c.args.size = omega (arith, c.loop-number-test.false, c.loop-number.auto.number-end, c.descriptor_blocks-count.ensures.count) in
    (gathered_long _ _ c.args.size c.in_ok-first.first c.loop-number.number c.args.descriptors.now c.loop-number.all.items c.loop-number.invariant.gathers last c.requires.long c.requires.are).0

pub returns-clause-are : goal.returns-clause-are
returns-clause-are g c =
    let last : c.loop-number.number ≡ descriptor_blocks c.args.size = omega (arith, c.loop-number-test.false, c.loop-number.auto.number-end, c.descriptor_blocks-count.ensures.count) in
    (gathered_long _ _ c.args.size c.in_ok-first.first c.loop-number.number c.args.descriptors.now c.loop-number.all.items c.loop-number.invariant.gathers last c.requires.long c.requires.are).1
