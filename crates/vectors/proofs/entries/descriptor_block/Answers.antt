use Rattle.std.proofs.Common.{ℕ, suc, List, ◌∙◌, length, sym, ap, subst}
use Rattle.icb.specs.Extents.{AreDescriptors, AreExtents}
use Rattle.icb.proofs.DescriptorBlocks.{block_are, block_long}
use Rattle.vectors.proofs.entries.descriptor_block.Goals as goal

pub with_others-requires-clause-long : goal.with_others-requires-clause-long
with_others-requires-clause-long c = ap length c.in-Ok.ensures.descriptors ∙ block_long c.args.size c.args.at c.args.block.now c.in-Ok.ensures.found

pub with_others-requires-clause-are : goal.with_others-requires-clause-are
with_others-requires-clause-are c = (
  suc c.args.at,
  subst (λ (xs : List ℕ). AreDescriptors 126 0 c.args.size (suc c.args.at) xs) (sym c.in-Ok.ensures.descriptors) (block_are c.args.size c.args.at c.args.block.now c.in-Ok.ensures.found),
)

pub write_descriptors-requires-clause-are : goal.write_descriptors-requires-clause-are
write_descriptors-requires-clause-are c = subst (λ (xs : List ℕ). AreExtents 0 c.args.size xs) (sym c.deref.ensures.value) c.in_ok-with_others.ensures.are
