use Rattle.std.proofs.Common.{List, ℕ, subst}
use Rattle.ecma.specs.Descriptor.{IsDescriptor}
use Rattle.volume.specs.Descriptors.{use_fields}
use Rattle.volume.proofs.descriptors.implementation_use.Goals as goal

pub returns : goal.returns
returns c = subst (λ (x : List ℕ). IsDescriptor 4 c.args.n (use_fields x) c.descriptor_block.result) c.dstring_128-volume.ensures.value c.descriptor_block.ensures
