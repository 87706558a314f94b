use Rattle.std.proofs.Common.{List, ◌++◌, ℕ, ap, subst, ◌∙◌}
use Rattle.ecma.specs.Descriptor.{IsDescriptor}
use Rattle.osta.specs.Dstring.{dstring}
use Rattle.volume.specs.Descriptors.{primary_fields}
use Rattle.volume.proofs.descriptors.primary.Goals as goal

pub returns : goal.returns
returns c =
    let set = c.dstring_128_after-set.ensures.value ∙ ap (λ (x : List ℕ). dstring 128 (x ++ c.args.label.now)) c.digits.ensures.value in
    subst (λ (x : List ℕ). IsDescriptor 1 c.args.n (primary_fields c.args.volume x c.args.stamp) c.descriptor_block.result) set c.descriptor_block.ensures
