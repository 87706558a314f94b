-- Entries, file sets and descriptor blocks have one spelling.
use Rattle.std.proofs.Common.{◌≡◌, ℕ, List, length, sym, ap, subst, ◌∙◌}
use Rattle.std.specs.List.{concat}
use Rattle.ecma.specs.Descriptor.{IsDescriptor}
use Rattle.ecma.proofs.Seals.{one_descriptor}
use Rattle.ecma.proofs.Timestamps as timestamps
use Rattle.icb.specs.Entry.{entry_parts, file_type, permissions, flags_of, blocks_recorded, allocation}
use Rattle.icb.specs.Extents.{descriptors_body}
use Rattle.icb.specs.FileSet.{set_parts}
use Rattle.icb.specs.Laws.{OneBlock, OneDescriptorBlock, OneSet}
use Rattle.icb.proofs.DescriptorBlocks.{block_descriptors}

pub one_block : OneBlock
one_block e loc a b a-fits b-fits x y =
    let stamp : x.laid.stamp ≡ y.laid.stamp = timestamps.one_spelling e.moment x.laid.stamp y.laid.stamp x.laid.moment y.laid.moment in
    let after : List ℕ = allocation e.size e.place in
    let parts : List ℕ → List ℕ =
    λ (s : List ℕ). concat (entry_parts (file_type e.kind) (flags_of e.place) (permissions e.kind) e.links e.size (blocks_recorded e.size e.place) s e.unique (length after) after) in
    one_descriptor 261 loc (parts y.laid.stamp) a b a-fits b-fits (subst (λ (s : List ℕ). IsDescriptor 261 loc (parts s) a) stamp x.laid.whole) y.laid.whole

pub one_set : OneSet
one_set set a b a-fits b-fits x y =
    let stamp : x.has.stamp ≡ y.has.stamp = timestamps.one_spelling set.moment x.has.stamp y.has.stamp x.has.moment y.has.moment in
    let fields : x.fields ≡ y.fields = x.has.spelled ∙ ap (λ (s : List ℕ). concat (set_parts set.label s)) stamp ∙ sym y.has.spelled in
    one_descriptor 256 0 y.fields a b a-fits b-fits (subst (λ (f : List ℕ). IsDescriptor 256 0 f a) fields x.whole) y.whole

pub one_descriptor_block : OneDescriptorBlock
one_descriptor_block size number a b a-fits b-fits x y same =
    let descriptors : x.descriptors ≡ y.descriptors = sym (block_descriptors size number a x) ∙ same ∙ block_descriptors size number b y in
    one_descriptor 258 number (descriptors_body y.descriptors) a b a-fits b-fits (subst (λ (l : List ℕ). IsDescriptor 258 number (descriptors_body l) a) descriptors x.whole) y.whole
