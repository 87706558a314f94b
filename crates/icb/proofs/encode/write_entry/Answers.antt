use Rattle.std.proofs.Common.{ℕ, ◌+◌, List, [], ◌∷◌, ◌++◌, length, take, sym, ap, ◌∙◌}
use Rattle.std.specs.List.{concat}
use Rattle.std.proofs.lemmas.List.{length-append}
use Rattle.ecma.specs.Descriptor.{descriptor_block}
use Rattle.icb.specs.Entry.{entry_parts, file_type, permissions}
use Rattle.icb.proofs.EntryBlocks.{joined}
use Rattle.icb.proofs.encode.write_entry.Goals as goal

pub returns : goal.returns
returns c =
    let e = c.args.entry.now in
    let front = c.args.before.now in
    let rest = c.args.allocation.now in
    let after = front ++ rest in
    let block : ℕ → ℕ → ℕ → List ℕ = λ (kind rights size : ℕ). descriptor_block 261 c.args.loc (concat (entry_parts kind c.args.flags rights e.links size c.args.blocks c.args.stamp.now e.unique (length after) after)) in
    let fields : ℕ → List (List ℕ) = λ (len : ℕ). take 25 (entry_parts c.file_type.result c.args.flags c.permissions.result e.links c.from.result c.args.blocks c.args.stamp.now e.unique len []) in
    c.write_descriptor.ensures.block
    ∙ ap (λ (x : List ℕ). descriptor_block 261 c.args.loc x) (joined (fields (length front + length rest)) front rest)
    ∙ ap (λ (len : ℕ). descriptor_block 261 c.args.loc (concat (fields len ++ after ∷ []))) (sym (length-append front rest))
    ∙ ap (λ (kind : ℕ). block kind c.permissions.result c.from.result) c.file_type.ensures
    ∙ ap (λ (rights : ℕ). block (file_type e.kind) rights c.from.result) c.permissions.ensures
    ∙ ap (λ (size : ℕ). block (file_type e.kind) (permissions e.kind) size) c.from.ensures
