use Rattle.std.proofs.Common.{◌≡◌, ℕ, List, [], ap, ◌∙◌}
use Rattle.dir.specs.declared.entry.Entry.{Entry}
use Rattle.dir.specs.Laying.{blocks_left}
use Rattle.dir.specs.Directory.{identifiers}
use Rattle.dir.specs.Layout.{identifier_blocks}
use Rattle.formatting.proofs.NewVolumes.{names_some, names_one}
use Rattle.formatting.proofs.formatting.root_names.Goals as goal

pub unwrap-requires : goal.unwrap-requires
unwrap-requires c =
    let laid : blocks_left c.new-2.result ≡ identifier_blocks 1 (identifiers 1 []) = c.new-2.ensures ∙ ap (λ (es : List (List ℕ × Entry)). identifier_blocks 1 (identifiers 1 es)) c.new.ensures.empty in
    names_some c.next_block.result (blocks_left c.new-2.result) _ laid c.next_block.ensures.next

pub returns : goal.returns
returns c =
    let laid : blocks_left c.new-2.result ≡ identifier_blocks 1 (identifiers 1 []) = c.new-2.ensures ∙ ap (λ (es : List (List ℕ × Entry)). identifier_blocks 1 (identifiers 1 es)) c.new.ensures.empty in
    names_one c.unwrap.result (blocks_left c.new-2.result) _ laid (rw c.unwrap.ensures at c.next_block.ensures.next)
