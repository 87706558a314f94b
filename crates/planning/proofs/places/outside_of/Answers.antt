use Rattle.std.proofs.Common.{◌∙◌, sym}
use Rattle.lookup.specs.Extents.{full_size}
use Rattle.planning.proofs.Growing.{outside_kept, some_kept}
use Rattle.planning.proofs.places.outside_of.Goals as goal

pub returns-then-not-is_empty-clause-value : goal.returns-then-not-is_empty-clause-value
returns-then-not-is_empty-clause-value c =
    let kept = full_size c.args.file.now.kept in
    let bytes = c.args.file.now.bytes.now in
    let some = some_kept c.is_empty.result kept c.is_empty.ensures.size c.if-not-is_empty.true in
    c.as_slice-bytes.ensures.bytes ∙ sym (outside_kept kept bytes some)
