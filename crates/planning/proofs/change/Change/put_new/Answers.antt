use Rattle.std.proofs.Common.{◌++◌, ◌∷◌, ◌∙◌, [], map, sym, ap}
use Rattle.durability.specs.Volume.{bytes_in_extents}
use Rattle.lookup.specs.Extents.{full_size}
use Rattle.model.specs.Graph.{as_stored}
use Rattle.model.specs.Graph.Body.{Bytes}
use Rattle.planning.specs.Writings.{directory_writing}
use Rattle.planning.specs.Changes.{new_writing}
use Rattle.planning.specs.declared.change.NewContent.{NewContent}
use Rattle.planning.proofs.Replacing.{nothing_kept}
use Rattle.udf.specs.Udf.{all_firsts}
use Rattle.planning.proofs.change.Change.put_new.Goals as goal

pub returns-in-File-clause-put : goal.returns-in-File-clause-put
returns-in-File-clause-put c medium none empty =
    let e = c.whole.ensures in
    (λ i. record {
      address = e.address i;
      kept = full_size (e.kept i);
      firsts = all_firsts (e.kept i);
      stored = as_stored (e.unique i) c.args.moment (Bytes (bytes_in_extents medium (full_size (e.kept i)) (all_firsts (e.kept i)) ++ e.bytes i));
    } ∷ map directory_writing (empty i))
    ∙ sym (ap (λ (t : NewContent). new_writing c.args.address c.args.unique c.args.moment c.args.parent.address t ∷ []) c.in-File.is)

pub returns-in-File-clause-kept : goal.returns-in-File-clause-kept
returns-in-File-clause-kept c medium none = nothing_kept medium c.whole.result c.whole.ensures.kept
