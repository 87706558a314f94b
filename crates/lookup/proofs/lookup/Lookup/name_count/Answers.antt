use Rattle.std.proofs.Common.{◌∙◌, sym, ap, length}
use Rattle.std.proofs.lemmas.List.{length-map}
use Rattle.model.specs.Graph.{Body, entries_in}
use Rattle.udf.specs.Said.{said_entry}
use Rattle.lookup.proofs.Looking.{failed, looks_keep, sound_kept}
use Rattle.lookup.proofs.lookup.Lookup.name_count.Goals as goal

pub returns-in_err-placed-clause-count : goal.returns-in_err-placed-clause-count
returns-in_err-placed-clause-count g c k s there d = failed c.from_residual.result _ _ _ c.from_residual.ensures.1 (c.in_err-placed.ensures.opened k s there d).1

pub returns-clause-count : goal.returns-clause-count
returns-clause-count g c k s there d =
    let body = (c.in_ok-placed.ensures.opened (sound_kept c.keep.ensures k) s there d).0.body in
    (c.len-count.ensures.len ∙ sym (ap (λ (b : Body). length (entries_in b)) body ∙ length-map c.in_ok-placed.content.dir.entries.entries said_entry), tt)

pub returns-clause-looks : goal.returns-clause-looks
returns-clause-looks g c = looks_keep c.in_ok-placed.ensures.looks c.keep.ensures c.in_ok-placed.ensures.lies.lies
