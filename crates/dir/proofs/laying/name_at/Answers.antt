use Rattle.std.proofs.Common.{Some, ap, sym, ◌∙◌}
use Rattle.dir.proofs.Filling.{identifier_at}
use Rattle.dir.proofs.laying.name_at.Goals as goal

pub returns-clause-value : goal.returns-clause-value
returns-clause-value c =
    let dir = c.args.dir.now in
    ap Some c.of_name.ensures.value ∙ sym (identifier_at dir.parent dir.entries.entries c.args.index c.in_ok-name.name.now c.in_ok-name.entry.now c.in_ok-name.ensures.entry)
