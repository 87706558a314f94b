use Rattle.std.proofs.Common.{◌≡◌, ℕ, List, Some, arith, rules}
use Rattle.std.specs.Prelude.{slice_get}
use Rattle.dir.specs.declared.entry.Entry.{Entry}
use Rattle.dir.specs.Item.{said}
use Rattle.dir.proofs.Fronts.{size_more}
use Rattle.dir.proofs.kept.size_at.Goals as goal

pub returns-clause-value : goal.returns-clause-value
returns-clause-value c =
    let es = c.args.dir.now.entries.entries in
    let at : List ℕ × Entry = (c.unwrap.result.0.now, c.unwrap.result.1.now) in
    let found : slice_get es c.args.index ≡ Some at = search rules in
    omega (arith, size_more es c.args.index at (said c.of_name-item.result) found c.of_name-item.ensures.value, c.plain_size.ensures)
