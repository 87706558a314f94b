use Rattle.std.proofs.Common.{refl, rules, tests}
use Rattle.std.proofs.lemmas.Iterator.Consumers.{YieldsList-from_first}
use Rattle.std.proofs.lemmas.Iterator.Search.{all_from_yields_List}
use Rattle.osta.specs.Compressed.{units, is_unit}
use Rattle.osta.specs.declared.reading.Units.{Units}
use Rattle.osta.proofs.reading.are_units.Goals as goal

pub returns : goal.returns
returns c =
    let s : Units = record { 0 = c.args.bytes } in
    all_from_yields_List {s = s} is_unit c.all.new.self _ _ c.all.ensures.ran (YieldsList-from_first (λ x. x) (λ s. units s.0.now) {s = s} (units c.args.bytes.now) refl) (λ x b q k. search (rules, tests))
