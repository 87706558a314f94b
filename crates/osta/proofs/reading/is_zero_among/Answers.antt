use Rattle.std.proofs.Common.{◌==◌, refl, rules, tests}
use Rattle.std.proofs.lemmas.Iterator.Consumers.{YieldsList-from_first}
use Rattle.std.proofs.lemmas.Iterator.Search.{any_from_yields_List}
use Rattle.osta.specs.Compressed.{units}
use Rattle.osta.specs.declared.reading.Units.{Units}
use Rattle.osta.proofs.reading.is_zero_among.Goals as goal

pub returns : goal.returns
returns c =
    let s : Units = record { 0 = c.args.bytes } in
    any_from_yields_List {s = s} (λ c. c == 0) c.any.new.self _ _ c.any.ensures.ran (YieldsList-from_first (λ x. x) (λ s. units s.0.now) {s = s} (units c.args.bytes.now) refl) (λ x b q k. search (rules, tests))
