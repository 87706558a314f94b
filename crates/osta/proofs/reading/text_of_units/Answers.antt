use Rattle.std.proofs.Common.{◌≡◌, map, ap, ◌∙◌, refl, rules}
use Rattle.std.proofs.lemmas.Result.{IfOk-weaker}
use Rattle.std.proofs.lemmas.Iterator.{YieldsList-from_map, text_from_collect}
use Rattle.std.proofs.lemmas.Iterator.Consumers.{YieldsList-from_first, YieldsList-at}
use Rattle.std.specs.Prelude.{string_bytes, encode_utf8_all}
use Rattle.osta.specs.Compressed.{units, unit_character}
use Rattle.osta.specs.declared.reading.Units.{Units}
use Rattle.osta.proofs.Spellings.{map-unit_character, units_scalars}
use Rattle.osta.proofs.reading.text_of_units.Goals as goal

pub returns : goal.returns
returns c =
    let s : Units = record { 0 = c.args.bytes } in
    let us = units c.args.bytes.now in
    IfOk-weaker c.collect.result (λ text. string_bytes text ≡ encode_utf8_all (map unit_character us)) (λ text. string_bytes text ≡ encode_utf8_all us)
    (λ text told. told ∙ ap encode_utf8_all (map-unit_character us (units_scalars us c.requires)))
    (text_from_collect _ c.collect.ensures.ran (YieldsList-from_map _ unit_character (YieldsList-at c.map.ensures.source (YieldsList-from_first (λ x. x) (λ s. units s.0.now) {s = s} us refl)) c.map.ensures.closure (λ x r q k. search rules)))
