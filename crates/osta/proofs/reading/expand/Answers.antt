use Rattle.std.proofs.Common.{List, ℕ, sym, ◌∙◌, subst, arith}
use Rattle.osta.specs.Compressed.{Named}
use Rattle.osta.proofs.Rows.{some_none}
use Rattle.osta.proofs.Texts.{Named-expanded, faultless_from_Named, expanded_from_Named}
use Rattle.osta.proofs.reading.expand.Goals as goal

pub returns-in_err-check_encoding-clause-only : goal.returns-in_err-check_encoding-clause-only
returns-in_err-check_encoding-clause-only c = λ text named. absurd (some_none c.in_err-check_encoding.field-0.0 (c.in_err-check_encoding.ensures.fault ∙ faultless_from_Named text c.args.bytes.now named))

pub returns-clause-found : goal.returns-clause-found
returns-clause-found c = subst (λ (text : List ℕ). Named text c.args.bytes.now) (sym c.in_ok-expand_checked.ensures) (Named-expanded c.args.bytes.now (λ i. omega (arith, c.type_inv.bytes i)) (sym c.in_ok-check_encoding.ensures.fault))

pub returns-clause-only : goal.returns-clause-only
returns-clause-only c = λ text named. c.in_ok-expand_checked.ensures ∙ expanded_from_Named text c.args.bytes.now named
