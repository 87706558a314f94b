use Rattle.std.proofs.Common.{List, ℕ, length, sym, ap, ◌∙◌, subst, arith}
use Rattle.osta.specs.FirstFault.{first_text_fault}
use Rattle.osta.specs.Compressed.{expanded, spelling_faults}
use Rattle.osta.specs.Dstring.{Dstring}
use Rattle.osta.proofs.Rows.{some_none}
use Rattle.osta.proofs.Fields.{field_from_faultless, Dstring-from_faultless, faultless_from_Dstring, text_from_Dstring}
use Rattle.osta.proofs.dstring.dstring_read.Goals as goal

pub returns-in_err-check_dstring-clause-only : goal.returns-in_err-check_dstring-clause-only
returns-in_err-check_dstring-clause-only c = λ text told. absurd (some_none c.in_err-check_dstring.field-0.0 (c.in_err-check_dstring.ensures.fault ∙ faultless_from_Dstring text c.args.field.now (length c.args.field.now) told))

pub expand_checked-requires : goal.expand_checked-requires
expand_checked-requires c =
    ap (λ (xs : List ℕ). first_text_fault (spelling_faults xs)) c.spelling_of.ensures ∙ (field_from_faultless c.args.field.now (omega (arith, c.requires.some)) (sym c.in_ok-check_dstring.ensures.fault)).2

pub returns-clause-found : goal.returns-clause-found
returns-clause-found c =
    let told = c.in_ok-expand_checked.ensures ∙ ap expanded c.spelling_of.ensures in
    subst (λ (text : List ℕ). Dstring text (length c.args.field.now) c.args.field.now) (sym told) (Dstring-from_faultless c.args.field.now (λ i. omega (arith, c.type_inv.field i)) (omega (arith, c.requires.some)) (sym c.in_ok-check_dstring.ensures.fault))

pub returns-clause-only : goal.returns-clause-only
returns-clause-only c = λ text told. c.in_ok-expand_checked.ensures ∙ (ap expanded c.spelling_of.ensures ∙ text_from_Dstring text c.args.field.now (length c.args.field.now) told)
