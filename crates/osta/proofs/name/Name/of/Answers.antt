use Rattle.std.proofs.Common.{ℕ, List, ◌∷◌, drop, sym, ap, ◌∙◌, subst, arith}
use Rattle.std.proofs.lemmas.Str.{IsUtf8-from_ascii}
use Rattle.osta.specs.FirstFault.{first_text_fault}
use Rattle.osta.specs.Compressed.{Named}
use Rattle.osta.specs.Name.{name_faults, IsName}
use Rattle.osta.proofs.Ascii.{ascii_expanded}
use Rattle.osta.proofs.Names.{ascii_named, kept_other}
use Rattle.osta.proofs.Rows.{refused, accepted}
use Rattle.osta.proofs.Texts.{Named-expanded, faultless_from_Named, expanded_from_Named}
use Rattle.osta.proofs.name.Name.of.Goals as goal

pub returns-then-is_err : goal.returns-then-is_err
returns-then-is_err c = λ text name named.
    let same = sym (ascii_expanded c.in-Some.text.now c.args.bytes.now c.in-Some.ensures.some.0 c.in-Some.ensures.some.1) ∙ expanded_from_Named text c.args.bytes.now named in
    refused c.check_ascii.result (sym c.is_err.ensures.value ∙ c.if-is_err.true) (c.check_ascii.ensures ∙ (ap (λ (xs : List ℕ). first_text_fault (name_faults xs)) same ∙ name.faultless))

pub of_ascii-requires-clause-name : goal.of_ascii-requires-clause-name
of_ascii-requires-clause-name c =
    record {
      utf8 = IsUtf8-from_ascii c.in-Some.text.now c.in-Some.ensures.some.0;
      faultless = sym c.check_ascii.ensures ∙ accepted c.check_ascii.result (sym c.is_err.ensures.value ∙ c.if-is_err.false);
    }

pub returns-then-is_err-2 : goal.returns-then-is_err-2
returns-then-is_err-2 c = λ text name named.
    refused c.check_encoding.result (sym c.is_err-2.ensures.value ∙ c.if-is_err-2.true) (c.check_encoding.ensures.fault ∙ faultless_from_Named text c.args.bytes.now named)

pub returns-then-is_err-3 : goal.returns-then-is_err-3
returns-then-is_err-3 c = λ text name named.
    let told = c.as_str.ensures.value ∙ (c.in_ok-text.ensures ∙ expanded_from_Named text c.args.bytes.now named) in
    refused c.check.result (sym c.is_err-3.ensures.value ∙ c.if-is_err-3.true) (c.check.ensures ∙ (ap (λ (xs : List ℕ). first_text_fault (name_faults xs)) told ∙ name.faultless))

pub invariant_of-result : goal.invariant_of-result
invariant_of-result c =
    let none = sym c.check_encoding.ensures.fault ∙ accepted c.check_encoding.result (sym c.is_err-2.ensures.value ∙ c.if-is_err-2.false) in
    let named = subst (λ (text : List ℕ). Named text c.args.bytes.now) (sym c.in_ok-text.ensures ∙ sym c.as_str.ensures.value) (Named-expanded c.args.bytes.now (λ i. omega (arith, c.type_inv.bytes i)) none) in
    let whole = sym c.check.ensures ∙ accepted c.check.result (sym c.is_err-3.ensures.value ∙ c.if-is_err-3.false) in
    let same = c.as_str-2.ensures.value ∙ sym c.as_str.ensures.value in
    kept_other c.as_str.result.now _ _ (record { utf8 = named.utf8; faultless = whole }) (c.in_ok-spelled.ensures ∙ ap (λ (t : List ℕ). 8 ∷ t) same) (c.in_ok-other.ensures.items ∙ named.spelled)

pub returns-in-Some : goal.returns-in-Some
returns-in-Some c =
    let name : IsName c.in-Some.text.now = record {
      utf8 = IsUtf8-from_ascii c.in-Some.text.now c.in-Some.ensures.some.0;
      faultless = sym c.check_ascii.ensures ∙ accepted c.check_ascii.result (sym c.is_err.ensures.value ∙ c.if-is_err.false);
    } in
    let named = ascii_named c.in-Some.text.now c.args.bytes.now c.in-Some.ensures.some.0 name c.in-Some.ensures.some.1 in
    let same = sym c.in_ok-of_ascii.ensures in
    (subst IsName same name, subst (λ (t : List ℕ). Named t c.args.bytes.now) same named)

pub returns : goal.returns
returns c =
    let none = sym c.check_encoding.ensures.fault ∙ accepted c.check_encoding.result (sym c.is_err-2.ensures.value ∙ c.if-is_err-2.false) in
    let named = subst (λ (text : List ℕ). Named text c.args.bytes.now) (sym c.in_ok-text.ensures ∙ sym c.as_str.ensures.value) (Named-expanded c.args.bytes.now (λ i. omega (arith, c.type_inv.bytes i)) none) in
    let whole = sym c.check.ensures ∙ accepted c.check.result (sym c.is_err-3.ensures.value ∙ c.if-is_err-3.false) in
    let same = c.as_str.ensures.value ∙ sym c.as_str-2.ensures.value ∙ sym (ap (drop 1) c.in_ok-spelled.ensures) in
    (subst IsName same (record { utf8 = named.utf8; faultless = whole }), subst (λ (t : List ℕ). Named t c.args.bytes.now) same named)
