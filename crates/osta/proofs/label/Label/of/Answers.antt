use Rattle.std.proofs.Common.{◌≡◌, ◌<◌, ℕ, List, Some, length, get_or, sym, ap, ◌∙◌, subst, inl, inr, arith}
use Rattle.std.proofs.lemmas.Bool.{eqb-true, eqb-false, both_ways}
use Rattle.osta.specs.FirstFault.{first_text_fault}
use Rattle.osta.specs.Compressed.{spelling_faults}
use Rattle.osta.specs.Dstring.{field_of}
use Rattle.osta.specs.Label.{IsLabelField, IsLabelDstring, dstring_text}
use Rattle.osta.proofs.Rows.{refused, accepted}
use Rattle.osta.proofs.Fields.{field_from_faultless, faultless_from_Dstring, Dstring-from_faultless, text_from_Dstring}
use Rattle.osta.proofs.Names.{IsLabelSpelling, label_told, label_read, label_kept, label_field, label_text}
use Rattle.osta.proofs.label.Label.of.Goals.{then-is_empty-via-then-is_empty, then-is_empty-via-else-is_empty+then-spelling-gt-LABEL_ROOM, then-is_empty-via-else-is_empty+else-spelling-gt-LABEL_ROOM+then-has_zero}
use Rattle.osta.proofs.label.Label.of.Goals as goal

pub returns-then-is_err-clause-only : goal.returns-then-is_err-clause-only
returns-then-is_err-clause-only c = λ text told.
    absurd (refused c.check_dstring.result (sym c.is_err.ensures.value ∙ c.if-is_err.true) (c.check_dstring.ensures.fault ∙ faultless_from_Dstring text c.args.field.now (length c.args.field.now) told.field))

pub has_zero-requires : goal.has_zero-requires
has_zero-requires c =
    let some : 0 < length c.args.field.now = elim c.else-field-ne32.either [ inl h ↦ omega (arith, h.1) | inr h ↦ omega (arith, h) ] in
    let none = sym c.check_dstring.ensures.fault ∙ accepted c.check_dstring.result (sym c.is_err.ensures.value ∙ c.if-is_err.false) in
    ap (λ (xs : List ℕ). first_text_fault (spelling_faults xs)) c.spelling_of-spelling.ensures ∙ (field_from_faultless c.args.field.now some none).2

pub returns-then-is_empty-clause-only : goal.returns-then-is_empty-clause-only
returns-then-is_empty-clause-only c = λ text told.
    let spelled = subst IsLabelSpelling (sym c.spelling_of-spelling.ensures) (label_told text c.args.field.now told) in
    absurd (elim c.then-is_empty.branch [
      | then-is_empty-via-then-is_empty w ↦ omega (arith, spelled.some, eqb-true _ _ (sym c.is_empty.ensures ∙ w.if-is_empty.true))
      | then-is_empty-via-else-is_empty+then-spelling-gt-LABEL_ROOM w ↦ omega (arith, spelled.few, w.if-spelling-gt-LABEL_ROOM.true)
      | then-is_empty-via-else-is_empty+else-spelling-gt-LABEL_ROOM+then-has_zero w ↦ both_ways _ spelled.clean (sym w.has_zero.ensures ∙ w.if-has_zero.true)
    ])

pub invariant_of-result : goal.invariant_of-result
invariant_of-result c =
    let f = c.args.field.now in
    let fits : (i : ℕ) → get_or f i 0 < 256 = λ i. omega (arith, c.type_inv.field i) in
    let some : 0 < length f = elim c.else-field-ne32.either [ inl h ↦ omega (arith, h.1) | inr h ↦ omega (arith, h) ] in
    let none = sym c.check_dstring.ensures.fault ∙ accepted c.check_dstring.result (sym c.is_err.ensures.value ∙ c.if-is_err.false) in
    let apart : length c.spelling_of-spelling.result.now ≡ 0 → ⊥ = eqb-false _ 0 (sym c.is_empty.ensures ∙ c.if-is_empty.false) in
    let told : IsLabelSpelling c.spelling_of-spelling.result.now = record { some = omega (arith, apart); few = c.if-spelling-gt-LABEL_ROOM.false; clean = sym c.has_zero.ensures ∙ c.if-has_zero.false } in
    let label = label_read f fits some none (subst IsLabelSpelling c.spelling_of-spelling.ensures told) in
    let kept = c.put_spelling.ensures ∙ (ap (field_of 32) c.spelling_of-spelling.ensures ∙ label_kept f fits some none) in
    subst IsLabelField (sym kept) (label_field (dstring_text f) label)

pub returns-clause-some : goal.returns-clause-some
returns-clause-some c =
    let f = c.args.field.now in
    let fits : (i : ℕ) → get_or f i 0 < 256 = λ i. omega (arith, c.type_inv.field i) in
    let some : 0 < length f = elim c.else-field-ne32.either [ inl h ↦ omega (arith, h.1) | inr h ↦ omega (arith, h) ] in
    let none = sym c.check_dstring.ensures.fault ∙ accepted c.check_dstring.result (sym c.is_err.ensures.value ∙ c.if-is_err.false) in
    let apart : length c.spelling_of-spelling.result.now ≡ 0 → ⊥ = eqb-false _ 0 (sym c.is_empty.ensures ∙ c.if-is_empty.false) in
    let told : IsLabelSpelling c.spelling_of-spelling.result.now = record { some = omega (arith, apart); few = c.if-spelling-gt-LABEL_ROOM.false; clean = sym c.has_zero.ensures ∙ c.if-has_zero.false } in
    let label = label_read f fits some none (subst IsLabelSpelling c.spelling_of-spelling.ensures told) in
    let kept = c.put_spelling.ensures ∙ (ap (field_of 32) c.spelling_of-spelling.ensures ∙ label_kept f fits some none) in
    let same = ap dstring_text kept ∙ label_text (dstring_text f) label in
    subst (λ (text : List ℕ). IsLabelDstring text f) (sym same) (record {
      label = label;
      field = Dstring-from_faultless f fits some none;
      size = elim c.else-field-ne32.either [ inl h ↦ inr h.1 | inr h ↦ inl h ];
    })

pub returns-clause-only : goal.returns-clause-only
returns-clause-only c = λ text wanted.
    let f = c.args.field.now in
    let fits : (i : ℕ) → get_or f i 0 < 256 = λ i. omega (arith, c.type_inv.field i) in
    let some : 0 < length f = elim c.else-field-ne32.either [ inl h ↦ omega (arith, h.1) | inr h ↦ omega (arith, h) ] in
    let none = sym c.check_dstring.ensures.fault ∙ accepted c.check_dstring.result (sym c.is_err.ensures.value ∙ c.if-is_err.false) in
    let apart : length c.spelling_of-spelling.result.now ≡ 0 → ⊥ = eqb-false _ 0 (sym c.is_empty.ensures ∙ c.if-is_empty.false) in
    let told : IsLabelSpelling c.spelling_of-spelling.result.now = record { some = omega (arith, apart); few = c.if-spelling-gt-LABEL_ROOM.false; clean = sym c.has_zero.ensures ∙ c.if-has_zero.false } in
    let label = label_read f fits some none (subst IsLabelSpelling c.spelling_of-spelling.ensures told) in
    let kept = c.put_spelling.ensures ∙ (ap (field_of 32) c.spelling_of-spelling.ensures ∙ label_kept f fits some none) in
    let same = ap dstring_text kept ∙ label_text (dstring_text f) label in
    ap (λ (xs : List ℕ). Some xs) (same ∙ text_from_Dstring text f (length f) wanted.field)
