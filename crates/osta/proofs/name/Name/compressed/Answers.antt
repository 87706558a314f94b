use Rattle.std.proofs.Common.{length, sym, ap, ◌∙◌, arith}
use Rattle.std.proofs.lemmas.Bool.{eqb-true, eqb-false}
use Rattle.std.proofs.lemmas.List.{nil_from_length}
use Rattle.osta.specs.Compressed.{compressed}
use Rattle.osta.proofs.Names.{kept_alone, kept_beside}
use Rattle.osta.proofs.name.Name.compressed.Goals as goal

pub returns-then-is_empty-clause-value : goal.returns-then-is_empty-clause-value
returns-then-is_empty-clause-value c =
    let none = nil_from_length _ (eqb-true _ 0 (sym c.is_empty.ensures ∙ c.if-is_empty.true)) in
    c.as_bytes.ensures.value ∙ kept_alone _ _ c.self.invariant (sym c.as_slice-other.ensures.value ∙ none) ∙ ap compressed c.self.view_is

pub returns-else-is_empty-clause-value : goal.returns-else-is_empty-clause-value
returns-else-is_empty-clause-value c =
    let apart = eqb-false _ 0 (sym c.is_empty.ensures ∙ c.if-is_empty.false) in
    c.as_slice-other.ensures.value ∙ kept_beside _ _ c.self.invariant (omega (arith, apart, ap length c.as_slice-other.ensures.value)) ∙ ap compressed c.self.view_is
