use Rattle.std.proofs.Common.{ℕ, List, [], ◌∷◌, drop, sym, ap, subst, ◌∙◌}
use Rattle.std.specs.Str.{IsUtf8}
use Rattle.std.proofs.lemmas.Str.{IsCharBoundary-at_seam}
use Rattle.osta.proofs.name.Name.as_str.Goals as goal

pub split_at-requires : goal.split_at-requires
split_at-requires c =
    let same = c.as_str.ensures.value in
    IsCharBoundary-at_seam c.as_str.result.now (8 ∷ []) (drop 1 c.as_str.result.now)
    (same ∙ c.self.invariant.front ∙ ap (λ (t : List ℕ). 8 ∷ drop 1 t) (sym same))
    (subst (λ (t : List ℕ). IsUtf8 (drop 1 t)) (sym same) c.self.invariant.name.utf8)
