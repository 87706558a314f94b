use Rattle.std.proofs.Common.{List, ℕ, [], ◌∷◌, ◌++◌, length, ap, ◌∙◌}
use Rattle.std.proofs.lemmas.List.{drop-replicate}
use Rattle.volume.proofs.front.recognition.Goals as goal

pub returns : goal.returns
returns c =
    let text : List ℕ = 0 ∷ (c.args.identifier.now ++ (1 ∷ [])) in
    c.write_fields.ensures.written ∙ ap (λ (x : List ℕ). text ++ x) (drop-replicate (length text) 2048 0)
