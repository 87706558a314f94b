use Rattle.std.proofs.Common.{◌<◌, ℕ, ◌∷◌, ◌++◌, List, length, get_or, take, drop, sym, ap, ◌∙◌, arith}
use Rattle.std.specs.List.{flat_map}
use Rattle.osta.specs.Compressed.{compressed, two_bytes}
use Rattle.osta.specs.Dstring.{field_of}
use Rattle.osta.proofs.Names.{field_narrow, field_wide}
use Rattle.osta.proofs.label.Label.dstring_128_after.Goals as goal

pub returns-then-id-eq-NARROW-clause-value : goal.returns-then-id-eq-NARROW-clause-value
returns-then-id-eq-NARROW-clause-value c =
    let field = c.self.inside.field in
    let front = c.args.front.now in
    let id = sym (ap (λ (xs : List ℕ). get_or xs 0 0) (c.split_at.ensures.front ∙ ap (take 1) c.spelling_of.ensures)) ∙ c.if-id-eq-NARROW.true in
    let rest = c.split_at.ensures.back ∙ ap (drop 1) c.spelling_of.ensures in
    let some : 0 < length front = omega (arith, c.told-front) in
    c.joined.ensures
    ∙ (ap (λ (xs : List ℕ). field_of 128 (8 ∷ (front ++ xs))) rest
    ∙ (ap (field_of 128) (sym (field_narrow field front c.self.invariant some c.requires id))
    ∙ ap (λ (text : List ℕ). field_of 128 (compressed (front ++ text))) c.self.view_is))

pub returns-else-id-eq-NARROW-clause-value : goal.returns-else-id-eq-NARROW-clause-value
returns-else-id-eq-NARROW-clause-value c =
    let field = c.self.inside.field in
    let front = c.args.front.now in
    let id = ap (λ (xs : List ℕ). get_or xs 0 0) (c.split_at.ensures.front ∙ ap (take 1) c.spelling_of.ensures) in
    let rest = c.split_at.ensures.back ∙ ap (drop 1) c.spelling_of.ensures in
    let some : 0 < length front = omega (arith, c.told-front) in
    c.joined-else-id-eq-NARROW.ensures
    ∙ (ap (λ (xs : List ℕ). field_of 128 (16 ∷ (xs ++ c.split_at.result.1.now))) c.widen.ensures
    ∙ (ap (λ (xs : List ℕ). field_of 128 (16 ∷ (flat_map two_bytes front ++ xs))) rest
    ∙ (ap (field_of 128) (sym (field_wide field front c.self.invariant some c.requires (λ e. c.if-id-eq-NARROW.false (id ∙ e))))
    ∙ ap (λ (text : List ℕ). field_of 128 (compressed (front ++ text))) c.self.view_is)))
