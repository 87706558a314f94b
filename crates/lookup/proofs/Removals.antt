-- A name that is taken out of a directory, by its place among the names.
use Rattle.std.proofs.Common.{◌≡◌, ℕ, Bool, true, false, List, [], ◌∷◌, Some, None, refl, sym, ap, ◌∙◌, cond}
use Rattle.std.specs.Prelude.{position, remove}
use Rattle.std.specs.Map.{keys_of, lookup, remove_entry}
use Rattle.std.proofs.lemmas.Option.{none-some}
use Rattle.indexmap.proofs.MapLemmas.{Found-position, remove_entry-first}

pub removed_at : {K X : Type 0} (t : K → Bool) (es : List (K × X)) (i : ℕ) → position t (keys_of es) ≡ Some i → remove_entry t es ≡ remove es i
removed_at t es i found = remove_entry-first t es i (Found-position t es i found).first

pub removed_none : {K X : Type 0} (t : K → Bool) (es : List (K × X)) → lookup t es ≡ None → remove_entry t es ≡ es
removed_none t [] none = refl
removed_none t (e ∷ es) none = go (t e.0) refl (removed_none t es)
  where
    go : (passes : Bool) → t e.0 ≡ passes → (lookup t es ≡ None → remove_entry t es ≡ es) → remove_entry t (e ∷ es) ≡ e ∷ es
    go true p after = absurd (none-some e.1 (sym none ∙ ap (λ b. cond b (Some e.1) (lookup t es)) p))
    go false p after =
        ap (λ b. cond b es (e ∷ remove_entry t es)) p ∙ ap (λ l. e ∷ l) (after (sym (ap (λ b. cond b (Some e.1) (lookup t es)) p) ∙ none))
