-- A text that grows by lines.
use Rattle.std.proofs.Common.{◌≡◌, ℕ, ◌+◌, ◌<◌, List, [], ◌∷◌, ◌++◌, length, take, get_or, sym, ap, ◌∙◌}
use Rattle.std.specs.List.{flat_map}
use Rattle.std.proofs.lemmas.List.{append-nil, map-append, take_more}
use Rattle.std.proofs.lemmas.Grind.{flat_map-append}
use Rattle.request.specs.declared.answer.Listed.{Listed}
use Rattle.lookup.specs.Asked.{said_listed, said_names}
use Rattle.programs.specs.Lines.{name_line, names_text}

module _ {A : Type 0} (line : A → List ℕ) where
  -- one line more
  pub text_more : (xs : List A) (x : A) → flat_map line (xs ++ x ∷ []) ≡ flat_map line xs ++ line x
  text_more xs x = flat_map-append line xs (x ∷ []) ∙ ap (λ (y : List ℕ). flat_map line xs ++ y) (append-nil (line x))

  pub lines_next : (xs : List A) (i : ℕ) (x : A) (old new : List ℕ) → old ≡ flat_map line (take i xs) → i < length xs → x ≡ get_or xs i x → new ≡ old ++ line x → new ≡ flat_map line (take (i + 1) xs)
  lines_next xs i x old new front within here grown =
      grown ∙ ap (λ (y : List ℕ). y ++ line x) front
      ∙ sym (ap (λ (ys : List A). flat_map line ys) (take_more xs i x within ∙ ap (λ (y : A). take i xs ++ y ∷ []) (sym here)) ∙ text_more (take i xs) x)

pub names_next : (names : List Listed) (i : ℕ) (x : Listed) (old new : List ℕ) → old ≡ names_text (said_names (take i names)) → i < length names → x ≡ get_or names i x → new ≡ old ++ name_line (said_listed x)
    → new ≡ names_text (said_names (take (i + 1) names))
names_next names i x old new front within here grown =
    grown ∙ ap (λ (y : List ℕ). y ++ name_line (said_listed x)) front
    ∙ sym (ap (λ (ys : List Listed). names_text (said_names ys)) (take_more names i x within ∙ ap (λ (y : Listed). take i names ++ y ∷ []) (sym here))
    ∙ ap names_text (map-append said_listed (take i names) (x ∷ [])) ∙ text_more name_line (said_names (take i names)) (said_listed x))
