-- Whether the paths of what is moved would have too many names.
use Rattle.std.proofs.Common.{◌≡◌, inl, inr, ℕ, ◌+◌, ◌<◌, ◌≤◌, ◌&&◌, ◌||◌, Bool, false, true, List, [], ◌∷◌, ◌++◌, length, refl, sym, ap, subst, ◌∙◌, arith, length-append, append-nil}
use Rattle.std.specs.Prelude.{nat_lt}
use Rattle.std.specs.List.{list_any}
use Rattle.std.specs.FinMap.{keys, contains_key-keys}
use Rattle.std.specs.Ordering.{eq_by_cmp}
use Rattle.std.proofs.lemmas.Bool.{false≢true, and_parts, lt-ltb, ltb-true, ltb-false}
use Rattle.model.specs.Tree.{Path, Tree, IsTree, Has, path_cmp, begins_with}
use Rattle.model.specs.Operation.{is_too_deep, moves_too_deep}
use Rattle.model.proofs.Paths.{path_cases}
use Rattle.model.proofs.Moving.{Begins, begins, begins-append}
use Rattle.lookup.specs.Heights.{IsHeight}

-- a test that one path of a tree passes, or none
any_of : (test : Path → Bool) (x : Path) (ps : List Path) → list_any (eq_by_cmp path_cmp x) ps ≡ true → test x ≡ true → list_any test ps ≡ true
any_of test x [] e t = absurd (false≢true e)
any_of test x (p ∷ ps) e t = elim (path_cases x p) [
  | inl a ↦ ap (λ b. b || list_any test ps) (ap test (sym a.1) ∙ t)
  | inr a ↦ ap (λ b. test p || b) (any_of test x ps (sym (ap (λ b. b || list_any (eq_by_cmp path_cmp x) ps) a.0) ∙ e) t) ∙ or_true (test p)
]
  where
    or_true : (b : Bool) → (b || true) ≡ true
    or_true true = refl
    or_true false = refl

one_of : (test : Path → Bool) (ps : List Path) → list_any test ps ≡ true → (x : Path) × (list_any (eq_by_cmp path_cmp x) ps ≡ true) × (test x ≡ true)
one_of test [] e = absurd (false≢true e)
one_of test (p ∷ ps) e = go (test p) refl e (one_of test ps)
  where
    itself : eq_by_cmp path_cmp p p ≡ true
    itself = elim (path_cases p p) [ inl a ↦ a.0 | inr a ↦ absurd (a.1 refl) ]

    or_true : (b : Bool) → (b || true) ≡ true
    or_true true = refl
    or_true false = refl

    go : (b : Bool) → test p ≡ b → (b || list_any test ps) ≡ true → (list_any test ps ≡ true → (x : Path) × (list_any (eq_by_cmp path_cmp x) ps ≡ true) × (test x ≡ true)) → (x : Path) × (list_any (eq_by_cmp path_cmp x) (p ∷ ps) ≡ true) × (test x ≡ true)
    go true t more later = (p, ap (λ b. b || list_any (eq_by_cmp path_cmp p) ps) itself, t)
    go false t more later =
        let rest = later more in
        (rest.0, ap (λ b. eq_by_cmp path_cmp rest.0 p || b) rest.1 ∙ or_true (eq_by_cmp path_cmp rest.0 p), rest.2)

module _ (tree : Tree) (from to : Path) where
  -- one path is too deep
  pub deep_from : (below : Path) → Has tree (from ++ below) → 16 < length to + length below → moves_too_deep from to tree ≡ true
  deep_from below has deep =
      let long = length-append from below in
      let test : nat_lt (16 + length from) (length to + length (from ++ below)) ≡ true = lt-ltb (16 + length from) (length to + length (from ++ below)) (omega (arith, deep, long)) in
      any_of (is_too_deep from to) (from ++ below) (keys tree) (sym (contains_key-keys tree (from ++ below)) ∙ has)
      (ap (λ b. b && nat_lt (16 + length from) (length to + length (from ++ below))) (begins-append from below) ∙ test)

  deep_one : moves_too_deep from to tree ≡ true → (below : Path) × Has tree (from ++ below) × (16 < length to + length below)
  deep_one e =
      let one = one_of (is_too_deep from to) (keys tree) e in
      let parts = and_parts (begins_with one.0 from) (nat_lt (16 + length from) (length to + length one.0)) one.2 in
      go one.0 (contains_key-keys tree one.0 ∙ one.1) parts.0 (ltb-true _ _ parts.1) (begins from one.0)
    where
      go : (path : Path) → Has tree path → begins_with path from ≡ true → 16 + length from < length to + length path → Begins from path → (below : Path) × Has tree (from ++ below) × (16 < length to + length below)
      go path has front deep (Begins.Yes rest e) =
          let long = length-append from rest in
          (rest, subst (λ (p : Path). Has tree p) e has, omega (arith, deep, long, ap length e))
      go path has front deep (Begins.No none e) = absurd (false≢true (sym e ∙ front))

  -- none is
  pub shallow_from : ((below : Path) → Has tree (from ++ below) → length to + length below ≤ 16) → moves_too_deep from to tree ≡ false
  shallow_from all = go (moves_too_deep from to tree) refl
    where
      go : (b : Bool) → moves_too_deep from to tree ≡ b → b ≡ false
      go false e = refl
      go true e = let one = deep_one e in absurd (omega (arith, one.2, all one.0 one.1))

  -- the path does not grow
  pub deep_shorter : IsTree tree → length to ≤ length from → moves_too_deep from to tree ≡ false
  deep_shorter is le = shallow_from (λ below has. let long = length-append from below in omega (arith, le, long, is.short (from ++ below) has))

  -- it is too long itself
  pub deep_itself : Has tree from → 16 < length to → moves_too_deep from to tree ≡ true
  deep_itself has long = deep_from [] (subst (λ (p : Path). Has tree p) (sym (append-nil from)) has) (omega (arith, long))

  -- by how far the tree goes below
  pub deep_height : (height : ℕ) → IsTree tree → IsHeight tree from 17 height → nat_lt 16 (length to + height) ≡ moves_too_deep from to tree
  deep_height height is h = go (nat_lt 16 (length to + height)) refl
    where
      go : (b : Bool) → nat_lt 16 (length to + height) ≡ b → b ≡ moves_too_deep from to tree
      go true e = sym (deep_from h.longest h.there (omega (arith, h.long, ltb-true _ _ e)))
      go false e =
          let low = ltb-false _ _ e in
          sym (shallow_from (λ below has. elim (h.most below has) [
            | inl l ↦ omega (arith, l, low)
            | inr top ↦ let long = length-append from h.longest in absurd (omega (arith, top, h.long, long, is.short (from ++ h.longest) h.there))
          ]))

  -- nothing is below
  pub deep_alone : length to ≤ 16 → IsHeight tree from 17 0 → moves_too_deep from to tree ≡ false
  deep_alone short h = shallow_from (λ below has. elim (h.most below has) [ inl l ↦ omega (arith, l, short) | inr top ↦ absurd (omega (arith, top)) ])
