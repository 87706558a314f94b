-- The list of entries of the plain program, and the tree that it stands for.
use Rattle.std.proofs.Common.{◌≡◌, ℕ, suc, ◌+◌, ◌<◌, Bool, true, false, cond, nat_lt, ◌&&◌, ◌||◌, inl, inr, List, [], ◌∷◌, map, length, slice_get, get_or, Some, None, is_some, refl, sym, ap, ◌∙◌, subst, arith, option_map}
use Rattle.std.specs.List.{find, position, position_or_len, list_any, IsDistinct, AllByRecursion}
use Rattle.std.specs.FinMap.{get, keys, len, get-from_entries, len-empty, len-insert, contains_key-keys}
use Rattle.std.specs.FinMap.Entries.{is_some-find}
use Rattle.std.specs.FinMap as finmap
use Rattle.std.specs.Ordering.{eq_by_cmp}
use Rattle.std.proofs.lemmas.Bool.{true≢false, false≢true, ltb-true, ltb-false}
use Rattle.std.proofs.lemmas.List.Folds.{find_at}
use Rattle.std.proofs.lemmas.Option.{none-some, same_Some, slice_get-get_or, slice_get_past}
use Rattle.model.specs.Tree.{Path, Node, path_cmp, paths_eq}
use Rattle.model.specs.Plain.{path_in, node_in, entry_in, tree_in, AreApart}
use Rattle.model.specs.declared.plain.nodes.Entry.{Entry}
use Rattle.model.proofs.Lists.{bytes_eq-itself}
use Rattle.model.proofs.Paths.{path_cases, path_cmp_total}
use Rattle.model.proofs.Codes.{paths_same}

pub paths_eq-itself : (p : Path) → paths_eq p p ≡ true
paths_eq-itself [] = refl
paths_eq-itself (x ∷ p) = ap (λ b. b && paths_eq p p) (bytes_eq-itself x) ∙ paths_eq-itself p

-- the test of names and the order of paths say the same
pub test_same : (p q : Path) → paths_eq p q ≡ eq_by_cmp path_cmp p q
test_same p q = elim (path_cases p q) [
  | inl a ↦ subst (λ x. paths_eq p x ≡ true) a.1 (paths_eq-itself p) ∙ sym a.0
  | inr a ↦ unequal a.1 (paths_eq p q) refl ∙ sym a.0
]
  where
    unequal : (p ≡ q → ⊥) → (b : Bool) → paths_eq p q ≡ b → b ≡ false
    unequal apart true e = absurd (apart (paths_same p q e))
    unequal apart false e = refl

module _ (p : Path) where
  abbrev pub test : Entry → Bool
  test e = paths_eq p (path_in e)

  pub find-entries : (es : List Entry) → option_map (λ (e : Entry). node_in e.node) (find test es) ≡ finmap.find path_cmp p (map entry_in es)
  find-entries [] = refl
  find-entries (e ∷ es) = go (paths_eq p (path_in e)) (eq_by_cmp path_cmp p (path_in e)) (test_same p (path_in e)) (find-entries es)
    where
      go : (a b : Bool) → a ≡ b → option_map (λ (x : Entry). node_in x.node) (find test es) ≡ finmap.find path_cmp p (map entry_in es)
          → option_map (λ (x : Entry). node_in x.node) (cond a (Some e) (find test es)) ≡ cond b (Some (node_in e.node)) (finmap.find path_cmp p (map entry_in es))
      go true true s rest = refl
      go true false s rest = absurd (true≢false s)
      go false true s rest = absurd (false≢true s)
      go false false s rest = rest

  -- what the list has at a path
  pub get-entry : (es : List Entry) → get (tree_in es) p ≡ option_map (λ (e : Entry). node_in e.node) (find test es)
  get-entry es = get-from_entries path_cmp_total (map entry_in es) p ∙ sym (find-entries es)

  found-passes : (es : List Entry) (e : Entry) → find test es ≡ Some e → paths_eq p (path_in e) ≡ true
  found-passes [] e f = absurd (none-some e f)
  found-passes (x ∷ es) e f = go (paths_eq p (path_in x)) refl f (found-passes es e)
    where
      go : (b : Bool) → paths_eq p (path_in x) ≡ b → cond b (Some x) (find test es) ≡ Some e → (find test es ≡ Some e → paths_eq p (path_in e) ≡ true) → paths_eq p (path_in e) ≡ true
      go true t s rest = ap test (sym (same_Some x e s)) ∙ t
      go false t s rest = rest s

  -- by the place of the entry
  pub at_none : (es : List Entry) → position test es ≡ None → get (tree_in es) p ≡ None
  at_none es e = get-entry es ∙ ap (option_map (λ (x : Entry). node_in x.node)) (go (nat_lt (position_or_len test es) (length es)) refl e)
    where
      go : (b : Bool) → nat_lt (position_or_len test es) (length es) ≡ b → cond b (Some (position_or_len test es)) None ≡ None → find test es ≡ None
      go true t s = absurd (none-some (position_or_len test es) (sym s))
      go false t s = find_at test es ∙ slice_get_past es (position_or_len test es) (ltb-false (position_or_len test es) (length es) t)

  pub at_place : (es : List Entry) (i : ℕ) → position test es ≡ Some i → (i < length es) × ((d : Entry) → (get (tree_in es) p ≡ Some (node_in (get_or es i d).node)) × (path_in (get_or es i d) ≡ p))
  at_place es i e = go (nat_lt (position_or_len test es) (length es)) refl e
    where
      go : (b : Bool) → nat_lt (position_or_len test es) (length es) ≡ b → cond b (Some (position_or_len test es)) None ≡ Some i
          → (i < length es) × ((d : Entry) → (get (tree_in es) p ≡ Some (node_in (get_or es i d).node)) × (path_in (get_or es i d) ≡ p))
      go true t s =
          let same : position_or_len test es ≡ i = same_Some (position_or_len test es) i s in
          let within : position_or_len test es < length es = ltb-true (position_or_len test es) (length es) t in
          let inside : i < length es = omega arith in (
            inside,
            λ d.
                let found : find test es ≡ Some (get_or es i d) = find_at test es ∙ ap (slice_get es) same ∙ slice_get-get_or es i d inside in
                (get-entry es ∙ ap (option_map (λ (x : Entry). node_in x.node)) found, sym (paths_same p (path_in (get_or es i d)) (found-passes es (get_or es i d) found))),
          )
      go false t s = absurd (none-some i s)

-- as many entries as nodes
pub apart_len : (es : List Entry) → AreApart es → len (tree_in es) ≡ length es
unfolding IsDistinct
apart_len [] d = len-empty path_cmp Node
apart_len (e ∷ es) d =
    len-insert path_cmp_total (tree_in es) (path_in e) (node_in e.node)
    ∙ ap (λ b. cond b (len (tree_in es)) (len (tree_in es) + 1)) (ap is_some (get-from_entries path_cmp_total (map entry_in es) (path_in e) ∙ absent es d.0))
    ∙ (let rest = apart_len es d.1 in let m : len (tree_in es) + 1 ≡ suc (length es) = omega arith in m)
  where
    absent : (xs : List Entry) → AllByRecursion (λ y. paths_eq (path_in e) y ≡ false) (map path_in xs) → finmap.find path_cmp (path_in e) (map entry_in xs) ≡ None
    absent [] a = refl
    absent (x ∷ xs) a = ap (λ b. cond b (Some (node_in x.node)) (finmap.find path_cmp (path_in e) (map entry_in xs))) (sym (test_same (path_in e) (path_in x)) ∙ a.0) ∙ absent xs a.1

-- a test of each path
module _ (f : Path → Bool) where
  any_in : (ps : List Path) (x : Path) → list_any (eq_by_cmp path_cmp x) ps ≡ true → f x ≡ true → list_any f ps ≡ true
  any_in [] x h t = absurd (false≢true h)
  any_in (p ∷ ps) x h t = elim (path_cases x p) [
    | inl a ↦ ap (λ b. b || list_any f ps) (ap f (sym a.1) ∙ t)
    | inr a ↦ or_right (f p) (any_in ps x (sym (ap (λ b. b || list_any (eq_by_cmp path_cmp x) ps) a.0) ∙ h) t)
  ]
    where
      or_right : (b : Bool) → list_any f ps ≡ true → (b || list_any f ps) ≡ true
      or_right true e = refl
      or_right false e = e

  any_one : (ps : List Path) → list_any f ps ≡ true → (x : Path) × (list_any (eq_by_cmp path_cmp x) ps ≡ true) × (f x ≡ true)
  any_one [] h = absurd (false≢true h)
  any_one (p ∷ ps) h = go (f p) refl h (any_one ps)
    where
      self : eq_by_cmp path_cmp p p ≡ true
      self = sym (test_same p p) ∙ paths_eq-itself p

      or_later : (x : Path) (b : Bool) → list_any (eq_by_cmp path_cmp x) ps ≡ true → (b || list_any (eq_by_cmp path_cmp x) ps) ≡ true
      or_later x true e = refl
      or_later x false e = e

      go : (b : Bool) → f p ≡ b → (b || list_any f ps) ≡ true → (list_any f ps ≡ true → (x : Path) × (list_any (eq_by_cmp path_cmp x) ps ≡ true) × (f x ≡ true))
          → (x : Path) × (list_any (eq_by_cmp path_cmp x) (p ∷ ps) ≡ true) × (f x ≡ true)
      go true t s rest = (p, ap (λ b. b || list_any (eq_by_cmp path_cmp p) ps) self, t)
      go false t s rest = let r = rest s in (r.0, or_later r.0 (eq_by_cmp path_cmp r.0 p) r.1, r.2)

  -- holds of a path of the list exactly where it holds of one of the tree
  any-paths : (ps qs : List Path) → ((x : Path) → list_any (eq_by_cmp path_cmp x) ps ≡ list_any (eq_by_cmp path_cmp x) qs) → list_any f ps ≡ list_any f qs
  any-paths ps qs same = go (list_any f ps) (list_any f qs) refl refl
    where
      go : (a b : Bool) → list_any f ps ≡ a → list_any f qs ≡ b → a ≡ b
      go true true d e = refl
      go true false d e = let x = any_one ps d in absurd (true≢false (sym (any_in qs x.0 (sym (same x.0) ∙ x.1) x.2) ∙ e))
      go false true d e = let x = any_one qs e in absurd (true≢false (sym (any_in ps x.0 (same x.0 ∙ x.1) x.2) ∙ d))
      go false false d e = refl

  map-paths : (es : List Entry) → map (λ e. e.0) (map entry_in es) ≡ map path_in es
  map-paths [] = refl
  map-paths (e ∷ es) = ap (λ ps. path_in e ∷ ps) (map-paths es)

  pub any-tree : (es : List Entry) → list_any f (map path_in es) ≡ list_any f (keys (tree_in es))
  any-tree es = any-paths (map path_in es) (keys (tree_in es)) (λ x.
      ap (list_any (eq_by_cmp path_cmp x)) (sym (map-paths es)) ∙ sym (is_some-find path_cmp x (map entry_in es))
      ∙ ap is_some (sym (get-from_entries path_cmp_total (map entry_in es) x)) ∙ contains_key-keys (tree_in es) x)
