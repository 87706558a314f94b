-- Edits of the plain program's list of entries, and what they make of the tree.
use Rattle.std.proofs.Common.{◌≡◌, ℕ, zero, suc, ◌+◌, ◌<◌, Bool, true, false, cond, inl, inr, List, [], ◌∷◌, ◌++◌, map, take, drop, length, get_or, Option, Some, None, is_some, refl, sym, ap, ◌∙◌, subst, arith}
use Rattle.std.specs.Prelude.{slice_set, unwrap_or}
use Rattle.std.specs.List.{position, IsDistinct, AllByRecursion}
use Rattle.std.specs.FinMap.{get, insert, remove, from_entries, get-from_entries, from_entries_push, same_map}
use Rattle.std.specs.FinMap as finmap
use Rattle.std.specs.Ordering.{eq_by_cmp}
use Rattle.std.proofs.lemmas.Bool.{true≢false}
use Rattle.std.proofs.lemmas.List.{map_push, length-map, get_or-map, get_or_default, map-set}
use Rattle.std.proofs.lemmas.List.Edits.{map_over_more}
use Rattle.model.specs.Tree.{Path, Node, Tree, IsTree, Has, bytes_in, found_bytes, path_cmp, paths_eq, parent_of, last_of}
use Rattle.model.specs.Operation.{changed_at, changed_in, file_bytes, name_added, all_moved, moved, code_of_move}
use Rattle.model.specs.Plain.{path_in, node_in, entry_in, tree_in, AreApart, ListsTree, paths_moved}
use Rattle.model.specs.declared.plain.nodes.Entry.{Entry}
use Rattle.model.proofs.Paths.{path_cases, path_cmp_total, path_cmp-IsAntisymmetric}
use Rattle.model.proofs.Codes.{paths_same, may_rename}
use Rattle.model.proofs.Operations.{not_into}
use Rattle.model.proofs.Maps.{get-remove_same, get-remove_other, none_at, not_none}
use Rattle.model.proofs.Edits.{get-changed_same, get-changed_other, some-changed}
use Rattle.model.proofs.Moving.{moved_list}
use Rattle.model.proofs.Counts.{moved_apart}
use Rattle.model.proofs.PlainLists.{test, test_same, paths_eq-itself, at_place, at_none}

abbrev found : Path → List Entry → Option Node
found q es = finmap.find path_cmp q (map entry_in es)

get-list : (es : List Entry) (q : Path) → get (tree_in es) q ≡ found q es
get-list es q = get-from_entries path_cmp_total (map entry_in es) q

-- two lists that have the same at each path stand for one tree
same_tree : (es : List Entry) (tree : Tree) → ((q : Path) → found q es ≡ get tree q) → tree_in es ≡ tree
same_tree es tree same = same_map path_cmp_total path_cmp-IsAntisymmetric _ _ (λ q. get-list es q ∙ same q)

-- a path that is not among the entries
abbrev IsNew : Path → List Entry → Type 0
IsNew p es = AllByRecursion (λ y. paths_eq p y ≡ false) (map path_in es)

found_none : (p : Path) (es : List Entry) → IsNew p es → found p es ≡ None
found_none p [] a = refl
found_none p (x ∷ es) a = ap (λ b. cond b (Some (node_in x.node)) (found p es)) (sym (test_same p (path_in x)) ∙ a.0) ∙ found_none p es a.1

new_from_none : (p : Path) (es : List Entry) → found p es ≡ None → IsNew p es
new_from_none p [] e = tt
new_from_none p (x ∷ es) e = go (eq_by_cmp path_cmp p (path_in x)) refl (new_from_none p es)
  where
    go : (b : Bool) → eq_by_cmp path_cmp p (path_in x) ≡ b → (found p es ≡ None → IsNew p es) → IsNew p (x ∷ es)
    go true t rest = absurd (none_some_at (sym e ∙ ap (λ b. cond b (Some (node_in x.node)) (found p es)) t))
      where
        none_some_at : None ≡ Some (node_in x.node) → ⊥
        none_some_at h = cc
    go false t rest = (test_same p (path_in x) ∙ t, rest (sym (ap (λ b. cond b (Some (node_in x.node)) (found p es)) t) ∙ e))

new_at : (p : Path) (es : List Entry) (i : ℕ) (d : Entry) → i < length es → IsNew p es → paths_eq p (path_in (get_or es i d)) ≡ false
new_at p [] i d l a = absurd (omega arith)
new_at p (x ∷ es) zero d l a = a.0
new_at p (x ∷ es) (suc i) d l a = new_at p es i d (omega arith) a.1

-- One entry is written over, with the same path.
module _ (p : Path) where
  set_paths : (es : List Entry) (i : ℕ) (e : Entry) → i < length es → path_in (get_or es i e) ≡ p → path_in e ≡ p → map path_in (slice_set es i e) ≡ map path_in es
  set_paths [] i e l a b = absurd (omega arith)
  set_paths (x ∷ es) zero e l a b = ap (λ q. q ∷ map path_in es) (b ∙ sym a)
  set_paths (x ∷ es) (suc i) e l a b = ap (λ ps. path_in x ∷ ps) (set_paths es i e (omega arith) a b)

  found-set : (es : List Entry) (i : ℕ) (e : Entry) (q : Path) → i < length es → path_in (get_or es i e) ≡ p → path_in e ≡ p → AreApart es
      → found q (slice_set es i e) ≡ cond (eq_by_cmp path_cmp q p) (Some (node_in e.node)) (found q es)
  unfolding IsDistinct
  found-set [] i e q l a b d = absurd (omega arith)
  found-set (x ∷ es) zero e q l a b d = go (eq_by_cmp path_cmp q p) (ap (eq_by_cmp path_cmp q) b) (ap (eq_by_cmp path_cmp q) a)
    where
      go : (t : Bool) → eq_by_cmp path_cmp q (path_in e) ≡ t → eq_by_cmp path_cmp q (path_in x) ≡ t
          → found q (e ∷ es) ≡ cond t (Some (node_in e.node)) (found q (x ∷ es))
      go true s u = ap (λ b. cond b (Some (node_in e.node)) (found q es)) s
      go false s u = ap (λ b. cond b (Some (node_in e.node)) (found q es)) s ∙ sym (ap (λ b. cond b (Some (node_in x.node)) (found q es)) u)
  found-set (x ∷ es) (suc i) e q l a b d =
      go (eq_by_cmp path_cmp q (path_in x)) (eq_by_cmp path_cmp q p) refl refl (found-set es i e q (omega arith) a b d.1)
    where
      -- the entry's path is not the first one's
      apart : eq_by_cmp path_cmp q (path_in x) ≡ true → eq_by_cmp path_cmp q p ≡ true → ⊥
      apart s u =
          let one = paths_same q (path_in x) (test_same q (path_in x) ∙ s) in
          let two = paths_same q p (test_same q p ∙ u) in
          true≢false (sym (paths_eq-itself (path_in x)) ∙ ap (paths_eq (path_in x)) (sym one ∙ two ∙ sym a) ∙ new_at (path_in x) es i e (omega arith) d.0)

      go : (s u : Bool) → eq_by_cmp path_cmp q (path_in x) ≡ s → eq_by_cmp path_cmp q p ≡ u
          → found q (slice_set es i e) ≡ cond (eq_by_cmp path_cmp q p) (Some (node_in e.node)) (found q es)
          → cond (eq_by_cmp path_cmp q (path_in x)) (Some (node_in x.node)) (found q (slice_set es i e)) ≡ cond u (Some (node_in e.node)) (cond (eq_by_cmp path_cmp q (path_in x)) (Some (node_in x.node)) (found q es))
      go true true f g rest = absurd (apart f g)
      go true false f g rest = ap (λ b. cond b (Some (node_in x.node)) (found q (slice_set es i e))) f ∙ sym (ap (λ b. cond b (Some (node_in x.node)) (found q es)) f)
      go false true f g rest = ap (λ b. cond b (Some (node_in x.node)) (found q (slice_set es i e))) f ∙ rest ∙ ap (λ b. cond b (Some (node_in e.node)) (found q es)) g
      go false false f g rest =
          ap (λ b. cond b (Some (node_in x.node)) (found q (slice_set es i e))) f ∙ rest ∙ ap (λ b. cond b (Some (node_in e.node)) (found q es)) g
          ∙ sym (ap (λ b. cond b (Some (node_in x.node)) (found q es)) f)

  pub changed_list : (es : List Entry) (i : ℕ) (e : Entry) (change : Node → Node) → AreApart es → i < length es
      → (get (tree_in es) p ≡ Some (node_in (get_or es i e).node)) × (path_in (get_or es i e) ≡ p) → path_in e ≡ p → node_in e.node ≡ change (node_in (get_or es i e).node)
      → ListsTree (slice_set es i e) (changed_at p change (tree_in es))
  changed_list es i e change d l at b same = record {
    apart = subst (λ ps. IsDistinct paths_eq ps) (sym (set_paths es i e l at.1 b)) d;
    is = same_tree (slice_set es i e) (changed_at p change (tree_in es)) (λ q. found-set es i e q l at.1 b d ∙ elim (path_cases q p) [
      | inl t ↦ ap (λ b. cond b (Some (node_in e.node)) (found q es)) t.0 ∙ ap Some same ∙ sym (ap (get (changed_at p change (tree_in es))) t.1 ∙ get-changed_same p change (tree_in es) (node_in (get_or es i e).node) at.0)
      | inr t ↦ ap (λ b. cond b (Some (node_in e.node)) (found q es)) t.0 ∙ sym (get-list es q) ∙ sym (get-changed_other p change (tree_in es) q t.1)
    ]);
  }

  pub unchanged_list : (es : List Entry) (change : Node → Node) → AreApart es → get (tree_in es) p ≡ None → ListsTree es (changed_at p change (tree_in es))
  unchanged_list es change d none = record { apart = d; is = sym (ap (λ o. changed_in o p change (tree_in es)) none) }

  -- One entry is taken out.
  found-out : (es : List Entry) (i : ℕ) (e : Entry) (q : Path) → i < length es → path_in (get_or es i e) ≡ p → AreApart es
      → found q (take i es ++ drop (suc i) es) ≡ cond (eq_by_cmp path_cmp q p) None (found q es)
  unfolding IsDistinct
  found-out [] i e q l a d = absurd (omega arith)
  found-out (x ∷ es) zero e q l a d = go (eq_by_cmp path_cmp q p) refl (ap (eq_by_cmp path_cmp q) a)
    where
      go : (t : Bool) → eq_by_cmp path_cmp q p ≡ t → eq_by_cmp path_cmp q (path_in x) ≡ eq_by_cmp path_cmp q p → found q es ≡ cond t None (found q (x ∷ es))
      go true s u = let same = paths_same q (path_in x) (test_same q (path_in x) ∙ u ∙ s) in ap (λ y. found y es) same ∙ found_none (path_in x) es d.0
      go false s u = sym (ap (λ b. cond b (Some (node_in x.node)) (found q es)) (u ∙ s))
  found-out (x ∷ es) (suc i) e q l a d =
      go (eq_by_cmp path_cmp q (path_in x)) (eq_by_cmp path_cmp q p) refl refl (found-out es i e q (omega arith) a d.1)
    where
      apart : eq_by_cmp path_cmp q (path_in x) ≡ true → eq_by_cmp path_cmp q p ≡ true → ⊥
      apart s u =
          let one = paths_same q (path_in x) (test_same q (path_in x) ∙ s) in
          let two = paths_same q p (test_same q p ∙ u) in
          true≢false (sym (paths_eq-itself (path_in x)) ∙ ap (paths_eq (path_in x)) (sym one ∙ two ∙ sym a) ∙ new_at (path_in x) es i e (omega arith) d.0)

      go : (s u : Bool) → eq_by_cmp path_cmp q (path_in x) ≡ s → eq_by_cmp path_cmp q p ≡ u
          → found q (take i es ++ drop (suc i) es) ≡ cond (eq_by_cmp path_cmp q p) None (found q es)
          → cond (eq_by_cmp path_cmp q (path_in x)) (Some (node_in x.node)) (found q (take i es ++ drop (suc i) es)) ≡ cond u None (cond (eq_by_cmp path_cmp q (path_in x)) (Some (node_in x.node)) (found q es))
      go true true f g rest = absurd (apart f g)
      go true false f g rest = ap (λ b. cond b (Some (node_in x.node)) (found q (take i es ++ drop (suc i) es))) f ∙ sym (ap (λ b. cond b (Some (node_in x.node)) (found q es)) f)
      go false true f g rest = ap (λ b. cond b (Some (node_in x.node)) (found q (take i es ++ drop (suc i) es))) f ∙ rest ∙ ap (λ b. cond b None (found q es)) g
      go false false f g rest =
          ap (λ b. cond b (Some (node_in x.node)) (found q (take i es ++ drop (suc i) es))) f ∙ rest ∙ ap (λ b. cond b None (found q es)) g
          ∙ sym (ap (λ b. cond b (Some (node_in x.node)) (found q es)) f)

new-out : (p : Path) (es : List Entry) (i : ℕ) → IsNew p es → IsNew p (take i es ++ drop (suc i) es)
new-out p [] zero a = tt
new-out p [] (suc i) a = tt
new-out p (x ∷ es) zero a = a.1
new-out p (x ∷ es) (suc i) a = (a.0, new-out p es i a.1)

apart-out : (es : List Entry) (i : ℕ) → AreApart es → AreApart (take i es ++ drop (suc i) es)
unfolding IsDistinct
apart-out [] zero d = tt
apart-out [] (suc i) d = tt
apart-out (x ∷ es) zero d = d.1
apart-out (x ∷ es) (suc i) d = (new-out (path_in x) es i d.0, apart-out es i d.1)

pub removed_list : (p : Path) (es : List Entry) (i : ℕ) (e : Entry) → AreApart es → i < length es → path_in (get_or es i e) ≡ p → ListsTree (take i es ++ drop (suc i) es) (remove (tree_in es) p)
removed_list p es i e d l at = record {
  apart = apart-out es i d;
  is = same_tree (take i es ++ drop (suc i) es) (remove (tree_in es) p) (λ q. found-out p es i e q l at d ∙ elim (path_cases q p) [
    | inl t ↦ ap (λ b. cond b None (found q es)) t.0 ∙ sym (ap (get (remove (tree_in es) p)) t.1 ∙ get-remove_same (tree_in es) p)
    | inr t ↦ ap (λ b. cond b None (found q es)) t.0 ∙ sym (get-list es q) ∙ sym (get-remove_other (tree_in es) p q t.1)
  ]);
}

pub not_there : (p : Path) (es : List Entry) → AreApart es → get (tree_in es) p ≡ None → ListsTree es (remove (tree_in es) p)
not_there p es d none = record {
  apart = d;
  is = same_tree es (remove (tree_in es) p) (λ q. sym (get-list es q) ∙ elim (path_cases q p) [
    | inl t ↦ ap (get (tree_in es)) t.1 ∙ none ∙ sym (ap (get (remove (tree_in es) p)) t.1 ∙ get-remove_same (tree_in es) p)
    | inr t ↦ sym (get-remove_other (tree_in es) p q t.1)
  ]);
}

new-push : (p : Path) (es : List Entry) (e : Entry) → IsNew p es → paths_eq p (path_in e) ≡ false → IsNew p (es ++ e ∷ [])
new-push p [] e a f = (f, tt)
new-push p (x ∷ es) e a f = (a.0, new-push p es e a.1 f)

turned_false : (p q : Path) → paths_eq p q ≡ false → paths_eq q p ≡ false
turned_false p q e = go (paths_eq q p) refl
  where
    go : (b : Bool) → paths_eq q p ≡ b → b ≡ false
    go true f = absurd (true≢false (sym (paths_eq-itself p) ∙ ap (paths_eq p) (sym (paths_same q p f)) ∙ e))
    go false f = refl

apart-push : (es : List Entry) (e : Entry) → AreApart es → IsNew (path_in e) es → AreApart (es ++ e ∷ [])
unfolding IsDistinct
apart-push [] e d a = (tt, tt)
apart-push (x ∷ es) e d a = (new-push (path_in x) es e d.0 (turned_false (path_in e) (path_in x) a.0), apart-push es e d.1 a.1)

pub pushed_list : (es : List Entry) (tree : Tree) (e : Entry) → ListsTree es tree → get tree (path_in e) ≡ None → ListsTree (es ++ e ∷ []) (insert tree (path_in e) (node_in e.node))
pushed_list es tree e has none =
    let absent : found (path_in e) es ≡ None = sym (get-list es (path_in e)) ∙ ap (λ t. get t (path_in e)) has.is ∙ none in
    record {
      apart = apart-push es e has.apart (new_from_none (path_in e) es absent);
      is = ap (λ (xs : List (Path × Node)). from_entries xs) (map_push entry_in es e) ∙ from_entries_push path_cmp_total path_cmp-IsAntisymmetric (map entry_in es) (path_in e) (node_in e.node) absent
          ∙ ap (λ t. insert t (path_in e) (node_in e.node)) has.is;
    }

-- The list with each path moved.
module _ (from to : Path) (es : List Entry) (d : AreApart es) (is : IsTree (tree_in es)) (here : Has (tree_in es) from) (new : Has (tree_in es) to → ⊥) (not_into : (rest : Path) → to ≡ from ++ rest → ⊥) where
  AllHave : List Path → Type 0
  AllHave ps = AllByRecursion (λ p. Has (tree_in es) p) ps

  each_has : (xs : List Entry) → ((q : Path) → is_some (found q xs) ≡ true → Has (tree_in es) q) → AllHave (map path_in xs)
  unfolding AllHave
  each_has [] f = tt
  each_has (x ∷ xs) f = (f (path_in x) (ap (λ b. is_some (cond b (Some (node_in x.node)) (found (path_in x) xs))) (sym (test_same (path_in x) (path_in x)) ∙ paths_eq-itself (path_in x))), each_has xs (λ q h. f q (later q (eq_by_cmp path_cmp q (path_in x)) h)))
    where
      later : (q : Path) (b : Bool) → is_some (found q xs) ≡ true → is_some (cond b (Some (node_in x.node)) (found q xs)) ≡ true
      later q true h = refl
      later q false h = h

  new_moved : (p : Path) (ps : List Path) → Has (tree_in es) p → AllHave ps → AllByRecursion (λ y. paths_eq p y ≡ false) ps → AllByRecursion (λ y. paths_eq (moved from to p) y ≡ false) (map (moved from to) ps)
  unfolding AllHave
  new_moved p [] h all a = tt
  new_moved p (x ∷ ps) h all a = (go (paths_eq (moved from to p) (moved from to x)) refl, new_moved p ps h all.1 a.1)
    where
      go : (b : Bool) → paths_eq (moved from to p) (moved from to x) ≡ b → b ≡ false
      go true e =
          let same = moved_apart from to (tree_in es) is here new not_into p x h all.0 (paths_same (moved from to p) (moved from to x) e) in
          absurd (true≢false (sym (paths_eq-itself p) ∙ ap (paths_eq p) same ∙ a.0))
      go false e = refl

  distinct_moved : (ps : List Path) → AllHave ps → IsDistinct paths_eq ps → IsDistinct paths_eq (map (moved from to) ps)
  unfolding AllHave IsDistinct
  distinct_moved [] all a = tt
  distinct_moved (p ∷ ps) all a = (new_moved p ps all.0 all.1 a.0, distinct_moved ps all.1 a.1)

  pub moved_entries : (after : List Entry) → map entry_in after ≡ paths_moved from to (map entry_in es) → ListsTree after (all_moved from to (tree_in es))
  moved_entries after same = record {
    apart = subst (λ ps. IsDistinct paths_eq ps) (sym paths) (distinct_moved (map path_in es) (each_has es (λ q h. ap is_some (get-list es q) ∙ h)) d);
    is = same_tree after (all_moved from to (tree_in es)) (λ q. ap (finmap.find path_cmp q) same ∙ moved_list from to (tree_in es) is here new not_into (map entry_in es) (λ x. sym (get-list es x)) q);
  }
    where
      firsts : (xs : List Entry) → map (λ (e : Path × Node). e.0) (map entry_in xs) ≡ map path_in xs
      firsts [] = refl
      firsts (x ∷ xs) = ap (λ ps. path_in x ∷ ps) (firsts xs)

      turned_firsts : (xs : List Entry) → map (λ (e : Path × Node). e.0) (paths_moved from to (map entry_in xs)) ≡ map (moved from to) (map path_in xs)
      turned_firsts [] = refl
      turned_firsts (x ∷ xs) = ap (λ ps. moved from to (path_in x) ∷ ps) (turned_firsts xs)

      paths : map path_in after ≡ map (moved from to) (map path_in es)
      paths = sym (firsts after) ∙ ap (map (λ (e : Path × Node). e.0)) same ∙ turned_firsts es

-- A change at a place that was found by its path.
module _ (p q : Path) (es xs : List Entry) (same : xs ≡ es) (path : q ≡ p) where
  pub changed_place : (i : ℕ) (e old : Entry) (change : Node → Node) → AreApart es → position (test q) xs ≡ Some i → old ≡ get_or es i old → path_in e ≡ path_in old
      → node_in e.node ≡ change (node_in old.node) → ListsTree (slice_set es i e) (changed_at p change (tree_in es))
  changed_place i e old change d at is names node =
      let place = at_place p es i (subst (λ x. position (test x) es ≡ Some i) path (subst (λ ys. position (test q) ys ≡ Some i) same at)) in
      let here = place.1 e in
      let one : get_or es i e ≡ old = get_or_default es i e old place.0 ∙ sym is in
      changed_list p es i e change d place.0 here (names ∙ ap path_in (sym one) ∙ here.1) (node ∙ ap (λ (x : Entry). change (node_in x.node)) (sym one))

  -- the bytes of the file there
  pub bytes_of_place : (i : ℕ) (old : Entry) → position (test q) xs ≡ Some i → old ≡ get_or es i old → unwrap_or (bytes_in (node_in old.node).content) [] ≡ file_bytes (tree_in es) p
  bytes_of_place i old at is =
      let place = at_place p es i (subst (λ x. position (test x) es ≡ Some i) path (subst (λ ys. position (test q) ys ≡ Some i) same at)) in
      sym (ap (λ (o : Option Node). unwrap_or (found_bytes o) []) ((place.1 old).0 ∙ ap (λ (x : Entry). Some (node_in x.node)) (sym is)))

  pub changed_none : (change : Node → Node) → AreApart es → position (test q) xs ≡ None → ListsTree es (changed_at p change (tree_in es))
  changed_none change d at = unchanged_list p es change d (at_none p es (subst (λ x. position (test x) es ≡ None) path (subst (λ ys. position (test q) ys ≡ None) same at)))

  pub removed_place : (i : ℕ) → AreApart es → position (test q) xs ≡ Some i → (e : Entry) → ListsTree (take i es ++ drop (suc i) es) (remove (tree_in es) p)
  removed_place i d at e =
      let place = at_place p es i (subst (λ x. position (test x) es ≡ Some i) path (subst (λ ys. position (test q) ys ≡ Some i) same at)) in
      removed_list p es i e d place.0 (place.1 e).1

  pub removed_none : AreApart es → position (test q) xs ≡ None → ListsTree es (remove (tree_in es) p)
  removed_none d at = not_there p es d (at_none p es (subst (λ x. position (test x) es ≡ None) path (subst (λ ys. position (test q) ys ≡ None) same at)))

-- the tree of a list that stands for another
pub has_along : (es : List Entry) (s t : Tree) → s ≡ t → ListsTree es s → ListsTree es t
has_along es s t e h = subst (ListsTree es) e h

-- names change at no new path
pub still_none : (p : Path) (moment : ℕ) (tree : Tree) → get tree p ≡ None → get (name_added p moment tree) p ≡ None
still_none p moment tree none = none_at (name_added p moment tree) p (λ h. not_none tree p none (sym (some-changed (parent_of p) (λ names. names ++ last_of p) moment tree p) ∙ h))

-- one more path of the list is moved
pub moved_more : (from to : Path) (es start : List Entry) (i : ℕ) (old e : Entry) → i < length start → length es ≡ length start
    → map entry_in es ≡ paths_moved from to (take i (map entry_in start)) ++ drop i (map entry_in start) → old ≡ get_or es i old
    → path_in e ≡ moved from to (path_in old) → e.node ≡ old.node
    → map entry_in (slice_set es i e) ≡ paths_moved from to (take (i + 1) (map entry_in start)) ++ drop (i + 1) (map entry_in start)
moved_more from to es start i old e l size before at path node =
    map-set entry_in es i e ∙ ap (slice_set (map entry_in es) i) (λ j. (path j, node_in (node j)))
    ∙ map_over_more (λ (entry : Path × Node). (moved from to entry.0, entry.1)) (map entry_in start) (map entry_in es) i (entry_in old)
    (let long = length-map start entry_in in omega arith) before (ap entry_in at ∙ sym (get_or-map entry_in es i old (entry_in old) (omega arith)))

-- the list is that of a tree in which the move may be made
pub moved_has : (from to : Path) (es after : List Entry) → AreApart es → IsTree (tree_in es) → code_of_move from to (tree_in es) ≡ 0
    → map entry_in after ≡ paths_moved from to (map entry_in es) → ListsTree after (all_moved from to (tree_in es))
moved_has from to es after d is code same =
    let may = may_rename from to (tree_in es) code in
    moved_entries from to es d is may.here may.new (not_into 0 0 (tree_in es) is from to may) after same
