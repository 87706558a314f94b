-- A node that a tree has at the end of a path: it is reached for the first time, and each name of it leads to such a node.
use Rattle.std.proofs.Common.{◌≡◌, inl, inr, ℕ, zero, suc, ◌+◌, ◌<◌, ◌≤◌, Bool, true, false, List, [], ◌∷◌, ◌++◌, map, take, Contains, Some, refl, sym, ap, ◌∙◌, subst, arith, append_assoc, append-nil, length-append}
use Rattle.std.specs.Prelude.{slice_get}
use Rattle.std.specs.FinMap.{get}
use Rattle.std.specs.List.{IsDistinct}
use Rattle.std.specs.Map.{keys_of}
use Rattle.std.specs.Str.{bytes_eq}
use Rattle.std.proofs.lemmas.List.{append_cancel_left}
use Rattle.std.proofs.lemmas.Option.{none-some, same_Some}
use Rattle.dir.specs.declared.entry.Entry.{Entry as DirEntry}
use Rattle.dir.specs.Directory.{is_directory}
use Rattle.model.specs.Tree.{Name, Path, Tree, IsTree, Has, found_identity, identity_at}
use Rattle.model.specs.Graph.{Graph, Stored, Entry, HasParent, PathLeads, MakesTree, Reach, entries_of, node_of}
use Rattle.model.specs.Identities.{HasIdentities}
use Rattle.model.proofs.Lists.{contains_here, contains_there, contains_cons, contains_map, not_in_nil, all_contains, not_same}
use Rattle.model.proofs.Maps.{has_some}
use Rattle.model.proofs.Paths.{longer}
use Rattle.udf.specs.Said.{said_entries, said_entry}
use Rattle.recover.specs.declared.walk.Named.{Named}
use Rattle.recover.specs.declared.walk.Walk.{Walk}
use Rattle.recover.specs.Forest.{At, IsAssigned, by_address, by_identity}
use Rattle.recover.specs.Forest.Forest.{End, Seen}
use Rattle.recover.specs.Refused.{Expects, IsBeside}
use Rattle.recover.specs.Walk.{Begun, reached_in, uniques_in}
use Rattle.recover.proofs.Forests.{adds_only, at_seen, head_same, leads_up}
use Rattle.recover.proofs.Trees.{leads_push}
use Rattle.recover.proofs.Walks.{kinds_same, names_said}

-- ---- lists

module _ {X : Type 0} where
  contains_at : (xs : List X) (i : ℕ) (x : X) → slice_get xs i ≡ Some x → Contains xs x
  contains_at [] i x e = absurd (none-some x e)
  contains_at (y ∷ xs) zero x e = subst (Contains (y ∷ xs)) (same_Some y x e) (contains_here y xs)
  contains_at (y ∷ xs) (suc i) x e = contains_there y xs x (contains_at xs i x e)

-- a name of a directory is not among those before it
name_apart : (es : List (List ℕ × DirEntry)) (i : ℕ) (e : List ℕ × DirEntry) → IsDistinct bytes_eq (keys_of es) → slice_get es i ≡ Some e → Contains (keys_of (take i es)) e.0 → ⊥
unfolding IsDistinct
name_apart es zero e d at c = not_in_nil e.0 c
name_apart [] (suc i) e d at c = absurd (none-some e at)
name_apart (x ∷ es) (suc i) e d at c =
    elim (contains_cons x.0 (keys_of (take i es)) e.0 c) [
      | inl same ↦ not_same x.0 e.0 (all_contains (λ m. bytes_eq x.0 m ≡ false) (keys_of es) e.0 d.0 (contains_map (λ (y : List ℕ × DirEntry). y.0) es e (contains_at es i e at))) same
      | inr later ↦ name_apart es i e d.1 at later
    ]

-- ---- paths

leads_join : (graph : Graph) (p q : Path) (from to next : ℕ) → PathLeads graph from p to → PathLeads graph to q next → PathLeads graph from (p ++ q) next
leads_join graph [] q from to next l m = subst (λ a. PathLeads graph a q next) (sym l) m
leads_join graph (x ∷ p) q from to next l m = (l.0, l.1, leads_join graph p q l.0 to next l.2 m)

-- what lies beside a path lies beside each longer one
beside_longer : (path other : Path) (name : Name) → IsBeside path other → IsBeside (path ++ name ∷ []) other
beside_longer path other name out more same = out (name ∷ more) (same ∙ append_assoc path (name ∷ []) more)

beside_above : (path : Path) (name : Name) → IsBeside (path ++ name ∷ []) path
beside_above path name more same = let l : 1 ≡ 0 = longer path (name ∷ []) more same in absurd (omega (arith, l))

beside_other : (path q : Path) (a name : Name) → (a ≡ name → ⊥) → IsBeside (path ++ name ∷ []) (path ++ a ∷ q)
beside_other path q a name apart more same = apart (head_same a name q more (append_cancel_left path (a ∷ q) (name ∷ more) (same ∙ append_assoc path (name ∷ []) more)))

module _ (graph : Graph) (tree : Tree) (is : IsTree tree) (makes : MakesTree graph tree) where
  reach_get : (p : Path) (a : ℕ) (s : Stored) → Reach graph p a → graph a s → get tree p ≡ Some (node_of s)
  reach_get p a s r g = (makes.reached p (node_of s)).1 (a, r, s, g, refl)

  reach_has : (p : Path) (a : ℕ) (s : Stored) → Reach graph p a → graph a s → Has tree p
  reach_has p a s r g = has_some tree p (node_of s) (reach_get p a s r g)

  reach_identity : (p : Path) (a : ℕ) (s : Stored) → Reach graph p a → graph a s → identity_at tree p ≡ s.identity
  reach_identity p a s r g = ap found_identity (reach_get p a s r g)

  module _ (before : Walk) (node : Named) (path : Path) (e : Expects graph tree before node path) where
    pub not_reached : reached_in before node.address ≡ false
    not_reached = go (reached_in before node.address) refl
      where
        go : (b : Bool) → reached_in before node.address ≡ b → reached_in before node.address ≡ false
        go false f = f
        go true t = let (other, reach, out) = e.reached node.address t in absurd (out [] (makes.one_path other path node.address reach e.reach ∙ sym (append-nil path)))

    has_path : Has tree path
    has_path = reach_has path node.address e.stored e.reach e.there

    own : identity_at tree path ≡ node.unique
    own = reach_identity path node.address e.stored e.reach e.there ∙ e.identity

    pub not_deep : node.depth ≤ 16
    not_deep = let s = is.short path has_path in let d = e.depth in omega (arith, s, d)

    module _ (identities : HasIdentities tree before.next_unique) where
      pub not_seen : uniques_in before node.unique ≡ false
      not_seen = go (uniques_in before node.unique) refl
        where
          go : (b : Bool) → uniques_in before node.unique ≡ b → uniques_in before node.unique ≡ false
          go false f = f
          go true t = let (other, has, same, out) = e.uniques node.unique t in absurd (out [] (identities.distinct other path has has_path (same ∙ sym own) ∙ sym (append-nil path)))

      pub drawn : IsAssigned before.next_unique node.address node.unique
      drawn = (
        (λ root. sym own ∙ ap (identity_at tree) (makes.one_path path [] 1 (subst (Reach graph path) root e.reach) refl) ∙ identities.root),
        λ apart.
            let r = identities.range path has_path (λ nil. apart (sym (subst (λ q. Reach graph q node.address) nil e.reach))) in
            (subst (λ n. 16 ≤ n) own r.0, subst (λ n. n < before.next_unique) own r.1),
      )

    -- what a name of it leads to
    module _ (now : Walk) (entries : List (List ℕ × DirEntry)) (i : ℕ) (b : Begun graph before now node entries i) (name : List ℕ) (entry : DirEntry) (at_i : slice_get entries i ≡ Some (name, entry)) where
      inside : Contains (entries_of b.stored) (said_entry (name, entry))
      inside = subst (λ es. Contains es (said_entry (name, entry))) (sym b.entries_are) (contains_map said_entry entries (name, entry) (contains_at entries i (name, entry) at_i))

      keys_apart : Contains (keys_of (take i entries)) name → ⊥
      keys_apart = name_apart entries i (name, entry) (subst (IsDistinct bytes_eq) (names_said entries) (subst (λ es. IsDistinct bytes_eq (map (λ (x : Entry). x.name) es)) b.entries_are b.seen.distinct)) at_i

      reach_child : Reach graph (path ++ name ∷ []) entry.virtual_address
      reach_child = leads_push graph path 1 node.address name entry.virtual_address e.reach (b.stored, b.seen.there, said_entry (name, entry), inside, refl, refl)

      -- a node of it that was seen, at another path
      abbrev Other : ℕ → Stored → Type 0
      Other a s = (p : Path) × Reach graph p a × graph a s × IsBeside (path ++ name ∷ []) p

      other_at : (q : Path) (a : ℕ) (s : Stored) → At (Seen [] node.address b.stored b.below End) q a s → Other a s
      other_at q a s (inl (nil, same, is_stored)) =
          (path, subst (Reach graph path) (sym same) e.reach, subst (λ x. graph x s) (sym same) (subst (graph node.address) (sym is_stored) b.seen.there), beside_above path name)
      other_at q a s (inr (inl (p, nil, at))) =
          let (x, rest, c, is_path, leads) = leads_up graph b.below node.address p a s b.walked at in
          let (up, seen) = at_seen graph b.below node.address p a s b.walked at in
          let listed : Contains (said_entries (take i entries)) x = subst (λ es. Contains es x) b.names c in
          let in_keys : Contains (keys_of (take i entries)) x.name = subst (λ ks. Contains ks x.name) (names_said (take i entries)) (contains_map (λ (y : Entry). y.name) (said_entries (take i entries)) x listed) in
          let in_stored : Contains (entries_of b.stored) x = subst (λ es. Contains es x) (sym b.entries_are) (said_take i entries x listed) in
          let down : PathLeads graph node.address (x.name ∷ rest) a = (x.address, (b.stored, b.seen.there, x, in_stored, refl, refl), leads) in (
            path ++ x.name ∷ rest,
            leads_join graph path (x.name ∷ rest) 1 node.address a e.reach down,
            seen.there,
            beside_other path rest x.name name (λ same. keys_apart (subst (Contains (keys_of (take i entries))) same in_keys)),
          )
        where
          said_take : (i : ℕ) (es : List (List ℕ × DirEntry)) (x : Entry) → Contains (said_entries (take i es)) x → Contains (said_entries es) x
          said_take zero es x c = absurd (not_in_nil x c)
          said_take (suc i) [] x c = c
          said_take (suc i) (y ∷ es) x c =
              elim (contains_cons (said_entry y) (said_entries (take i es)) x c) [
                | inl same ↦ subst (Contains (said_entries (y ∷ es))) same (contains_here (said_entry y) (said_entries es))
                | inr d ↦ contains_there (said_entry y) (said_entries es) x (said_take i es x d)
              ]
      other_at q a s (inr (inr none)) = absurd none

      pub child_expects : (child : Named) → is_directory child.kind ≡ is_directory entry.kind → child.address ≡ entry.virtual_address → child.unique ≡ entry.unique → child.above ≡ node.address → child.depth ≡ node.depth + 1
          → Expects graph tree now child (path ++ name ∷ [])
      child_expects child kind address unique above depth =
          let (s, g, kind_is, identity_is) = makes.agree path node.address b.stored (said_entry (name, entry)) e.reach b.seen.there inside in
          let parent = makes.parents path name node.address entry.virtual_address s e.reach (b.stored, b.seen.there, said_entry (name, entry), inside, refl, refl) g in
          record {
            reach = subst (Reach graph (path ++ name ∷ [])) (sym address) reach_child;
            depth = (let l = length-append path (name ∷ []) in let d = e.depth in omega (arith, l, d, depth));
            stored = s;
            there = subst (λ x. graph x s) (sym address) g;
            kind = sym kind_is ∙ sym (kinds_same entry.kind) ∙ sym kind;
            identity = sym identity_is ∙ sym unique;
            parent = λ d. subst (HasParent s) (sym above) (parent d);
            reached = λ x t. elim (adds_only by_address (reached_in before) (reached_in now) (Seen [] node.address b.stored b.below End) x b.counts.reached t) [
              | inl old ↦ let (other, r, out) = e.reached x old in (other, r, beside_longer path other name out)
              | inr (q, a, t', at, same) ↦ let (p, r, g', out) = other_at q a t' at in (p, subst (Reach graph p) same r, out)
            ];
            uniques = λ x t. elim (adds_only by_identity (uniques_in before) (uniques_in now) (Seen [] node.address b.stored b.below End) x b.counts.uniques t) [
              | inl old ↦ let (other, h, same, out) = e.uniques x old in (other, h, same, beside_longer path other name out)
              | inr (q, a, t', at, same) ↦ let (p, r, g', out) = other_at q a t' at in (p, reach_has p a t' r g', reach_identity p a t' r g' ∙ same, out)
            ];
          }
