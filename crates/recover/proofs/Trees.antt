-- The tree that the nodes of a walk make.
use Rattle.std.proofs.Common.{◌≡◌, ◌⊎◌, inl, inr, ℕ, suc, ◌+◌, ◌<◌, ◌≤◌, Bool, true, false, cond, not, if◌then◌else◌, List, [], ◌∷◌, ◌++◌, map, length, Contains, Option, Some, None, refl, sym, ap, ◌∙◌, subst, arith}
use Rattle.std.specs.FinMap.{get, from_entries, get-from_entries, find, entries}
use Rattle.std.specs.List.{AllByRecursion, IsDistinct}
use Rattle.std.specs.Ordering.{eq_by_cmp}
use Rattle.std.specs.Str.{bytes_eq}
use Rattle.std.proofs.lemmas.Bool.{true≢false}
use Rattle.std.proofs.lemmas.Option.{none-some, same_Some}
use Rattle.model.specs.Tree.{Name, Path, Node, Tree, IsTree, Has, path_cmp, names_at, found_names, names_in, found_directory, found_identity, identity_at, files_of, directories_of, is_directory as node_is_directory}
use Rattle.model.specs.Graph.{Graph, Stored, Entry, HasParent, IsFunctional, MakesTree, Names, PathLeads, Reach, NameAgrees, entries_of, is_directory, node_of, content_in, entries_in, Body}
use Rattle.model.specs.Graph.Body.{Bytes, Entries}
use Rattle.model.specs.Identities.{HasIdentities}
use Rattle.model.proofs.Lists.{contains_here, contains_there, contains_cons, contains_map, map_contains, not_in_nil, all_contains, bytes_eq-itself}
use Rattle.model.proofs.Paths.{path_cases, path_cmp_total}
use Rattle.model.proofs.Maps.{has_some, some_at, has_lists}
use Rattle.model.proofs.Counts.{total, total-insert_new, total-empty, files-total, directories-total}
use Rattle.recover.specs.Forest.{Forest, IsSeen, IsWalked, At, IsWholeForest, by_address, by_identity, entries_named, height, files_in, directories_in, whole}
use Rattle.recover.specs.Forest.Forest.{End, Seen}
use Rattle.recover.proofs.Forests.{tail_same, at_nil, at_short, at_drawn, at_seen, at_child, at_one, at_first, leads_down, leads_up, adds_one}

abbrev Items : Type 0
Items = List (Path × Node)

-- a path one name longer
longer : Name → Path × Node → Path × Node
longer name item = (name ∷ item.0, item.1)

-- the nodes by their paths
listed : Forest → Items
listed End = []
listed (Seen name address stored below rest) = (name ∷ [], node_of stored) ∷ (map (longer name) (listed below) ++ listed rest)

-- ---- lists

contains_left : (xs ys : Items) (x : Path × Node) → Contains xs x → Contains (xs ++ ys) x
contains_left [] ys x c = absurd (not_in_nil x c)
contains_left (y ∷ xs) ys x c = elim (contains_cons y xs x c) [ inl e ↦ subst (Contains ((y ∷ xs) ++ ys)) e (contains_here y (xs ++ ys)) | inr d ↦ contains_there y (xs ++ ys) x (contains_left xs ys x d) ]

contains_right : (xs ys : Items) (x : Path × Node) → Contains ys x → Contains (xs ++ ys) x
contains_right [] ys x c = c
contains_right (y ∷ xs) ys x c = contains_there y (xs ++ ys) x (contains_right xs ys x c)

contains_sides : (xs ys : Items) (x : Path × Node) → Contains (xs ++ ys) x → Contains xs x ⊎ Contains ys x
contains_sides [] ys x c = inr c
contains_sides (y ∷ xs) ys x c = go (contains_sides xs ys x) (contains_cons y (xs ++ ys) x c)
  where
    go : (Contains (xs ++ ys) x → Contains xs x ⊎ Contains ys x) → (y ≡ x) ⊎ Contains (xs ++ ys) x → Contains (y ∷ xs) x ⊎ Contains ys x
    go rest (inl e) = inl (subst (Contains (y ∷ xs)) e (contains_here y xs))
    go rest (inr d) = elim (rest d) [ inl l ↦ inl (contains_there y xs x l) | inr r ↦ inr r ]

find_in : (items : Items) (p : Path) (node : Node) → find path_cmp p items ≡ Some node → Contains items (p, node)
find_in [] p node e = absurd (none-some node e)
find_in (x ∷ items) p node e = go (find_in items p node) (path_cases p x.0)
  where
    go : (find path_cmp p items ≡ Some node → Contains items (p, node)) → ((eq_by_cmp path_cmp p x.0 ≡ true) × (p ≡ x.0)) ⊎ ((eq_by_cmp path_cmp p x.0 ≡ false) × (p ≡ x.0 → ⊥)) → Contains (x ∷ items) (p, node)
    go rest (inl (t, same)) =
        let node_is : x.1 ≡ node = same_Some x.1 node (sym (ap (λ b. cond b (Some x.1) (find path_cmp p items)) t) ∙ e) in
        subst (Contains (x ∷ items)) (λ i. (sym same i, node_is i)) (contains_here x items)
    go rest (inr (t, apart)) = contains_there x items (p, node) (rest (sym (ap (λ b. cond b (Some x.1) (find path_cmp p items)) t) ∙ e))

in_find : (items : Items) (p : Path) (node : Node) → ((other : Node) → Contains items (p, other) → other ≡ node) → Contains items (p, node) → find path_cmp p items ≡ Some node
in_find [] p node one c = absurd (not_in_nil (p, node) c)
in_find (x ∷ items) p node one c = go (in_find items p node (λ other d. one other (contains_there x items (p, other) d))) (path_cases p x.0) (contains_cons x items (p, node) c)
  where
    go : (Contains items (p, node) → find path_cmp p items ≡ Some node) → ((eq_by_cmp path_cmp p x.0 ≡ true) × (p ≡ x.0)) ⊎ ((eq_by_cmp path_cmp p x.0 ≡ false) × (p ≡ x.0 → ⊥))
        → (◌≡◌ {A = Path × Node} x (p, node)) ⊎ Contains items (p, node) → find path_cmp p (x ∷ items) ≡ Some node
    go rest (inl (t, same)) d =
        ap (λ b. cond b (Some x.1) (find path_cmp p items)) t ∙ ap Some (one x.1 (subst (λ q. Contains (x ∷ items) (q, x.1)) (sym same) (contains_here x items)))
    go rest (inr (t, apart)) (inl e) = absurd (apart (sym (ap (λ (i : Path × Node). i.0) e)))
    go rest (inr (t, apart)) (inr d) = ap (λ b. cond b (Some x.1) (find path_cmp p items)) t ∙ rest d

-- ---- the list of a forest

-- a node of the forest, by its path
abbrev Stands : Forest → Path → Node → Type 0
Stands f p node = (a : ℕ) × (s : Stored) × At f p a s × (node ≡ node_of s)

listed_at : (f : Forest) (p : Path) (node : Node) → Contains (listed f) (p, node) → Stands f p node
unfolding listed longer
listed_at End p node c = absurd (not_in_nil (p, node) c)
listed_at (Seen n a s b r) p node c = go (listed_at b) (listed_at r p node) (contains_cons (n ∷ [], node_of s) (map (longer n) (listed b) ++ listed r) (p, node) c)
  where
    go : ((q : Path) (m : Node) → Contains (listed b) (q, m) → Stands b q m) → (Contains (listed r) (p, node) → Stands r p node)
        → (◌≡◌ {A = Path × Node} (n ∷ [], node_of s) (p, node)) ⊎ Contains (map (longer n) (listed b) ++ listed r) (p, node) → Stands (Seen n a s b r) p node
    go under later (inl e) = (a, s, inl (sym (ap (λ (i : Path × Node). i.0) e), refl, refl), sym (ap (λ (i : Path × Node). i.1) e))
    go under later (inr d) =
        elim (contains_sides (map (longer n) (listed b)) (listed r) (p, node) d) [
          | inl low ↦
              let (x, inside, e) = map_contains (longer n) (listed b) (p, node) low in
              let (i, t, at, is) = under x.0 x.1 inside in
              (i, t, inr (inl (x.0, sym (ap (λ (y : Path × Node). y.0) e), at)), sym (ap (λ (y : Path × Node). y.1) e) ∙ is)
          | inr beside ↦ let (i, t, at, is) = later beside in (i, t, inr (inr at), is)
        ]

at_listed : (f : Forest) (p : Path) (a : ℕ) (s : Stored) → At f p a s → Contains (listed f) (p, node_of s)
unfolding listed longer
at_listed End p a s at = absurd at
at_listed (Seen n here t b r) p a s (inl (e, same, is)) = subst (Contains (listed (Seen n here t b r))) (λ i. (sym e i, node_of (sym is i))) (contains_here (n ∷ [], node_of t) (map (longer n) (listed b) ++ listed r))
at_listed (Seen n here t b r) p a s (inr (inl (q, e, at))) =
    contains_there _ (map (longer n) (listed b) ++ listed r) (p, node_of s)
    (contains_left (map (longer n) (listed b)) (listed r) (p, node_of s) (subst (λ x. Contains (map (longer n) (listed b)) (x, node_of s)) (sym e) (contains_map (longer n) (listed b) (q, node_of s) (at_listed b q a s at))))
at_listed (Seen n here t b r) p a s (inr (inr at)) = contains_there _ (map (longer n) (listed b) ++ listed r) (p, node_of s) (contains_right (map (longer n) (listed b)) (listed r) (p, node_of s) (at_listed r p a s at))

-- ---- counts

-- no path is twice in a list
abbrev Apart : Items → Type 0
Apart [] = Unit {0}
Apart (x ∷ items) = ((node : Node) → Contains items (x.0, node) → ⊥) × Apart items

apart-append : (xs ys : Items) → Apart xs → Apart ys → ((p : Path) (m n : Node) → Contains xs (p, m) → Contains ys (p, n) → ⊥) → Apart (xs ++ ys)
apart-append [] ys a b apart = b
apart-append (x ∷ xs) ys a b apart = (
  (λ node c. elim (contains_sides xs ys (x.0, node) c) [ inl l ↦ a.0 node l | inr r ↦ apart x.0 x.1 node (contains_here x xs) r ]),
  apart-append xs ys a.1 b (λ p m n c d. apart p m n (contains_there x xs (p, m) c) d),
)

apart-longer : (name : Name) (xs : Items) → Apart xs → Apart (map (longer name) xs)
unfolding longer
apart-longer name [] a = tt
apart-longer name (x ∷ xs) a = (
  (λ node c.
      let (y, inside, e) = map_contains (longer name) xs (name ∷ x.0, node) c in
      a.0 y.1 (subst (λ p. Contains xs (p, y.1)) (tail_same name name y.0 x.0 (ap (λ (z : Path × Node). z.0) e)) inside)),
  apart-longer name xs a.1,
)

module _ (f : Bool → ℕ) where
  -- what the nodes count together
  tallied : Items → ℕ
  tallied [] = 0
  tallied (x ∷ items) = f (node_is_directory x.1) + tallied items

  tallied-append : (xs ys : Items) → tallied (xs ++ ys) ≡ tallied xs + tallied ys
  unfolding tallied
  tallied-append [] ys = omega arith
  tallied-append (x ∷ xs) ys = let r = tallied-append xs ys in omega (arith, r)

  tallied-longer : (name : Name) (xs : Items) → tallied (map (longer name) xs) ≡ tallied xs
  unfolding tallied longer
  tallied-longer name [] = refl
  tallied-longer name (x ∷ xs) = ap (λ n. f (node_is_directory x.1) + n) (tallied-longer name xs)

-- the map of the list
made : Items → Tree
made items = from_entries items

get-made : (items : Items) (p : Path) → get (made items) p ≡ find path_cmp p items
unfolding made
get-made items p = get-from_entries path_cmp_total items p

module _ (f : Bool → Bool) where
  abbrev counted : Node → Bool
  counted node = f (node_is_directory node)

  total-made : (items : Items) → Apart items → total counted (made items) ≡ tallied (λ b. cond (f b) 1 0) items
  unfolding made tallied
  total-made [] apart = total-empty counted
  total-made (x ∷ items) apart =
      let fresh = λ (h : Has (made items) x.0). let (node, at) = some_at (made items) x.0 h in apart.0 node (find_in items x.0 node (sym (get-made items x.0) ∙ at)) in
      let one = total-insert_new counted (made items) x.0 x.1 fresh in
      let r = total-made items apart.1 in
      omega (arith, one, r)

-- ---- the nodes of a walk

apart_from : (n : Name) (es : List Entry) → AllByRecursion (λ m. bytes_eq n m ≡ false) (map (λ (e : Entry). e.name) es) → Contains (map (λ (e : Entry). e.name) es) n → ⊥
apart_from n es all c = true≢false (sym (bytes_eq-itself n) ∙ all_contains (λ m. bytes_eq n m ≡ false) (map (λ (e : Entry). e.name) es) n all c)

apart_listed : (graph : Graph) (f : Forest) (above : ℕ) → IsWalked graph above f → IsDistinct bytes_eq (map (λ (e : Entry). e.name) (entries_named f)) → Apart (listed f)
unfolding listed longer IsDistinct
apart_listed graph End above w d = tt
apart_listed graph (Seen n a s b r) above w d = (
  (λ node c. elim (contains_sides (map (longer n) (listed b)) (listed r) (n ∷ [], node) c) [
    | inl low ↦
        let (x, inside, e) = map_contains (longer n) (listed b) (n ∷ [], node) low in
        let (i, t, at, is) = listed_at b x.0 x.1 inside in
        at_nil b i t (subst (λ p. At b p i t) (tail_same n n x.0 [] (ap (λ (z : Path × Node). z.0) e)) at)
    | inr beside ↦ let (i, t, at, is) = listed_at r (n ∷ []) node beside in beside_other [] i t at
  ]),
  apart-append (map (longer n) (listed b)) (listed r) (apart-longer n (listed b) (apart_listed graph b a w.2 (subst (λ es. IsDistinct bytes_eq (map (λ (e : Entry). e.name) es)) (sym w.1) w.0.distinct)))
      (apart_listed graph r above w.3 d.1) (λ p m k c e.
      let (x, inside, is) = map_contains (longer n) (listed b) (p, m) c in
      let (i, t, at, same) = listed_at r p k e in
      beside_other x.0 i t (subst (λ q. At r q i t) (sym (ap (λ (z : Path × Node). z.0) is)) at)),
)
  where
    beside_other : (q : Path) (i : ℕ) (t : Stored) → At r (n ∷ q) i t → ⊥
    beside_other q i t at = apart_from n (entries_named r) d.0 (at_first r n q i t at)

one_file : (d : Bool) → ◌≡◌ {A = ℕ} (cond (not d) 1 0) (if d then 0 else 1)
one_file true = refl
one_file false = refl

one_directory : (d : Bool) → ◌≡◌ {A = ℕ} (cond d 1 0) (if d then 1 else 0)
one_directory true = refl
one_directory false = refl

tallied-files : (f : Forest) → tallied (λ b. cond (not b) 1 0) (listed f) ≡ files_in f
unfolding listed tallied
tallied-files End = refl
tallied-files (Seen n a s b r) =
    let both = tallied-append (λ b. cond (not b) 1 0) (map (longer n) (listed b)) (listed r) in
    let low = tallied-longer (λ b. cond (not b) 1 0) n (listed b) in
    let under = tallied-files b in
    let later = tallied-files r in
    let here = one_file (is_directory s) in
    omega (arith, both, low, under, later, here)

tallied-directories : (f : Forest) → tallied (λ b. cond b 1 0) (listed f) ≡ directories_in f
unfolding listed tallied
tallied-directories End = refl
tallied-directories (Seen n a s b r) =
    let both = tallied-append (λ b. cond b 1 0) (map (longer n) (listed b)) (listed r) in
    let low = tallied-longer (λ b. cond b 1 0) n (listed b) in
    let under = tallied-directories b in
    let later = tallied-directories r in
    let here = one_directory (is_directory s) in
    omega (arith, both, low, under, later, here)

names-content : (body : Body) → names_in (content_in body) ≡ map (λ (e : Entry). e.name) (entries_in body)
names-content (Bytes bytes) = refl
names-content (Entries parent entries) = refl

module _ (graph : Graph) where
  pub leads_push : (q : Path) (v w : ℕ) (name : Name) (to : ℕ) → PathLeads graph v q w → Names graph w name to → PathLeads graph v (q ++ name ∷ []) to
  leads_push [] v w name to l n = (to, subst (λ x. Names graph x name to) (sym l) n, refl)
  leads_push (x ∷ q) v w name to l n = (l.0, l.1, leads_push q l.0 w name to l.2 n)

  leads_last : (q : Path) (v : ℕ) (name : Name) (to : ℕ) → PathLeads graph v (q ++ name ∷ []) to → (w : ℕ) × PathLeads graph v q w × Names graph w name to
  leads_last [] v name to l = (v, refl, subst (Names graph v name) l.2 l.1)
  leads_last (x ∷ q) v name to l = let rest = leads_last q l.0 name to l.2 in (rest.0, (l.0, l.1, rest.1), rest.2)

-- the tree of a root and what is below it
pub tree_of : Stored → Forest → Tree
tree_of root below = made (([], node_of root) ∷ listed below)

module _ (graph : Graph) (functional : IsFunctional graph) (next : ℕ) (root : Stored) (below : Forest) (is : IsWholeForest graph next root below) where
  root_seen : IsSeen graph 1 1 root
  root_seen = is.walked.0

  below_distinct : IsDistinct bytes_eq (map (λ (e : Entry). e.name) (entries_named below))
  below_distinct = subst (λ es. IsDistinct bytes_eq (map (λ (e : Entry). e.name) es)) (sym is.walked.1) root_seen.distinct

  -- the node at the end of a path
  abbrev Found : Path → ℕ → Stored → Type 0
  Found p a s = At (whole root below) ([] ∷ p) a s

  found_one : (p : Path) (a b : ℕ) (s t : Stored) → Found p a s → Found p b t → (a ≡ b) × (s ≡ t)
  unfolding IsDistinct
  found_one p a b s t x y = at_one graph (whole root below) 1 ([] ∷ p) a b s t is.walked (tt, tt) x y

  found_reach : (p : Path) (a : ℕ) (s : Stored) → Found p a s → Reach graph p a × graph a s
  found_reach p a s at =
      let (e, q, c, same, l) = leads_up graph (whole root below) 1 ([] ∷ p) a s is.walked at in
      let (up, seen) = at_seen graph (whole root below) 1 ([] ∷ p) a s is.walked at in
      elim (contains_cons _ [] e c) [
        | inl here ↦ (subst (λ r. PathLeads graph 1 r a) (sym (tail_same [] e.name p q same)) (subst (λ (x : Entry). PathLeads graph x.address q a) (sym here) l), seen.there)
        | inr none ↦ absurd (not_in_nil e none)
      ]

  reach_found : (p : Path) (a : ℕ) → Reach graph p a → (s : Stored) × Found p a s
  reach_found p a r = leads_down graph functional (whole root below) 1 _ p a is.walked (contains_here _ []) r

  reach_found_at : (p : Path) (a : ℕ) (s : Stored) → Reach graph p a → graph a s → Found p a s
  reach_found_at p a s r g =
      let (t, at) = reach_found p a r in
      subst (λ u. Found p a u) (functional a t s (found_reach p a t at).1 g) at

  item_found : (p : Path) (node : Node) → Contains (([], node_of root) ∷ listed below) (p, node) → (a : ℕ) × (s : Stored) × Found p a s × (node ≡ node_of s)
  item_found p node c =
      elim (contains_cons ([], node_of root) (listed below) (p, node) c) [
        | inl e ↦ (1, root, inl (ap (λ (q : Path). [] ∷ q) (sym (ap (λ (i : Path × Node). i.0) e)), refl, refl), sym (ap (λ (i : Path × Node). i.1) e))
        | inr d ↦ let (a, s, at, same) = listed_at below p node d in (a, s, inr (inl (p, refl, at)), same)
      ]

  found_item : (p : Path) (a : ℕ) (s : Stored) → Found p a s → Contains (([], node_of root) ∷ listed below) (p, node_of s)
  found_item p a s (inl (e, same, node)) =
      subst (Contains (([], node_of root) ∷ listed below)) (λ i. (sym (tail_same [] [] p [] e) i, node_of (sym node i))) (contains_here ([], node_of root) (listed below))
  found_item p a s (inr (inl (q, e, at))) =
      contains_there ([], node_of root) (listed below) (p, node_of s) (at_listed below p a s (subst (λ r. At below r a s) (sym (tail_same [] [] p q e)) at))
  found_item p a s (inr (inr none)) = absurd none

  get_found : (p : Path) (node : Node) → get (tree_of root below) p ≡ Some node → (a : ℕ) × (s : Stored) × Found p a s × (node ≡ node_of s)
  unfolding tree_of
  get_found p node e = let items = ([], node_of root) ∷ listed below in item_found p node (find_in items p node (sym (get-made items p) ∙ e))

  found_get : (p : Path) (a : ℕ) (s : Stored) → Found p a s → get (tree_of root below) p ≡ Some (node_of s)
  unfolding tree_of
  found_get p a s at =
      let items = ([], node_of root) ∷ listed below in
      get-made items p ∙ in_find items p (node_of s)
      (λ other c. let (b, t, at', same) = item_found p other c in same ∙ ap node_of (found_one p b a t s at' at).1) (found_item p a s at)

  found_child : (p : Path) (a : ℕ) (s : Stored) (e : Entry) → Found p a s → Contains (entries_of s) e → (t : Stored) × IsSeen graph a e.address t × (e.is_directory ≡ is_directory t) × (e.identity ≡ t.identity)
  found_child p a s e at c = at_child graph (whole root below) 1 ([] ∷ p) a s e is.walked at c

  found_seen : (p : Path) (a : ℕ) (s : Stored) → Found p a s → (up : ℕ) × IsSeen graph up a s
  found_seen p a s at = at_seen graph (whole root below) 1 ([] ∷ p) a s is.walked at

  agrees : (p : Path) (a : ℕ) (s : Stored) (e : Entry) → Reach graph p a → graph a s → Contains (entries_of s) e → NameAgrees graph e
  agrees p a s e r g c = let (t, seen, kind, identity) = found_child p a s e (reach_found_at p a s r g) c in (t, seen.there, kind, identity)

  pub makes_tree : MakesTree graph (tree_of root below)
  makes_tree = record {
    one_path = λ p q a r l.
        let (s, at) = reach_found p a r in
        let (t, at') = reach_found q a l in
        tail_same [] [] p q (adds_one by_address (λ x. false) is.addresses.0 (whole root below) ([] ∷ p) ([] ∷ q) a a s t is.addresses.1 at at' refl);
    reached = λ p node. (
      (λ e. let (a, s, at, same) = get_found p node e in let (r, g) = found_reach p a s at in (a, r, s, g, same)),
      (λ (a, r, s, g, same). found_get p a s (reach_found_at p a s r g) ∙ ap Some (sym same)),
    );
    agree = agrees;
    links = λ p a s r g. (found_seen p a s (reach_found_at p a s r g)).1.links;
    root = λ s g. let same = functional 1 root s root_seen.there g in subst (λ t. HasParent t 1) same (root_seen.parent is.is_root);
    parents = λ p name above a s r n g d.
        let (t, h, e, c, called, to) = n in
        let (u, seen, kind, identity) = found_child p above t e (reach_found_at p above t r h) c in
        let same = functional a u s (subst (λ i. graph i u) to seen.there) g in
        subst (λ (v : Stored). is_directory v ≡ true → HasParent v above) same seen.parent d;
  }

  names_found : (p : Path) (a : ℕ) (s : Stored) → Found p a s → names_at (tree_of root below) p ≡ map (λ (e : Entry). e.name) (entries_of s)
  names_found p a s at = ap found_names (found_get p a s at) ∙ names-content s.body

  has_found : (p : Path) → Has (tree_of root below) p → (a : ℕ) × (s : Stored) × Found p a s
  has_found p h = let (node, e) = some_at (tree_of root below) p h in let (a, s, at, same) = get_found p node e in (a, s, at)

  found_has : (p : Path) (a : ℕ) (s : Stored) → Found p a s → Has (tree_of root below) p
  found_has p a s at = has_some (tree_of root below) p (node_of s) (found_get p a s at)

  root_found : Found [] 1 root
  root_found = inl (refl, refl, refl)

  pub is_tree : IsTree (tree_of root below)
  unfolding IsDistinct
  is_tree = record {
    root = ap found_directory (found_get [] 1 root root_found) ∙ is.is_root;
    short = λ p h.
        let (a, s, at) = has_found p h in
        let l : suc (length p) ≤ height (whole root below) = at_short (whole root below) ([] ∷ p) a s at in
        let k = is.shallow in omega (arith, l, k);
    children = λ p name. (
      (λ h.
          let (a, s, at) = has_found (p ++ name ∷ []) h in
          let (w, l, (t, g, e, c, called, to)) = leads_last graph p 1 name a (found_reach (p ++ name ∷ []) a s at).0 in
          let there = reach_found_at p w t l g in
          subst (λ ns. Contains ns name) (sym (names_found p w t there)) (subst (Contains (map (λ (e : Entry). e.name) (entries_of t))) called (contains_map (λ (e : Entry). e.name) (entries_of t) e c))),
      (λ c.
          let (a, s, at) = has_found p (has_lists (tree_of root below) p name c) in
          let (e, inside, called) = map_contains (λ (e : Entry). e.name) (entries_of s) name (subst (λ ns. Contains ns name) (names_found p a s at) c) in
          let (r, g) = found_reach p a s at in
          let reach = leads_push graph p 1 a name e.address r (s, g, e, inside, called, refl) in
          let (t, at') = reach_found (p ++ name ∷ []) e.address reach in
          found_has (p ++ name ∷ []) e.address t at'),
    );
    distinct = λ p. distinct_at p (get (tree_of root below) p) refl;
  }
    where
      distinct_at : (p : Path) (o : Option Node) → get (tree_of root below) p ≡ o → IsDistinct bytes_eq (names_at (tree_of root below) p)
      distinct_at p None e = subst (IsDistinct bytes_eq) (sym (ap found_names e)) tt
      distinct_at p (Some node) e =
          let (a, s, at, same) = get_found p node e in
          subst (IsDistinct bytes_eq) (sym (names_found p a s at)) (found_seen p a s at).1.distinct

  identity_found : (p : Path) (a : ℕ) (s : Stored) → Found p a s → identity_at (tree_of root below) p ≡ s.identity
  identity_found p a s at = ap found_identity (found_get p a s at)

  pub has_identities : 16 ≤ next → HasIdentities (tree_of root below) next
  has_identities enough = record {
    enough = enough;
    root = identity_found [] 1 root root_found ∙ is.drawn.0.0 refl;
    range = λ p h apart.
        let (a, s, at) = has_found p h in
        let drawn = at_drawn next (whole root below) ([] ∷ p) a s is.drawn at in
        let other : a ≡ 1 → ⊥ = λ same. apart (tail_same [] [] p [] (adds_one by_address (λ x. false) is.addresses.0 (whole root below) ([] ∷ p) ([] ∷ []) a 1 s root is.addresses.1 at root_found same)) in
        let r = drawn.1 other in
        let e = identity_found p a s at in
        (subst (λ i. 16 ≤ i) (sym e) r.0, subst (λ i. i < next) (sym e) r.1);
    distinct = λ p q h k same.
        let (a, s, at) = has_found p h in
        let (b, t, at') = has_found q k in
        let e = sym (identity_found p a s at) ∙ same ∙ identity_found q b t at' in
        tail_same [] [] p q (adds_one by_identity (λ x. false) is.identities.0 (whole root below) ([] ∷ p) ([] ∷ q) a b s t is.identities.1 at at' e);
  }

  items_apart : Apart (([], node_of root) ∷ listed below)
  items_apart = (
    (λ node c. let (a, s, at, same) = listed_at below [] node c in at_nil below a s at),
    apart_listed graph below 1 is.walked.2 below_distinct,
  )

  pub files_are : files_of (tree_of root below) ≡ files_in (whole root below)
  unfolding tree_of tallied
  files_are =
      let total_is = files-total (tree_of root below) in
      let made_is = total-made not (([], node_of root) ∷ listed below) items_apart in
      let rest = tallied-files below in
      let here = one_file (is_directory root) in
      omega (arith, total_is, made_is, rest, here)

  pub directories_are : directories_of (tree_of root below) ≡ directories_in (whole root below)
  unfolding tree_of tallied
  directories_are =
      let total_is = directories-total (tree_of root below) in
      let made_is = total-made (λ b. b) (([], node_of root) ∷ listed below) items_apart in
      let rest = tallied-directories below in
      let here = one_directory (is_directory root) in
      omega (arith, total_is, made_is, rest, here)
