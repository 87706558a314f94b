-- How far the tree goes below a directory, name by name.
use Rattle.std.proofs.Common.{Ordering, Less, Equal, Greater, ◌≡◌, ◌⊎◌, inl, inr, ℕ, zero, suc, ◌+◌, ◌-◌, ◌<◌, ◌≤◌, Bool, false, true, cond, List, [], ◌∷◌, ◌++◌, length, map, take, Contains, Option, Some, is_some, refl, sym, ap, subst, ◌∙◌, arith, append_assoc, append-nil}
use Rattle.std.specs.Prelude.{nat_eq, slice_get, max}
use Rattle.std.specs.List.{IsDistinct}
use Rattle.std.specs.Map.{keys_of}
use Rattle.std.specs.Cmp.Lexicographic.{pointwise}
use Rattle.std.proofs.Math.Nat.{max-eq_left, max-eq_right}
use Rattle.std.proofs.lemmas.Cmp.{nat_list_eq_equiv}
use Rattle.std.specs.Ordering.{is_lt, is_le, nat_cmp, ord_max}
use Rattle.std.proofs.lemmas.Bool.{false≢true}
use Rattle.std.proofs.lemmas.Map.Keys.{ge_from_not_lt, le_from_is_le}
use Rattle.std.proofs.lemmas.Map.Entries.{lookup_from_place}
use Rattle.std.proofs.lemmas.Option.{slice_get-get_or}
use Rattle.dir.specs.declared.entry.Entry.{Entry as DirEntry}
use Rattle.dir.specs.declared.entry.Kind.{Kind}
use Rattle.dir.specs.declared.entry.Kind.TheVariants as kinds
use Rattle.drive.specs.Journal.{Event, held}
use Rattle.durability.proofs.Stored.{stored_one}
use Rattle.udf.specs.Udf.{udf}
use Rattle.udf.proofs.Formats.{exact}
use Rattle.model.specs.Tree.{Name, Path, Tree, IsTree, Has, names_at, names_in}
use Rattle.model.specs.Graph.{Graph, Body, MakesTree, IsFunctional, content_in}
use Rattle.model.proofs.Lists.{map_contains}
use Rattle.model.proofs.Maps.{not_none, has_front}
use Rattle.udf.specs.Said.{names_directory}
use Rattle.lookup.specs.declared.content.Content.{Content}
use Rattle.lookup.specs.declared.nodes.Placed.{Placed}
use Rattle.recover.specs.declared.node.Node.{Node}
use Rattle.lookup.specs.Heights.{IsHeight, IsHeightSoFar}
use Rattle.lookup.specs.Shows.{IsNodeAt, MatchesStored, graph_below}
use Rattle.lookup.proofs.Walks.{node_at, names_stored, said_names, step_some, step_file}

-- ---- one name after another

-- no name says anything of a path yet
pub height_none : (tree : Tree) (path : Path) (left : ℕ) (es : List (Name × DirEntry)) → Has tree path → IsHeightSoFar tree path left es 0 0
height_none tree path left es has = record {
  longest = [];
  there = subst (λ (p : Path). Has tree p) (sym (append-nil path)) has;
  long = refl;
  most = λ k e lt found below there. absurd (omega (arith, lt));
}

-- nothing is looked at
pub height_unseen : (tree : Tree) (path : Path) (left : ℕ) → Has tree path → left ≡ 0 → IsHeight tree path left 0
height_unseen tree path left has none = record {
  longest = [];
  there = subst (λ (p : Path). Has tree p) (sym (append-nil path)) has;
  long = refl;
  most = λ below there. inr none;
}

-- nothing is below
pub height_alone : (tree : Tree) (path : Path) (left : ℕ) → IsTree tree → Has tree path → ((name : Name) → Has tree (path ++ name ∷ []) → ⊥) → IsHeight tree path left 0
height_alone tree path left is has none = record {
  longest = [];
  there = subst (λ (p : Path). Has tree p) (sym (append-nil path)) has;
  long = refl;
  most = go;
}
  where
    go : (below : Path) → Has tree (path ++ below) → (length below ≤ 0) ⊎ (left ≡ 0)
    go [] there = inl (omega arith)
    go (name ∷ below) there =
        absurd (none name (has_front tree is (path ++ name ∷ []) below (subst (λ (p : Path). Has tree p) (sym (append_assoc path (name ∷ []) below)) there)))

-- the greater of two is one of them
max_one : (a b : ℕ) → ((max a b ≡ a) × (b ≤ a)) ⊎ ((max a b ≡ b) × (a ≤ b))
max_one a b = elim (either a b) [ inl l ↦ inl (max-eq_left l, l) | inr l ↦ inr (max-eq_right l, l) ]
  where
    either : (a b : ℕ) → (b ≤ a) ⊎ (a ≤ b)
    either zero b = inr (omega arith)
    either (suc a) zero = inl (omega arith)
    either (suc a) (suc b) = elim (either a b) [ inl l ↦ inl (omega (arith, l)) | inr l ↦ inr (omega (arith, l)) ]

pub max_within : (a b n : ℕ) → a ≤ n → b ≤ n → max a b ≤ n
max_within a b n l m = elim (max_one a b) [ inl o ↦ omega (arith, o.0, l) | inr o ↦ omega (arith, o.0, m) ]

pub ord_max_is : (a b : ℕ) → ord_max nat_cmp a b ≡ max a b
ord_max_is a b = go (is_lt (nat_cmp b a)) refl
  where
    less : (o : Ordering) → is_lt o ≡ true → is_le o ≡ true
    less Less e = refl
    less Equal e = absurd (false≢true e)
    less Greater e = absurd (false≢true e)

    go : (t : Bool) → is_lt (nat_cmp b a) ≡ t → cond t a b ≡ max a b
    go true e = sym (max-eq_left (le_from_is_le b a (less (nat_cmp b a) e)))
    go false e = sym (max-eq_right (ge_from_not_lt b a e))

-- one name more
pub height_more : (tree : Tree) (path : Path) (left : ℕ) (es : List (Name × DirEntry)) (i height below next : ℕ) (name : Name) (entry : DirEntry) → slice_get es i ≡ Some (name, entry) → 0 < left → height ≤ left → below ≤ left - 1 → next ≡ max height (below + 1)
    → IsHeightSoFar tree path left es i height → IsHeight tree (path ++ name ∷ []) (left - 1) below → IsHeightSoFar tree path left es (i + 1) next
height_more tree path left es i height below next name entry found some low under is so_far there = go (max_one height (below + 1))
  where
    beyond : (deeper : Path) → Has tree (path ++ name ∷ deeper) → (suc (length deeper) ≤ below + 1) ⊎ (left ≡ below + 1)
    beyond deeper has = elim (there.most deeper (subst (λ (p : Path). Has tree p) (sym (append_assoc path (name ∷ []) deeper)) has)) [
      | inl le ↦ inl (omega (arith, le))
      | inr e ↦ inr (omega (arith, e, some))
    ]

    each : (before : (n : ℕ) → (n ≤ height) ⊎ (left ≡ height) → (n ≤ next) ⊎ (left ≡ next)) (now : (n : ℕ) → (n ≤ below + 1) ⊎ (left ≡ below + 1) → (n ≤ next) ⊎ (left ≡ next))
        → (k : ℕ) (e : Name × DirEntry) → k < i + 1 → slice_get es k ≡ Some e → (deeper : Path) → Has tree (path ++ e.0 ∷ deeper) → (suc (length deeper) ≤ next) ⊎ (left ≡ next)
    each before now k e lt at deeper has = which (nat_cases k i lt)
      where
        nat_cases : (k i : ℕ) → k < i + 1 → (k < i) ⊎ (k ≡ i)
        nat_cases zero zero h = inr refl
        nat_cases zero (suc i) h = inl (omega arith)
        nat_cases (suc k) zero h = absurd (omega (arith, h))
        nat_cases (suc k) (suc i) h = elim (nat_cases k i (omega (arith, h))) [ inl l ↦ inl (omega (arith, l)) | inr e ↦ inr (ap suc e) ]

        same_Some : (x y : Name × DirEntry) → Some x ≡ Some y → x ≡ y
        same_Some x y h = cc

        which : (k < i) ⊎ (k ≡ i) → (suc (length deeper) ≤ next) ⊎ (left ≡ next)
        which (inl l) = before (suc (length deeper)) (so_far.most k e l at deeper has)
        which (inr q) =
            let one : e ≡ (name, entry) = same_Some e (name, entry) (sym at ∙ (ap (λ (n : ℕ). slice_get es n) q ∙ found)) in
            now (suc (length deeper)) (beyond deeper (subst (λ (n : Name). Has tree (path ++ n ∷ deeper)) (ap (λ (x : Name × DirEntry). x.0) one) has))

    go : ((max height (below + 1) ≡ height) × (below + 1 ≤ height)) ⊎ ((max height (below + 1) ≡ below + 1) × (height ≤ below + 1)) → IsHeightSoFar tree path left es (i + 1) next
    go (inl m) =
        let same : next ≡ height = is ∙ m.0 in
        record {
          longest = so_far.longest;
          there = so_far.there;
          long = so_far.long ∙ sym same;
          most = each
              (λ n o. elim o [ inl l ↦ inl (omega (arith, l, same)) | inr e ↦ inr (e ∙ sym same) ])
              (λ n o. elim o [ inl l ↦ inl (omega (arith, l, same, m.1)) | inr e ↦ inr (omega (arith, e, same, m.1, low)) ]);
        }
    go (inr m) =
        let same : next ≡ below + 1 = is ∙ m.0 in
        record {
          longest = name ∷ there.longest;
          there = subst (λ (p : Path). Has tree p) (append_assoc path (name ∷ []) there.longest) there.there;
          long = omega (arith, there.long, same);
          most = each
              (λ n o. elim o [ inl l ↦ inl (omega (arith, l, same, m.1)) | inr e ↦ inr (omega (arith, e, same, m.1, under, some)) ])
              (λ n o. elim o [ inl l ↦ inl (omega (arith, l, same)) | inr e ↦ inr (e ∙ sym same) ]);
        }

-- all of the names
pub height_all : (tree : Tree) (path : Path) (left : ℕ) (es : List (Name × DirEntry)) (count height : ℕ) → IsTree tree → names_at tree path ≡ map (λ (e : Name × DirEntry). e.0) es → length es ≤ count
    → IsHeightSoFar tree path left es count height → IsHeight tree path left height
height_all tree path left es count height is names all so_far = record { longest = so_far.longest; there = so_far.there; long = so_far.long; most = go }
  where
    go : (below : Path) → Has tree (path ++ below) → (length below ≤ height) ⊎ (left ≡ height)
    go [] has = inl (omega arith)
    go (name ∷ below) has =
        let one = has_front tree is (path ++ name ∷ []) below (subst (λ (p : Path). Has tree p) (sym (append_assoc path (name ∷ []) below)) has) in
        let e = map_contains (λ (e : Name × DirEntry). e.0) es name (subst (λ (ns : List Name). Contains ns name) names ((is.children path name).0 one)) in
        let at : slice_get es e.1.0 ≡ Some e.0 = slice_get-get_or es e.1.0 e.0 e.1.1 ∙ ap Some e.1.2 in
        so_far.most e.1.0 e.0 (omega (arith, e.1.1, all)) at below (subst (λ (n : Name). Has tree (path ++ n ∷ below)) (sym e.2) has)

-- ---- by what a directory says

module _ (graph : Graph) (tree : Tree) (one : IsFunctional graph) (is : IsTree tree) (makes : MakesTree graph tree) where
  pub has_at : (path : Path) (node : Node) → IsNodeAt graph path node → Has tree path
  has_at path node at = ap is_some (node_at graph tree one is makes path node at)

  pub names_opened : (path : Path) (node : Node) (at : IsNodeAt graph path node) (placed : Placed) (content : Content) → MatchesStored at.found.stored placed content → names_at tree path ≡ map (λ (e : Name × DirEntry). e.0) content.dir.entries.entries
  names_opened path node at placed content shown =
      names_stored graph tree one is makes path node at ∙ (ap (λ (b : Body). names_in (content_in b)) shown.body ∙ said_names content.dir.entries.entries)

  pub distinct_opened : (path : Path) (node : Node) (at : IsNodeAt graph path node) (placed : Placed) (content : Content) → MatchesStored at.found.stored placed content → IsDistinct (pointwise nat_eq) (keys_of content.dir.entries.entries)
  distinct_opened path node at placed content shown = subst (λ (ns : List Name). IsDistinct (pointwise nat_eq) ns) (names_opened path node at placed content shown) (is.distinct path)

  -- what an entry leads to
  pub entry_leads : (path : Path) (node : Node) (at : IsNodeAt graph path node) (placed : Placed) (content : Content) → MatchesStored at.found.stored placed content → (i : ℕ) (name : Name) (e : DirEntry) → slice_get content.dir.entries.entries i ≡ Some (name, e)
      → IsNodeAt graph (path ++ name ∷ []) (record { kind = e.kind; address = e.virtual_address; unique = e.unique })
  entry_leads path node at placed content shown i name e found =
      step_some graph tree one is makes path node at placed content shown name e
      (lookup_from_place nat_list_eq_equiv content.dir.entries.entries i name e (distinct_opened path node at placed content shown) found)

  -- nothing is below a file
  pub file_height : (path : Path) (node : Node) (left : ℕ) → IsNodeAt graph path node → names_directory node.kind ≡ false → IsHeight tree path left 0
  file_height path node left at file =
      height_alone tree path left is (has_at path node at) (λ name has. not_none tree (path ++ name ∷ []) (step_file graph tree one is makes path node at file name) has)

-- ---- on a journal

-- at most one thing is stored under an address
pub one_on : (at : ℕ) (entries : List (Option ℕ)) (J : List Event) → IsFunctional (graph_below at entries J)
one_on at entries J = stored_one udf exact (take at (held J)) entries

module _ (at : ℕ) (entries : List (Option ℕ)) (J : List Event) (tree : Tree) (is : IsTree tree) (makes : MakesTree (graph_below at entries J) tree) where
  pub there_at : (path : Path) (node : Node) → IsNodeAt (graph_below at entries J) path node → Has tree path
  there_at path node here = has_at (graph_below at entries J) tree (one_on at entries J) is makes path node here

  pub alone_at : (path : Path) (node : Node) (left : ℕ) → IsNodeAt (graph_below at entries J) path node → names_directory node.kind ≡ false → IsHeight tree path left 0
  alone_at path node left here file = file_height (graph_below at entries J) tree (one_on at entries J) is makes path node left here file

  -- what is stored where a node is, on a journal that is the same
  pub stored_on : (J1 : List Event) → J1 ≡ J → (address : ℕ) (path : Path) (node : Node) (here : IsNodeAt (graph_below at entries J) path node) → node.address ≡ address → graph_below at entries J1 address here.found.stored
  stored_on J1 same address path node here e =
      let there = subst (λ (a : ℕ). graph_below at entries J a here.found.stored) (sym here.address ∙ e) here.found.is in
      subst (λ (K : List Event). graph_below at entries K address here.found.stored) (sym same) there

  -- the height below an entry, on a journal that is the same
  pub leads_on : (J1 : List Event) → J1 ≡ J → (path : Path) (node : Node) (here : IsNodeAt (graph_below at entries J) path node) (placed : Placed) (content : Content) → MatchesStored here.found.stored placed content → (i : ℕ) (name : Name) (e : DirEntry)
      → slice_get content.dir.entries.entries i ≡ Some (name, e) → IsNodeAt (graph_below at entries J1) (path ++ name ∷ []) (record { kind = e.kind; address = e.virtual_address; unique = e.unique })
  leads_on J1 same path node here placed content shown i name e found =
      subst (λ (K : List Event). IsNodeAt (graph_below at entries K) (path ++ name ∷ []) (record { kind = e.kind; address = e.virtual_address; unique = e.unique })) (sym same)
      (entry_leads (graph_below at entries J) tree (one_on at entries J) is makes path node here placed content shown i name e found)

  pub height_opened : (path : Path) (node : Node) (here : IsNodeAt (graph_below at entries J) path node) (placed : Placed) (content : Content) → MatchesStored here.found.stored placed content → (left count height : ℕ)
      → length content.dir.entries.entries ≤ count → IsHeightSoFar tree path left content.dir.entries.entries count height → IsHeight tree path left height
  height_opened path node here placed content shown left count height all so_far =
      height_all tree path left content.dir.entries.entries count height is (names_opened (graph_below at entries J) tree (one_on at entries J) is makes path node here placed content shown) all so_far

pub file_kind : (k : Kind) → (k ≡ kinds.Directory → ⊥) → names_directory k ≡ false
file_kind kinds.Directory apart = absurd (apart refl)
file_kind kinds.File apart = refl
