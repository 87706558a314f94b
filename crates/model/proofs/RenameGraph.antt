-- Rename: the graph afterwards.
use Rattle.std.proofs.Common.{◌≡◌, ◌↔◌, ℕ, ◌≤◌, Bool, true, ◌⊎◌, inl, inr, List, [], ◌∷◌, ◌++◌, map, length, filter, Contains, Some, is_some, refl, sym, ap, ◌∙◌, subst, append_assoc, append-nil}
use Rattle.std.proofs.lemmas.Bool.{false≢true}
use Rattle.std.proofs.lemmas.Option.{same_Some}
use Rattle.std.proofs.lemmas.List.{map_push}
use Rattle.std.specs.FinMap.{get}
use Rattle.model.specs.Tree.{Name, Path, Node, Content, Tree, has_names, names_in, IsTree, Has, is_directory_at, identity_at, found_directory, found_identity, found_names, names_of, parent_of, last_of}
use Rattle.model.specs.Tree.Content.{File, Directory}
use Rattle.model.specs.Operation.{with_names, name_added, name_taken_out, all_moved, is_other, content_with}
use Rattle.model.specs.Graph.{Graph, Entry, MakesTree, IsFunctional, Reach, as_stored, entries_of}
use Rattle.model.specs.Graph.Body.{Entries}
use Rattle.model.specs.Change.{Found, IsReached, Renamed, Moved, renamed, without, with_entries, with_parent}
use Rattle.model.proofs.Lists.{map_agree, map-filter, same_head, contains_filter, other_not}
use Rattle.model.proofs.Paths.{path_cases, parent-push, last-push, push_longer, last_same, front_same, snoc_cases, no_rest, IsOut, not_below_nil}
use Rattle.model.proofs.Place.{Placed, reached_at, reached_path, entry_at, body_at, stored_at, makes_from_placed, place_reach, reach_place, stored_is, entry_is}
use Rattle.model.proofs.Maps.{has_some, some_at}
use Rattle.model.proofs.Edits.{changed, has_parent, IsAlike, entry-alike, stored-alike, get-changed_same, get-changed_other}
use Rattle.model.proofs.Identities.{TakesIdentity}
use Rattle.model.proofs.Moving.{begins}
use Rattle.model.proofs.Moving.Begins.{Yes, No}
use Rattle.model.proofs.Rename
use Rattle.model.proofs.Rename.{region}
use Rattle.model.proofs.Rename.Region.{To, From, Elsewhere}

module _ (front : Path) (name : Name) (beyond : Path) (new_name : Name) (moment : ℕ) (tree : Tree) (is : IsTree tree)
    (here : Has tree (front ++ name ∷ [])) (directory : is_directory_at tree beyond ≡ true) (new : Has tree (beyond ++ new_name ∷ []) → ⊥)
    (not_into : (rest : Path) → beyond ++ new_name ∷ [] ≡ (front ++ name ∷ []) ++ rest → ⊥)
    (short : (rest : Path) → Has tree ((front ++ name ∷ []) ++ rest) → length ((beyond ++ new_name ∷ []) ++ rest) ≤ 16) where
  abbrev from : Path
  from = front ++ name ∷ []

  abbrev to : Path
  to = beyond ++ new_name ∷ []

  abbrev keep : Name → Bool
  keep = is_other (name ∷ [])

  abbrev push : List Name → List Name
  push names = names ++ new_name ∷ []

  abbrev middle : Tree
  middle = all_moved from to tree

  abbrev without_it : Tree
  without_it = changed front (filter keep) moment middle

  abbrev after : Tree
  after = name_added (beyond ++ new_name ∷ []) moment (name_taken_out (front ++ name ∷ []) moment (all_moved (front ++ name ∷ []) (beyond ++ new_name ∷ []) tree))

  -- What the tree's own file says of it.

  after-is : after ≡ changed beyond push moment without_it
  after-is = Rename.after-is front name beyond new_name moment tree is here directory new not_into short

  has_above_it : Has tree front
  has_above_it = Rename.has_above_it front name beyond new_name moment tree is here directory new not_into short

  has_beyond : Has tree beyond
  has_beyond = Rename.has_beyond front name beyond new_name moment tree is here directory new not_into short

  front_not_from : (rest : Path) → front ≡ from ++ rest → ⊥
  front_not_from = Rename.front_not_from front name beyond new_name moment tree is here directory new not_into short

  beyond_not_from : (rest : Path) → beyond ≡ from ++ rest → ⊥
  beyond_not_from = Rename.beyond_not_from front name beyond new_name moment tree is here directory new not_into short

  front_other : get middle front ≡ get tree front
  front_other = Rename.front_other front name beyond new_name moment tree is here directory new not_into short

  beyond_other : get middle beyond ≡ get tree beyond
  beyond_other = Rename.beyond_other front name beyond new_name moment tree is here directory new not_into short

  front_directory : is_directory_at tree front ≡ true
  front_directory = Rename.front_directory front name beyond new_name moment tree is here directory new not_into short

  child_from : (q : Path) (child : Name) → IsOut from q → (q ++ child ∷ [] ≡ from → ⊥) → IsOut from (q ++ child ∷ [])
  child_from = Rename.child_from front name beyond new_name moment tree is here directory new not_into short

  out_to : (q : Path) → Has tree q → IsOut to q
  out_to = Rename.out_to front name beyond new_name moment tree is here directory new not_into short

  at_to : (rest : Path) → get after (to ++ rest) ≡ get tree (from ++ rest)
  at_to = Rename.at_to front name beyond new_name moment tree is here directory new not_into short

  at_other : (q : Path) → IsOut from q → IsOut to q → (q ≡ front → ⊥) → (q ≡ beyond → ⊥) → get after q ≡ get tree q
  at_other = Rename.at_other front name beyond new_name moment tree is here directory new not_into short

  kind_other : (q : Path) → IsOut from q → IsOut to q → is_directory_at after q ≡ is_directory_at tree q
  kind_other = Rename.kind_other front name beyond new_name moment tree is here directory new not_into short

  identity_other : (q : Path) → IsOut from q → IsOut to q → identity_at after q ≡ identity_at tree q
  identity_other = Rename.identity_other front name beyond new_name moment tree is here directory new not_into short

  some_other : (q : Path) → IsOut from q → IsOut to q → is_some (get after q) ≡ is_some (get tree q)
  some_other = Rename.some_other front name beyond new_name moment tree is here directory new not_into short

  not_from : (q rest : Path) → Has after q → q ≡ from ++ rest → ⊥
  not_from = Rename.not_from front name beyond new_name moment tree is here directory new not_into short

  tree_after : IsTree after
  tree_after = Rename.tree_after front name beyond new_name moment tree is here directory new not_into short

  abbrev back : Path → Path
  back = Rename.back front name beyond new_name moment tree is here directory new not_into short

  back_to : (rest : Path) → back (to ++ rest) ≡ from ++ rest
  back_to = Rename.back_to front name beyond new_name moment tree is here directory new not_into short

  back_other : (q : Path) → IsOut to q → back q ≡ q
  back_other = Rename.back_other front name beyond new_name moment tree is here directory new not_into short

  takes_identity : (q : Path) → Has after q → TakesIdentity tree after back q
  takes_identity = Rename.takes_identity front name beyond new_name moment tree is here directory new not_into short

  back_apart : (p q : Path) → Has after p → Has after q → back p ≡ back q → p ≡ q
  back_apart = Rename.back_apart front name beyond new_name moment tree is here directory new not_into short

  module _ (graph graph' : Graph) (one : IsFunctional graph) (one' : IsFunctional graph') (place : Path → ℕ) (placed : Placed graph tree place) where
    -- a moved path has the address of the path that it was
    place' : Path → ℕ
    place' q = place (back q)

    place_to : (rest : Path) → place' (to ++ rest) ≡ place (from ++ rest)
    unfolding place'
    place_to rest = ap place (back_to rest)

    place_other : (q : Path) → IsOut to q → place' q ≡ place q
    unfolding place'
    place_other q t = ap place (back_other q t)

    apart : (p q : Path) → Has after p → Has after q → place' p ≡ place' q → p ≡ q
    unfolding place'
    apart p q hp hq e = back_apart p q hp hq (placed.apart (back p) (back q) (takes_identity p hp).has (takes_identity q hq).has e)

    alike_to : (rest : Path) → IsAlike tree after place place' (from ++ rest) (to ++ rest)
    alike_to rest = record { kind = ap found_directory (at_to rest); identity = ap found_identity (at_to rest); address = place_to rest }

    alike_top : IsAlike tree after place place' from to
    alike_top = subst (λ p. IsAlike tree after place place' p to) (append-nil from) (subst (λ q. IsAlike tree after place place' (from ++ []) q) (append-nil to) (alike_to []))

    alike_below : (rest : Path) (child : Name) → IsAlike tree after place place' ((from ++ rest) ++ child ∷ []) ((to ++ rest) ++ child ∷ [])
    alike_below rest child = subst (λ p. IsAlike tree after place place' p ((to ++ rest) ++ child ∷ [])) (sym (append_assoc from rest (child ∷ [])))
        (subst (IsAlike tree after place place' (from ++ (rest ++ child ∷ []))) (sym (append_assoc to rest (child ∷ []))) (alike_to (rest ++ child ∷ [])))

    alike_child : (child : Name) → IsAlike tree after place place' (from ++ child ∷ []) (to ++ child ∷ [])
    alike_child child = alike_to (child ∷ [])

    alike_other : (q : Path) → IsOut from q → Has tree q → IsAlike tree after place place' q q
    alike_other q f h = let t = out_to q h in record { kind = kind_other q f t; identity = identity_other q f t; address = place_other q t }

    parent_other : (q : Path) → Has tree q → place' (parent_of q) ≡ place (parent_of q)
    parent_other q h = place_other (parent_of q) (out_to (parent_of q) (has_parent tree is q h))

    parent_to : place' (parent_of to) ≡ place beyond
    parent_to = ap place' (parent-push beyond new_name) ∙ place_other beyond (out_to beyond has_beyond)

    listed : (q : Path) (node : Node) → get tree q ≡ Some node → (child : Name) → Contains (names_of node) child → Has tree (q ++ child ∷ [])
    listed q node e child c = (is.children q child).1 (subst (λ o. Contains (found_names o) child) (sym e) c)

    -- below what is moved all is as it was
    stored_below : (start : Path) (last : Name) (node : Node) → stored_at after place' (to ++ (start ++ last ∷ [])) node ≡ stored_at tree place (from ++ (start ++ last ∷ [])) node
    stored_below start last node = stored-alike tree after place place' _ _ node (λ child c. alike_below (start ++ last ∷ []) child)
        (λ d. ap (λ q. place' (parent_of q)) (sym (append_assoc to start (last ∷ []))) ∙ ap place' (parent-push (to ++ start) last) ∙ place_to start
        ∙ ap place (sym (parent-push (from ++ start) last)) ∙ ap (λ q. place (parent_of q)) (append_assoc from start (last ∷ [])))

    stored_other : (q : Path) (node : Node) → get tree q ≡ Some node → IsOut from q → (q ≡ front → ⊥) → stored_at after place' q node ≡ stored_at tree place q node
    stored_other q node e f a = stored-alike tree after place place' q q node
        (λ child c. alike_other (q ++ child ∷ []) (child_from q child f (λ s. a (front_same q front child name s))) (listed q node e child c))
        (λ d. parent_other q (has_some tree q node e))

    -- the entry of what is moved
    entry_moved : (e : Entry) (label : Name) → e ≡ entry_at tree place front name → label ≡ new_name → renamed label e ≡ entry_at after place' beyond new_name
    entry_moved e label is_entry same = λ i. record {
      name = same i;
      is_directory = (ap (λ x. x.is_directory) is_entry ∙ sym alike_top.kind) i;
      address = (ap (λ x. x.address) is_entry ∙ sym alike_top.address) i;
      identity = (ap (λ x. x.identity) is_entry ∙ sym alike_top.identity) i;
    }

    -- the entries that stay beside it
    entries_without : (names : List Name) → ((child : Name) → Contains names child → Has tree (front ++ child ∷ [])) → without from (map (entry_at tree place front) names) ≡ map (entry_at after place' front) (filter keep names)
    entries_without names has =
        let old = map (entry_at tree place front) names in
        let test : without from old ≡ filter (λ e. keep e.name) old = λ i. filter (λ e. is_other (last-push front name i) e.name) old in
        let same = map_agree (entry_at tree place front) (entry_at after place' front) (filter keep names)
        (λ child c. let both = contains_filter keep names child c in
        sym (entry-alike tree after place place' front front child
        (alike_other (front ++ child ∷ []) (child_from front child front_not_from (λ e. other_not name child both.1 (last_same front child name e))) (has child both.0)))) in
        test ∙ sym (map-filter (entry_at tree place front) keep (λ e. keep e.name) names (λ x. refl)) ∙ same

    above_node : (node : Node) × (get tree front ≡ Some node)
    above_node = some_at tree front has_above_it

    above_kind : has_names above_node.0.content ≡ true
    above_kind = ap found_directory (sym above_node.1) ∙ front_directory

    at_above : (found : Found graph (parent_of from)) → found.address ≡ place front
    at_above found = (reach_place graph tree place one is placed front found.address (subst (λ q. Reach graph q found.address) (parent-push front name) found.reach)).0

    above_stored : (found : Found graph (parent_of from)) → found.stored ≡ stored_at tree place front above_node.0
    above_stored found = stored_is graph tree place one is placed front above_node.0 _ above_node.1 (subst (λ a. graph a found.stored) (at_above found) found.is)

    moved_entry : (found : Found graph (parent_of from)) (e : Entry) → Contains (entries_of found.stored) e → last_of from ≡ e.name ∷ [] → e ≡ entry_at tree place front name
    moved_entry found e c last =
        (entry_is graph tree place one is placed front found.stored e has_above_it (subst (λ a. graph a found.stored) (at_above found) found.is) c).0
        ∙ ap (entry_at tree place front) (same_head _ _ (sym last ∙ last-push front name))

    -- each path of the tree is at its address
    IsPlaced : Type 0
    IsPlaced = (q : Path) (node : Node) → get after q ≡ Some node → graph' (place' q) (stored_at after place' q node)

    placed_after : IsPlaced → Placed graph' after place'
    unfolding IsPlaced
    placed_after each = record { root = place_other [] (not_below_nil beyond new_name) ∙ placed.root; apart = apart; each = each }

    makes : IsPlaced → MakesTree graph' after
    makes each = makes_from_placed graph' after place' one' tree_after (placed_after each)

    has_after : (rest : Path) → Has tree (from ++ rest) → Has after (to ++ rest)
    has_after rest h = ap is_some (at_to rest) ∙ h

    reached : IsPlaced → (a : ℕ) → IsReached graph' a ↔ IsReached graph a
    unfolding place'
    reached each a = (
      (λ r. let x = reached_path graph' after place' one' tree_after (placed_after each) a r in
          reached_at graph tree place one is placed (back x.0) (takes_identity x.0 x.2).has a x.1),
      (λ r. let x = reached_path graph tree place one is placed a r in
          elim (begins from x.0) [
            | Yes rest e ↦ reached_at graph' after place' one' tree_after (placed_after each) (to ++ rest) (has_after rest (subst (Has tree) e x.2)) a (x.1 ∙ ap place e ∙ sym (place_to rest))
            | No f e ↦ let t = out_to x.0 x.2 in
                reached_at graph' after place' one' tree_after (placed_after each) x.0 (some_other x.0 f t ∙ x.2) a (x.1 ∙ sym (place_other x.0 t))
          ]),
    )

    IsThere : Path → Type 0
    IsThere q = (node : Node) → get after q ≡ Some node → graph' (place' q) (stored_at after place' q node)

    there : (q : Path) (node : Node) → get after q ≡ Some node → graph' (place' q) (stored_at after place' q node) → IsThere q
    unfolding IsThere
    there q node e g other d = subst (λ n. graph' (place' q) (stored_at after place' q n)) (same_Some _ _ (sym e ∙ d)) g

    -- Within one directory.
    module _ (change : Renamed graph graph' (front ++ name ∷ []) (beyond ++ new_name ∷ []) moment) where
      beside : front ≡ beyond
      beside = sym (parent-push front name) ∙ change.beside ∙ parent-push beyond new_name

      kept : (q : Path) (node : Node) → get tree q ≡ Some node → (q ≡ front → ⊥) → graph' (place q) (stored_at tree place q node)
      kept q node e a =
          let h = has_some tree q node e in
          change.kept (place q) (q, place_reach graph tree place one is placed q h) (λ s. a (placed.apart q front h has_above_it (s ∙ at_above change.above))) _ (placed.each q node e)

      node_front : Node
      node_front = with_names push moment (with_names (filter keep) moment above_node.0)

      at_front : get after front ≡ Some node_front
      unfolding node_front
      at_front = ap (λ t. get t front) after-is ∙ ap (λ x. get (changed x push moment without_it) front) (sym beside)
          ∙ get-changed_same front (with_names push moment) without_it (with_names (filter keep) moment above_node.0)
          (get-changed_same front (with_names (filter keep) moment) middle above_node.0 (front_other ∙ above_node.1))

      body_front : (c : Content) → has_names c ≡ true → ((child : Name) → Contains (names_in c) child → Has tree (front ++ child ∷ []))
          → with_entries (λ entries. without from entries ++ renamed change.name change.moved ∷ []) (body_at tree place front c) ≡ body_at after place' front (content_with push (content_with (filter keep) c))
      body_front (File bytes) d has = absurd (false≢true d)
      body_front (Directory names) d has =
          let entry = entry_moved change.moved change.name (moved_entry change.above change.moved change.contains change.from_last) (same_head _ _ (sym change.to_last ∙ last-push beyond new_name))
          ∙ ap (λ x. entry_at after place' x new_name) (sym beside) in
          let rest = entries_without names has in
          let list : without from (map (entry_at tree place front) names) ++ renamed change.name change.moved ∷ [] ≡ map (entry_at after place' front) (filter keep names ++ new_name ∷ []) =
          (λ i. rest i ++ entry i ∷ []) ∙ sym (map_push (entry_at after place' front) (filter keep names) new_name) in
          λ i. Entries (sym (parent_other front has_above_it) i) (list i)

      stored_front : graph' (place' front) (stored_at after place' front node_front)
      unfolding node_front
      stored_front =
          let same = above_stored change.above in
          let address = at_above change.above ∙ sym (place_other front (out_to front has_above_it)) in
          let body = ap (λ s. with_entries (λ entries. without from entries ++ renamed change.name change.moved ∷ []) s.body) same ∙ body_front above_node.0.content above_kind (listed front above_node.0 above_node.1) in
          subst (λ a. graph' a (stored_at after place' front (with_names push moment (with_names (filter keep) moment above_node.0)))) address
          (subst (graph' change.above.address) (λ i. as_stored (ap (λ s. s.identity) same i) moment (body i)) change.written)

      stored_top : IsThere to
      unfolding IsThere
      stored_top node e =
          let before : get tree from ≡ Some node = ap (get tree) (sym (append-nil from)) ∙ sym (at_to []) ∙ ap (get after) (append-nil to) ∙ e in
          let same = stored-alike tree after place place' from to node (λ child c. alike_child child)
          (λ d. parent_to ∙ ap place (sym beside ∙ sym (parent-push front name))) in
          subst (λ a. graph' a (stored_at after place' to node)) (sym alike_top.address)
          (subst (graph' (place from)) (sym same) (kept from node before (λ s. push_longer front name (sym s))))

      stored_under : (rest : Path) → (rest ≡ []) ⊎ ((start : Path) × (last : Name) × (rest ≡ start ++ last ∷ [])) → IsThere (to ++ rest)
      unfolding IsThere
      stored_under rest (inl n) = subst IsThere (sym (ap (λ r. to ++ r) n ∙ append-nil to)) stored_top
      stored_under rest (inr s) = subst (λ r. IsThere (to ++ r)) (sym s.2) (λ node e.
          subst (λ a. graph' a (stored_at after place' (to ++ (s.0 ++ s.1 ∷ [])) node)) (sym (place_to (s.0 ++ s.1 ∷ [])))
          (subst (graph' (place (from ++ (s.0 ++ s.1 ∷ [])))) (sym (stored_below s.0 s.1 node)) (kept (from ++ (s.0 ++ s.1 ∷ [])) node (sym (at_to (s.0 ++ s.1 ∷ [])) ∙ e) (λ x. front_not_from _ (sym x)))))

      each : (q : Path) → IsThere q
      unfolding IsThere
      each q = elim (region from to q) [
        | To rest p ↦ subst IsThere (sym p) (stored_under rest (snoc_cases rest))
        | From rest p ↦ λ node e. absurd (not_from q rest (has_some after q node e) p)
        | Elsewhere f t ↦ elim (path_cases q front) [
          | inl p ↦ subst IsThere (sym p.1) (there front node_front at_front stored_front)
          | inr p ↦ λ node e. let before = sym (at_other q f t p.1 (λ s. p.1 (s ∙ sym beside))) ∙ e in
              subst (λ a. graph' a (stored_at after place' q node)) (sym (place_other q t)) (subst (graph' (place q)) (sym (stored_other q node before f p.1)) (kept q node before p.1))
        ]
      ]

      pub makes_renamed : MakesTree graph' after
      unfolding IsThere IsPlaced
      makes_renamed = makes each

      pub reached_renamed : (a : ℕ) → IsReached graph' a ↔ IsReached graph a
      unfolding IsThere IsPlaced
      reached_renamed = reached each

    body_turned : (c : Content) → ((child : Name) → Contains (names_in c) child → IsAlike tree after place place' (from ++ child ∷ []) (to ++ child ∷ []))
        → with_parent (place' (parent_of to)) (body_at tree place from c) ≡ body_at after place' to c
    body_turned (File bytes) same = refl
    body_turned (Directory names) same =
        ap (Entries (place' (parent_of to))) (map_agree (entry_at tree place from) (entry_at after place' to) names (λ child c. sym (entry-alike tree after place place' from to child (same child c))))

    -- To another directory.
    module _ (change : Moved graph graph' (front ++ name ∷ []) (beyond ++ new_name ∷ []) moment) where
      other_directory : front ≡ beyond → ⊥
      other_directory e = change.elsewhere (parent-push front name ∙ e ∙ sym (parent-push beyond new_name))

      beyond_node : (node : Node) × (get tree beyond ≡ Some node)
      beyond_node = some_at tree beyond has_beyond

      beyond_kind : has_names beyond_node.0.content ≡ true
      beyond_kind = ap found_directory (sym beyond_node.1) ∙ directory

      at_beyond : change.beyond.address ≡ place beyond
      at_beyond = (reach_place graph tree place one is placed beyond change.beyond.address (subst (λ q. Reach graph q change.beyond.address) (parent-push beyond new_name) change.beyond.reach)).0

      beyond_stored : change.beyond.stored ≡ stored_at tree place beyond beyond_node.0
      beyond_stored = stored_is graph tree place one is placed beyond beyond_node.0 _ beyond_node.1 (subst (λ a. graph a change.beyond.stored) at_beyond change.beyond.is)

      moved_is : change.moved ≡ entry_at tree place front name
      moved_is = moved_entry change.above change.moved change.contains change.from_last

      moved_address : change.moved.address ≡ place from
      moved_address = ap (λ e. e.address) moved_is

      kept_beyond : (q : Path) (node : Node) → get tree q ≡ Some node → (q ≡ front → ⊥) → (q ≡ beyond → ⊥) → (q ≡ from → ⊥) → graph' (place q) (stored_at tree place q node)
      kept_beyond q node e a b c =
          let h = has_some tree q node e in
          change.kept (place q) (q, place_reach graph tree place one is placed q h)
          (λ s. a (placed.apart q front h has_above_it (s ∙ at_above change.above)))
          (λ s. b (placed.apart q beyond h has_beyond (s ∙ at_beyond)))
          (λ s. c (placed.apart q from h here (s ∙ moved_address))) _ (placed.each q node e)

      at_old_parent : get after front ≡ Some (with_names (filter keep) moment above_node.0)
      at_old_parent = ap (λ t. get t front) after-is ∙ get-changed_other beyond (with_names push moment) without_it front other_directory
          ∙ get-changed_same front (with_names (filter keep) moment) middle above_node.0 (front_other ∙ above_node.1)

      at_new_parent : get after beyond ≡ Some (with_names push moment beyond_node.0)
      at_new_parent = ap (λ t. get t beyond) after-is
          ∙ get-changed_same beyond (with_names push moment) without_it beyond_node.0
          (get-changed_other front (with_names (filter keep) moment) middle beyond (λ e. other_directory (sym e)) ∙ beyond_other ∙ beyond_node.1)

      body_old_parent : (c : Content) → has_names c ≡ true → ((child : Name) → Contains (names_in c) child → Has tree (front ++ child ∷ []))
          → with_entries (without from) (body_at tree place front c) ≡ body_at after place' front (content_with (filter keep) c)
      body_old_parent (File bytes) d has = absurd (false≢true d)
      body_old_parent (Directory names) d has = λ i. Entries (sym (parent_other front has_above_it) i) (entries_without names has i)

      stored_old_parent : graph' (place' front) (stored_at after place' front (with_names (filter keep) moment above_node.0))
      stored_old_parent =
          let same = above_stored change.above in
          let address = at_above change.above ∙ sym (place_other front (out_to front has_above_it)) in
          let body = ap (λ s. with_entries (without from) s.body) same ∙ body_old_parent above_node.0.content above_kind (listed front above_node.0 above_node.1) in
          subst (λ a. graph' a (stored_at after place' front (with_names (filter keep) moment above_node.0))) address
          (subst (graph' change.above.address) (λ i. as_stored (ap (λ s. s.identity) same i) moment (body i)) change.unlisted)

      body_beyond : (c : Content) → has_names c ≡ true → ((child : Name) → Contains (names_in c) child → Has tree (beyond ++ child ∷ []))
          → with_entries (λ entries. entries ++ renamed change.name change.moved ∷ []) (body_at tree place beyond c) ≡ body_at after place' beyond (content_with push c)
      body_beyond (File bytes) d has = absurd (false≢true d)
      body_beyond (Directory names) d has =
          let entry = entry_moved change.moved change.name moved_is (same_head _ _ (sym change.to_last ∙ last-push beyond new_name)) in
          let rest = map_agree (entry_at tree place beyond) (entry_at after place' beyond) names (λ child c. sym (entry-alike tree after place place' beyond beyond child
          (alike_other (beyond ++ child ∷ []) (child_from beyond child beyond_not_from (λ e. other_directory (sym (front_same beyond front child name e)))) (has child c)))) in
          let list : map (entry_at tree place beyond) names ++ renamed change.name change.moved ∷ [] ≡ map (entry_at after place' beyond) (names ++ new_name ∷ []) =
          (λ i. rest i ++ entry i ∷ []) ∙ sym (map_push (entry_at after place' beyond) names new_name) in
          λ i. Entries (sym (parent_other beyond has_beyond) i) (list i)

      stored_beyond : graph' (place' beyond) (stored_at after place' beyond (with_names push moment beyond_node.0))
      stored_beyond =
          let address = at_beyond ∙ sym (place_other beyond (out_to beyond has_beyond)) in
          let body = ap (λ s. with_entries (λ entries. entries ++ renamed change.name change.moved ∷ []) s.body) beyond_stored ∙ body_beyond beyond_node.0.content beyond_kind (listed beyond beyond_node.0 beyond_node.1) in
          subst (λ a. graph' a (stored_at after place' beyond (with_names push moment beyond_node.0))) address
          (subst (graph' change.beyond.address) (λ i. as_stored (ap (λ s. s.identity) beyond_stored i) moment (body i)) change.listed)

      stored_moved : IsThere to
      unfolding IsThere
      stored_moved node e =
          let before : get tree from ≡ Some node = ap (get tree) (sym (append-nil from)) ∙ sym (at_to []) ∙ ap (get after) (append-nil to) ∙ e in
          let given = change.turned (stored_at tree place from node) (subst (λ a. graph a (stored_at tree place from node)) (sym moved_address) (placed.each from node before)) in
          let parent : change.beyond.address ≡ place' (parent_of to) = at_beyond ∙ sym parent_to in
          let body = ap (λ a. with_parent a (body_at tree place from node.content)) parent ∙ body_turned node.content (λ child c. alike_child child) in
          subst (λ a. graph' a (stored_at after place' to node)) (moved_address ∙ sym alike_top.address) (subst (λ b. graph' change.moved.address (as_stored node.identity node.moment b)) body given)

      stored_under_moved : (rest : Path) → (rest ≡ []) ⊎ ((start : Path) × (last : Name) × (rest ≡ start ++ last ∷ [])) → IsThere (to ++ rest)
      unfolding IsThere
      stored_under_moved rest (inl n) = subst IsThere (sym (ap (λ r. to ++ r) n ∙ append-nil to)) stored_moved
      stored_under_moved rest (inr s) = subst (λ r. IsThere (to ++ r)) (sym s.2) (λ node e.
          subst (λ a. graph' a (stored_at after place' (to ++ (s.0 ++ s.1 ∷ [])) node)) (sym (place_to (s.0 ++ s.1 ∷ [])))
          (subst (graph' (place (from ++ (s.0 ++ s.1 ∷ [])))) (sym (stored_below s.0 s.1 node))
          (kept_beyond (from ++ (s.0 ++ s.1 ∷ [])) node (sym (at_to (s.0 ++ s.1 ∷ [])) ∙ e) (λ x. front_not_from _ (sym x)) (λ x. beyond_not_from _ (sym x))
          (λ x. no_rest from s.0 s.1 x))))

      each_moved : (q : Path) → IsThere q
      unfolding IsThere
      each_moved q = elim (region from to q) [
        | To rest p ↦ subst IsThere (sym p) (stored_under_moved rest (snoc_cases rest))
        | From rest p ↦ λ node e. absurd (not_from q rest (has_some after q node e) p)
        | Elsewhere f t ↦ elim (path_cases q front) [
          | inl p ↦ subst IsThere (sym p.1) (there front _ at_old_parent stored_old_parent)
          | inr p ↦ elim (path_cases q beyond) [
            | inl b ↦ subst IsThere (sym b.1) (there beyond _ at_new_parent stored_beyond)
            | inr b ↦ λ node e. let before = sym (at_other q f t p.1 b.1) ∙ e in
                subst (λ a. graph' a (stored_at after place' q node)) (sym (place_other q t)) (subst (graph' (place q)) (sym (stored_other q node before f p.1))
                (kept_beyond q node before p.1 b.1 (λ s. f [] (s ∙ sym (append-nil from)))))
          ]
        ]
      ]

      pub makes_moved : MakesTree graph' after
      unfolding IsThere IsPlaced
      makes_moved = makes each_moved

      pub reached_moved : (a : ℕ) → IsReached graph' a ↔ IsReached graph a
      unfolding IsThere IsPlaced
      reached_moved = reached each_moved
