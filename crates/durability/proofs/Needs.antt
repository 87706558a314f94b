-- The planned blocks of a request are no more than it may need.
use Rattle.std.proofs.Common.{if◌then◌else◌, ◌≡◌, ◌⊎◌, inl, inr, ℕ, ◌+◌, ◌*◌, ◌-◌, ◌≤◌, ◌<◌, ◌&&◌, cond, Bool, true, false, List, [], ◌∷◌, ◌++◌, length, take, map, filter, replicate, Contains, Some, refl, sym, ◌∙◌, ap, subst, arith, eq-eqb, lt-ltb, length-append}
use Rattle.std.specs.FinMap.{get}
use Rattle.std.proofs.lemmas.Bool.{true≢false, ne_eqb}
use Rattle.std.proofs.lemmas.List.{length-replicate}
use Rattle.model.specs.Tree.{Name, Path, Content, Tree, Has, names_at, names_in, found_names, found_directory, has_names, is_directory_at, parent_of, last_of, paths_eq}
use Rattle.model.specs.Tree.Content.{File, Directory}
use Rattle.model.specs.Operation.{Operation, code_of, is_other, done}
use Rattle.model.specs.Operation.Operation.{Create, Replace, Append, MakeDir, Rename, Remove}
use Rattle.model.specs.Session.{State, Request, after_one}
use Rattle.model.specs.Addresses.{free_address}
use Rattle.model.specs.Graph.{Graph, Stored, Entry, Body, Reach, entries_in, entries_of, content_in, node_of, as_stored, is_directory}
use Rattle.model.specs.Graph.Body.{Bytes, Entries}
use Rattle.model.specs.Change.{Found, new_body, with_entries, with_parent, without, renamed}
use Rattle.model.proofs.Lists.{map-filter, contains_map, not_in_nil, bytes_eq-itself}
use Rattle.model.proofs.Codes.{may_add, may_remove, may_rename, paths_same}
use Rattle.model.proofs.Paths.{ends, parent-push}
use Rattle.model.proofs.ListsAfter.{ListsRenamed, lists_after}
use Rattle.durability.specs.Formats.{Block, Table_, Formats, AreExact, AreBounded, AreDistinct, AreShort}
use Rattle.durability.specs.Volume.{Medium, partition_start, blocks_for, descriptor_blocks, graph_of, RecoversTo}
use Rattle.durability.specs.Commit.{most_inside, file_blocks, most_for_file, most_for_append, most_for_directory, most_for_directory_at, most_for_nodes, most_for_table, table_size, need}
use Rattle.durability.specs.Plan.{zeros, packed, Writing, Written, IsPlaced, PlacesFile, PlacesBody, WritesNodes, IsPlanned, Plans, PlansAddition, PlansRenaming, PlansMove}
use Rattle.durability.specs.Plan.PlacesFile.{nowhere, inside, outside, appended}
use Rattle.durability.proofs.Packed.{length-packed}
use Rattle.durability.proofs.Planned.{zero_or, tree_done, moved_reach, table_length_is}

-- placed data and the zeros before it take at most twice its blocks
placed_short : (formats : Formats) (bytes : List ℕ) (from first : ℕ) (blocks : List Block) → IsPlaced formats bytes from first blocks → length blocks ≤ 2 * blocks_for (length bytes)
placed_short formats bytes from first blocks placed =
    let gap : List Block = replicate (first - from) zeros in
    omega (arith, ap (λ (bs : List Block). length bs) placed.whole, length-append gap (packed bytes), length-replicate (first - from) zeros, placed.start.high, length-packed bytes)

-- bytes after those that stay
pub append_most : (offset : ℕ) (front bytes : List ℕ) → length front ≡ offset → most_for_append offset (length (front ++ bytes) - offset) ≡ most_for_append offset (length bytes)
append_most offset front bytes size = ap (most_for_append offset) (let rest : length (front ++ bytes) - offset ≡ length bytes = omega (arith, size, length-append front bytes) in rest)

same_bound : (a b : ℕ) → a ≡ b → a ≤ b
same_bound a b e = omega arith

paths_eq-itself : (p : Path) → paths_eq p p ≡ true
paths_eq-itself [] = refl
paths_eq-itself (x ∷ p) = ap (λ b. b && paths_eq p p) (bytes_eq-itself x) ∙ paths_eq-itself p

paths_apart : (p q : Path) → (p ≡ q → ⊥) → paths_eq p q ≡ false
paths_apart p q apart = go (paths_eq p q) refl
  where
    go : (b : Bool) → paths_eq p q ≡ b → b ≡ false
    go true e = absurd (apart (paths_same p q e))
    go false e = refl

map_push : (es : List Entry) (e : Entry) → map (λ x. x.name) (es ++ e ∷ []) ≡ map (λ x. x.name) es ++ e.name ∷ []
map_push [] e = refl
map_push (x ∷ es) e = ap (λ (ns : List Name). x.name ∷ ns) (map_push es e)

abbrev names_of_body : Body → List Name
names_of_body body = map (λ e. e.name) (entries_in body)

sum_one : (n c d : ℕ) → n ≡ c + 0 → c ≡ d → n ≡ d
sum_one n c d e f = omega arith

sum_two : (n b c x d : ℕ) → n ≡ b + (c + 0) → b ≡ x → c ≡ d → n ≡ x + d
sum_two n b c x d e f g = omega arith

sum_three : (n a b c x y z : ℕ) → n ≡ a + (b + (c + 0)) → a ≡ x → b ≡ y → c ≡ z → n ≡ x + y + z
sum_three n a b c x y z e f g h = omega arith

sum_pair : (n b c y z : ℕ) → n ≡ b + (c + 0) → b ≡ y → c ≡ z → n ≡ 0 + y + z
sum_pair n b c y z e f g = omega arith

-- what a node under an address lists is what the tree lists at its path
content_names : (body : Body) → names_in (content_in body) ≡ map (λ e. e.name) (entries_in body)
content_names (Bytes bytes) = refl
content_names (Entries parent entries) = refl

module _ (formats : Formats) (spelled : Name → ℕ) (short : AreShort formats spelled) where
  abbrev pub most_for_kept : ℕ → Body → ℕ
  most_for_kept kept (Bytes bytes) = most_for_append kept (length bytes - kept)
  most_for_kept kept (Entries parent entries) = most_for_directory spelled (map (λ e. e.name) entries)

  abbrev pub most_for_body : Body → ℕ
  most_for_body body = most_for_kept 0 body

  abbrev pub most_for_all : List Writing → ℕ
  most_for_all [] = 0
  most_for_all (node ∷ nodes) = most_for_kept node.kept node.stored.body + most_for_all nodes

  -- a file of which nothing stays
  new_most : (kept : ℕ) (bytes : List ℕ) → kept ≡ 0 → most_for_append kept (length bytes - kept) ≡ most_for_file bytes
  new_most kept bytes new = ap (λ (k : ℕ). most_for_append k (length bytes - k)) new ∙ ap (most_for_append 0) (let all : length bytes - 0 ≡ length bytes = omega arith in all)

  file_short : (medium : Medium) (kept : ℕ) (firsts : List ℕ) (bytes : List ℕ) (from : ℕ) (before : List Block) (place : _) → PlacesFile formats medium kept firsts bytes from before place → length before + 1 ≤ most_for_append kept (length bytes - kept)
  file_short medium kept firsts bytes from before place (nowhere new size blocks at) = omega (arith, new_most kept bytes new, ap (λ (bs : List Block). length bs) blocks)
  file_short medium kept firsts bytes from before place (inside new some few blocks at) = omega (arith, new_most kept bytes new, ap (λ (bs : List Block). length bs) blocks)
  file_short medium kept firsts bytes from before place (outside new many first placed at) =
      let count : file_blocks (length bytes) ≡ blocks_for (length bytes) = ap (λ b. cond b (blocks_for (length bytes)) 0) (lt-ltb most_inside (length bytes) many) in
      omega (arith, new_most kept bytes new, count, placed_short formats bytes from first before placed)
  file_short medium kept firsts bytes from before place (appended front more whole is some-front count within holds some few first placed listed starts blocks_are many descriptors leads are names at) =
      let size : length bytes - kept ≡ length more = omega (arith, ap (λ (xs : List ℕ). length xs) whole, length-append front more, is) in
      let all : kept + (length bytes - kept) ≡ length bytes = omega (arith, ap (λ (xs : List ℕ). length xs) whole, length-append front more, is) in
      let other : kept ≡ 0 → ⊥ = λ none. omega (arith, none, some-front) in
      let most : most_for_append kept (length bytes - kept) ≡ 2 * blocks_for (length more) + descriptor_blocks (length bytes) + 1 =
      ap (λ (b : Bool). if b then 2 * file_blocks (length bytes - kept) + 1 else 2 * blocks_for (length bytes - kept) + descriptor_blocks (kept + (length bytes - kept)) + 1) (ne_eqb kept 0 other)
      ∙ ap (λ (n : ℕ). 2 * blocks_for n + descriptor_blocks (kept + (length bytes - kept)) + 1) size
      ∙ ap (λ (n : ℕ). 2 * blocks_for (length more) + descriptor_blocks n + 1) all in
      omega (arith, most, many, ap (λ (bs : List Block). length bs) blocks_are, length-append placed listed, placed_short formats more from first placed starts)

  body_short : (medium : Medium) (kept : ℕ) (firsts : List ℕ) (body : Body) (from : ℕ) (before : List Block) (place : _) (size : ℕ) → PlacesBody formats medium kept firsts body from before place size → length before + 1 ≤ most_for_kept kept body
  body_short medium kept firsts (Bytes bytes) from before place size (count, places) = file_short medium kept firsts bytes from before place places
  body_short medium kept firsts (Entries parent entries) from before place size (at, count, holds) = omega (arith, short parent from size entries before holds)

  nodes_short : (medium : Medium) (nodes : List Writing) (from : ℕ) (blocks : List Block) (written : List Written) → WritesNodes formats medium nodes from blocks written → length blocks ≤ most_for_all nodes
  nodes_short medium [] from blocks written (blocks_are, written_is) = omega (arith, ap (λ (bs : List Block). length bs) blocks_are)
  nodes_short medium (node ∷ nodes) from blocks written (first, others, number, rest, blocks_are, written_is, one, all) =
      omega (
        arith,
        ap (λ (bs : List Block). length bs) blocks_are,
        length-append first others,
        ap (λ (bs : List Block). length bs) one.blocks_are,
        length-append one.before (one.entry ∷ []),
        body_short medium node.kept node.firsts node.stored.body from one.before one.place one.size one.body,
        nodes_short (medium ++ first) nodes (from + length first) others rest all,
      )

  -- a body with names is a directory's
  listing_short : (body : Body) (change : List Entry → List Entry) (x : Name) → Contains (names_of_body body) x → most_for_body (with_entries change body) ≡ most_for_directory spelled (map (λ e. e.name) (change (entries_in body)))
  listing_short (Bytes bytes) change x c = absurd (not_in_nil x c)
  listing_short (Entries parent entries) change x c = refl

  directory_short : (body : Body) (change : List Entry → List Entry) → has_names (content_in body) ≡ true → most_for_body (with_entries change body) ≡ most_for_directory spelled (map (λ e. e.name) (change (entries_in body)))
  directory_short (Bytes bytes) change d = absurd (true≢false (sym d))
  directory_short (Entries parent entries) change d = refl

  parent_short : (body : Body) (above : ℕ) → has_names (content_in body) ≡ true → most_for_body (with_parent above body) ≡ most_for_directory spelled (map (λ e. e.name) (entries_in body))
  parent_short (Bytes bytes) above d = absurd (true≢false (sym d))
  parent_short (Entries parent entries) above d = refl

  module _ (capacity volume : ℕ) (exact : AreExact formats) (bounded : AreBounded formats) (distinct : AreDistinct formats) (B : Medium) (S : State) (stands : RecoversTo formats capacity volume B S) where
    abbrev graph : Graph
    graph = graph_of formats (take stands.at B) stands.tells.table.entries

    stored_node : (path : Path) (address : ℕ) (s : Stored) → Reach graph path address → graph address s → get S.tree path ≡ Some (node_of s)
    stored_node path address s reach is = (stands.tells.makes.reached path (node_of s)).1 (address, reach, s, is, refl)

    names_found : (path : Path) (f : Found graph path) → names_at S.tree path ≡ map (λ e. e.name) (entries_of f.stored)
    names_found path f = ap found_names (stored_node path f.address f.stored f.reach f.is) ∙ content_names f.stored.body

    kind_found : (path : Path) (f : Found graph path) → is_directory_at S.tree path ≡ has_names (content_in f.stored.body)
    kind_found path f = ap found_directory (stored_node path f.address f.stored f.reach f.is)

    -- the directory above a node lists it
    above_lists : (path : Path) (f : Found graph (parent_of path)) → 0 < length path → Has S.tree path → (x : Name) × Contains (names_of_body f.stored.body) x
    above_lists path f named here =
        let end = ends path named in
        let there : Contains (names_at S.tree end.0) end.1 = (stands.tells.tree.children end.0 end.1).0 (subst (Has S.tree) end.2 here) in
        let at : names_at S.tree end.0 ≡ map (λ e. e.name) (entries_of f.stored) = ap (names_at S.tree) (sym (ap parent_of end.2 ∙ parent-push end.0 end.1)) ∙ names_found (parent_of path) f in
        (end.1, subst (λ (ns : List Name). Contains ns end.1) at there)

    module _ (r : Request) where
      abbrev after_tree : Operation → Tree
      after_tree op = done op r.moment S.next_identity S.tree

      abbrev free : ℕ
      free = free_address stands.tells.table.entries

      abbrev most_at : Operation → Path → ℕ
      most_at op path = most_for_directory_at spelled (after_tree op) path

      -- the directory above a new name
      gains_short : (path : Path) (f : Found graph path) (last : List Name) (e : Entry) → last ≡ e.name ∷ [] → is_directory_at S.tree path ≡ true → (names : List Name) → names ≡ names_at S.tree path ++ last
          → most_for_body (with_entries (λ entries. entries ++ e ∷ []) f.stored.body) ≡ most_for_directory spelled names
      gains_short path f last e last_is directory names names_are =
          let same : map (λ x. x.name) (entries_of f.stored ++ e ∷ []) ≡ names =
          map_push (entries_of f.stored) e ∙ (λ i. sym (names_found path f) i ++ sym last_is i) ∙ sym names_are in
          directory_short f.stored.body (λ entries. entries ++ e ∷ []) (sym (kind_found path f) ∙ directory) ∙ ap (λ (ns : List Name). most_for_directory spelled ns) same

      -- the names without those of a path's end
      without_names : (path : Path) (es : List Entry) → map (λ x. x.name) (without path es) ≡ filter (is_other (last_of path)) (map (λ x. x.name) es)
      without_names path es = map-filter (λ x. x.name) (λ x. is_other (last_of path) x.name) (is_other (last_of path)) es (λ x. refl)

      -- the directory above a name that goes away
      loses_short : (path above : Path) (f : Found graph above) (x : Name) → Contains (names_of_body f.stored.body) x → (names : List Name) → names ≡ filter (is_other (last_of path)) (names_at S.tree above)
          → most_for_body (with_entries (without path) f.stored.body) ≡ most_for_directory spelled names
      loses_short path above f x contains names names_are =
          let same : map (λ y. y.name) (without path (entries_of f.stored)) ≡ names =
          without_names path (entries_of f.stored) ∙ ap (filter (is_other (last_of path))) (sym (names_found above f)) ∙ sym names_are in
          listing_short f.stored.body (without path) x contains ∙ ap (λ (ns : List Name). most_for_directory spelled ns) same

      addition_short : (path : Path) (names : List Name) (most : ℕ) (nodes : List Writing) (content : Content) → is_directory_at S.tree (parent_of path) ≡ true → names ≡ names_at S.tree (parent_of path) ++ last_of path
          → (plan : PlansAddition graph free path content r.moment S.next_identity nodes) → most_for_body (new_body plan.above.address content) ≡ most → most_for_all nodes ≡ most + most_for_directory spelled names
      addition_short path names most nodes content directory names_are plan bare =
          sum_two (most_for_all nodes) _ _ most (most_for_directory spelled names) (ap most_for_all plan.nodes_are) bare
          (gains_short (parent_of path) plan.above (last_of path) _ plan.last directory names names_are)

      listed : (es : List Entry) (moved : Entry) → Contains es moved → Contains (map (λ x. x.name) es) moved.name
      listed es moved contains = contains_map (λ x. x.name) es moved contains

      renaming_short : (from to : Path) (nodes : List Writing) → code_of (Rename from to) S.tree ≡ 0 → PlansRenaming graph from to r.moment nodes → most_for_all nodes ≡ most_for_nodes spelled (Rename from to) (after_tree (Rename from to))
      renaming_short from to nodes e plan =
          let lists = lists_after r.moment S.next_identity S.tree stands.tells.tree (Rename from to) e in
          let es = entries_of plan.above.stored in
          let names : map (λ x. x.name) (without from es ++ renamed plan.name plan.moved ∷ []) ≡ names_at (after_tree (Rename from to)) (parent_of to) =
          map_push (without from es) (renamed plan.name plan.moved)
          ∙ (λ i. (without_names from es ∙ ap (filter (is_other (last_of from))) (sym (names_found (parent_of from) plan.above))) i ++ sym plan.to_last i)
          ∙ sym (lists.beside plan.beside) in
          let one : most_for_body (with_entries (λ entries. without from entries ++ renamed plan.name plan.moved ∷ []) plan.above.stored.body) ≡ most_at (Rename from to) (parent_of to) =
          listing_short plan.above.stored.body (λ entries. without from entries ++ renamed plan.name plan.moved ∷ []) plan.moved.name (listed es plan.moved plan.contains)
          ∙ ap (λ (ns : List Name). most_for_directory spelled ns) names in
          let beside : paths_eq (parent_of from) (parent_of to) ≡ true = subst (λ p. paths_eq (parent_of from) p ≡ true) plan.beside (paths_eq-itself (parent_of from)) in
          sum_one (most_for_all nodes) _ (most_at (Rename from to) (parent_of to)) (ap most_for_all plan.nodes_are) one
          ∙ ap (λ b. if b then most_at (Rename from to) (parent_of to)
          else (if is_directory_at (after_tree (Rename from to)) to then most_at (Rename from to) to else 0) + most_at (Rename from to) (parent_of from) + most_at (Rename from to) (parent_of to)) (sym beside)

      module _ (from to : Path) (nodes : List Writing) (e : code_of (Rename from to) S.tree ≡ 0) (plan : PlansMove graph from to r.moment nodes) where
        abbrev tree' : Tree
        tree' = after_tree (Rename from to)

        at_from : get S.tree from ≡ Some (node_of plan.stored)
        at_from = stored_node from plan.moved.address plan.stored (moved_reach formats capacity volume exact distinct B S stands from to r.moment nodes plan (may_rename from to S.tree e)) plan.there

        lists : ListsRenamed from to S.tree tree'
        lists = lists_after r.moment S.next_identity S.tree stands.tells.tree (Rename from to) e

        at_to : get tree' to ≡ Some (node_of plan.stored)
        at_to = lists.moved ∙ at_from

        loser : most_for_body (with_entries (without from) plan.above.stored.body) ≡ most_at (Rename from to) (parent_of from)
        loser = loses_short from (parent_of from) plan.above plan.moved.name (listed (entries_of plan.above.stored) plan.moved plan.contains) (names_at tree' (parent_of from)) (lists.loses plan.elsewhere)

        gainer : most_for_body (with_entries (λ entries. entries ++ renamed plan.name plan.moved ∷ []) plan.beyond.stored.body) ≡ most_at (Rename from to) (parent_of to)
        gainer = gains_short (parent_of to) plan.beyond (last_of to) (renamed plan.name plan.moved) plan.to_last (may_rename from to S.tree e).directory (names_at tree' (parent_of to)) (lists.gets plan.elsewhere)

        abbrev turn : Writing
        turn = record { address = plan.moved.address; kept = 0; firsts = []; stored = as_stored plan.stored.identity plan.stored.moment (with_parent plan.beyond.address plan.stored.body) }

        abbrev both : List Writing
        both =
            record { address = plan.above.address; kept = 0; firsts = []; stored = as_stored plan.above.stored.identity r.moment (with_entries (without from) plan.above.stored.body) }
            ∷ record { address = plan.beyond.address; kept = 0; firsts = []; stored = as_stored plan.beyond.stored.identity r.moment (with_entries (λ entries. entries ++ renamed plan.name plan.moved ∷ []) plan.beyond.stored.body) }
            ∷ []

        abbrev picked : Bool → List Writing
        picked b = (if b then turn ∷ [] else []) ++ both

        apart : paths_eq (parent_of from) (parent_of to) ≡ false
        apart = paths_apart (parent_of from) (parent_of to) plan.elsewhere

        abbrev others : Bool → ℕ
        others b = (if b then most_at (Rename from to) to else 0) + most_at (Rename from to) (parent_of from) + most_at (Rename from to) (parent_of to)

        move_short : most_for_all nodes ≡ most_for_nodes spelled (Rename from to) tree'
        move_short = go (is_directory plan.stored) refl
          where
            moved_names : names_at tree' to ≡ map (λ x. x.name) (entries_of plan.stored)
            moved_names = ap found_names at_to ∙ content_names plan.stored.body

            closing : (b : Bool) → is_directory plan.stored ≡ b → most_for_all nodes ≡ others b → most_for_all nodes ≡ most_for_nodes spelled (Rename from to) tree'
            closing b kind sum =
                sum ∙ ap others (sym (ap found_directory at_to ∙ kind)) ∙ ap (λ c. if c then most_at (Rename from to) (parent_of to) else others (is_directory_at tree' to)) (sym apart)

            go : (b : Bool) → is_directory plan.stored ≡ b → most_for_all nodes ≡ most_for_nodes spelled (Rename from to) tree'
            go true kind = closing true kind
                (sum_three (most_for_all nodes) _ _ _ (most_at (Rename from to) to) (most_at (Rename from to) (parent_of from)) (most_at (Rename from to) (parent_of to))
                (ap most_for_all (plan.nodes_are ∙ ap picked kind))
                (parent_short plan.stored.body plan.beyond.address kind ∙ ap (λ (ns : List Name). most_for_directory spelled ns) (sym moved_names)) loser gainer)
            go false kind = closing false kind
                (sum_pair (most_for_all nodes) _ _ (most_at (Rename from to) (parent_of from)) (most_at (Rename from to) (parent_of to)) (ap most_for_all (plan.nodes_are ∙ ap picked kind)) loser gainer)

      renames_short : (from to : Path) (nodes : List Writing) → code_of (Rename from to) S.tree ≡ 0 → PlansRenaming graph from to r.moment nodes ⊎ PlansMove graph from to r.moment nodes
          → most_for_all nodes ≡ most_for_nodes spelled (Rename from to) (after_tree (Rename from to))
      renames_short from to nodes e (inl plan) = renaming_short from to nodes e plan
      renames_short from to nodes e (inr plan) = move_short from to nodes e plan

      -- the nodes that a plan writes may take as many blocks as the tree after it says
      pub nodes_need : (op : Operation) (nodes : List Writing) (gone : List ℕ) → code_of op S.tree ≡ 0 → Plans graph free op r.moment S.next_identity nodes gone → most_for_all nodes ≡ most_for_nodes spelled op (after_tree op)
      nodes_need (Create path bytes) nodes gone e (plan, none) =
          addition_short path (names_at (after_tree (Create path bytes)) (parent_of path)) (most_for_file bytes) nodes (File bytes) (may_add path S.tree e).directory (lists_after r.moment S.next_identity S.tree stands.tells.tree (Create path bytes) e) plan (new_most 0 bytes refl)
      nodes_need (MakeDir path) nodes gone e (plan, none) =
          addition_short path (names_at (after_tree (MakeDir path)) (parent_of path)) (most_for_directory spelled []) nodes (Directory []) (may_add path S.tree e).directory (lists_after r.moment S.next_identity S.tree stands.tells.tree (MakeDir path) e) plan refl
      nodes_need (Replace path bytes) nodes gone e (plan, none) = sum_one (most_for_all nodes) _ (most_for_file bytes) (ap most_for_all plan.nodes_are) (new_most 0 bytes refl)
      nodes_need (Append path offset bytes) nodes gone e (plan, none) =
          sum_one (most_for_all nodes) _ (most_for_append offset (length bytes)) (ap most_for_all plan.nodes_are) (append_most offset plan.front bytes plan.size)
      nodes_need (Rename from to) nodes gone e (plan, none) = renames_short from to nodes e plan
      nodes_need (Remove path) nodes gone e plan =
          let may = may_remove path S.tree e in
          let lists = above_lists path plan.above may.named may.here in
          sum_one (most_for_all nodes) _ (most_at (Remove path) (parent_of path)) (ap most_for_all plan.nodes_are)
          (loses_short path (parent_of path) plan.above lists.0 lists.1 (names_at (after_tree (Remove path)) (parent_of path)) (lists_after r.moment S.next_identity S.tree stands.tells.tree (Remove path) e))

      module _ (blocks : List Block) (mark : Block) (p : IsPlanned formats capacity volume B S stands r blocks mark) where
        abbrev start : ℕ
        start = length B - partition_start

        table_short : length p.table_blocks ≤ 2 * blocks_for (table_size (length (after_one S r).records) (after_one S r).table_length)
        table_short =
            let records : length p.table.records ≡ length (after_one S r).records = ap (λ (t : Table_). length t.records) p.table_is in
            let entries = table_length_is formats capacity volume exact distinct B S stands bounded r blocks mark p in
            let size : length p.bytes ≡ table_size (length (after_one S r).records) (after_one S r).table_length = p.size ∙ (λ i. table_size (records i) (entries i)) in
            subst (λ n. length p.table_blocks ≤ 2 * blocks_for n) size (placed_short formats p.bytes (start + length p.node_blocks) p.first p.table_blocks p.placed)

        whole_short : (most : ℕ) → most_for_all p.nodes ≤ most → length (blocks ++ mark ∷ []) ≤ most + most_for_table (after_one S r)
        whole_short most few =
            omega (arith, few, table_short, nodes_short B p.nodes start p.node_blocks p.written p.writes, length-append blocks (mark ∷ []), ap (λ (bs : List Block). length bs) p.blocks_are, length-append p.node_blocks p.table_blocks)

        abbrev most_if : Bool → ℕ
        most_if b = (if b then most_for_nodes spelled r.operation (after_one S r).tree else 0) + most_for_table (after_one S r)

        -- the planned blocks of a request are no more than it may need
        pub planned_short : length (blocks ++ mark ∷ []) ≤ need spelled S r
        planned_short = go (zero_or (code_of r.operation S.tree))
          where
            go : (code_of r.operation S.tree ≡ 0) ⊎ (code_of r.operation S.tree ≡ 0 → ⊥) → length (blocks ++ mark ∷ []) ≤ need spelled S r
            go (inl e) =
                let tree : after_tree r.operation ≡ (after_one S r).tree = sym (tree_done r.operation r.moment S.next_identity S.tree e) in
                let most : most_for_all p.nodes ≡ most_for_nodes spelled r.operation (after_one S r).tree = nodes_need r.operation p.nodes p.gone e (p.done e) ∙ ap (λ (t : Tree). most_for_nodes spelled r.operation t) tree in
                let chosen : need spelled S r ≡ most_if true = ap most_if (eq-eqb (code_of r.operation S.tree) 0 e) in
                subst (λ n. length (blocks ++ mark ∷ []) ≤ n) (sym chosen) (whole_short _ (same_bound _ _ most))
            go (inr other) =
                let none : most_for_all p.nodes ≡ 0 = ap most_for_all (p.refused other).0 in
                let chosen : need spelled S r ≡ most_if false = ap most_if (ne_eqb (code_of r.operation S.tree) 0 other) in
                subst (λ n. length (blocks ++ mark ∷ []) ≤ n) (sym chosen) (whole_short 0 (same_bound _ _ none))
