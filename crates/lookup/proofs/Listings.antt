-- What a path's node says in answer to a listing and to a question of its status.
use Rattle.std.proofs.Common.{◌≡◌, ℕ, ◌+◌, true, false, List, [], ◌∷◌, ◌++◌, length, map, take, Contains, Option, Some, None, slice_get, refl, sym, ap, subst, ◌∙◌}
use Rattle.std.proofs.lemmas.Bool.{true≢false}
use Rattle.std.proofs.lemmas.List.{length-map, map-append, take_more}
use Rattle.std.proofs.lemmas.Option.{slice_get_within, get_or_from_slice_get}
use Rattle.std.specs.FinMap.{get}
use Rattle.drive.specs.Journal.{Event, held}
use Rattle.dir.specs.declared.entry.Entry.{Entry as DirEntry}
use Rattle.request.specs.declared.answer.Listed.{Listed}
use Rattle.model.specs.Tree.{Name, Path, Tree, IsTree, has_names, found_directory, is_directory_at}
use Rattle.model.specs.Graph.{Graph, Body, Entry, MakesTree, IsFunctional, entries_in, entries_of, content_in}
use Rattle.model.specs.Graph.Body.{Bytes, Entries}
use Rattle.model.proofs.Lists.{contains_here, contains_there, contains_map}
use Rattle.model.proofs.Made.{has_stored}
use Rattle.durability.specs.Runs.{listed, answer_to_stat, told}
use Rattle.durability.specs.Runs.Answer.{Names, NodeIs, NotFound, NotDirectory}
use Rattle.durability.specs.Runs.Query.{List_, Stat}
use Rattle.durability.proofs.Stored.{stored_one}
use Rattle.udf.specs.Udf.{udf}
use Rattle.udf.specs.Said.{said_entry, said_entries, names_directory}
use Rattle.udf.proofs.Formats.{exact}
use Rattle.recover.specs.declared.node.Node.{Node}
use Rattle.lookup.specs.Asked.{is_directory, said_listed, said_names}
use Rattle.lookup.specs.Queries.{name_told}
use Rattle.lookup.specs.Shows.{graph_below, IsNodeAt}
use Rattle.lookup.proofs.Walks.{node_at}
use Rattle.recover.proofs.Trees.{leads_push}

-- ---- the listing that is written

pub names_next : (es : List (List ℕ × DirEntry)) (i : ℕ) (old new : List Listed) (l : Listed) (e : List ℕ × DirEntry) → said_names old ≡ map name_told (take i es) → slice_get es i ≡ Some e → new ≡ old ++ l ∷ []
    → is_directory l.kind ≡ names_directory e.1.kind → l.name ≡ e.0 → said_names new ≡ map name_told (take (i + 1) es)
names_next es i old new l e front here pushed kind name =
    let one : (is_directory l.kind, l.name) ∷ [] ≡ name_told e ∷ [] = λ k. (kind k, name k) ∷ [] in
    let next : take (i + 1) es ≡ take i es ++ e ∷ [] = take_more es i e (slice_get_within es i e here) ∙ ap (λ (x : List ℕ × DirEntry). take i es ++ x ∷ []) (get_or_from_slice_get es i e e here) in
    ap said_names pushed
    ∙ (map-append said_listed old (l ∷ [])
    ∙ ((λ k. front k ++ one k)
    ∙ (sym (map-append name_told (take i es) (e ∷ [])) ∙ ap (λ (xs : List (List ℕ × DirEntry)). map name_told xs) (sym next))))

-- ---- what the tree says

pub listed_none : (tree : Tree) (path : Path) → get tree path ≡ None → told tree (List_ path) ≡ NotFound
listed_none tree path none = ap (listed tree path) none

pub shown_none : (tree : Tree) (path : Path) → get tree path ≡ None → told tree (Stat path) ≡ NotFound
shown_none tree path none = ap answer_to_stat none

file_listed : (tree : Tree) (path : Path) (identity moment : ℕ) (b : Body) → has_names (content_in b) ≡ false → listed tree path (Some (record { identity = identity; moment = moment; content = content_in b })) ≡ NotDirectory
file_listed tree path identity moment (Bytes bytes) e = refl
file_listed tree path identity moment (Entries parent entries) e = absurd (true≢false e)

names_same : (tree : Tree) (path : Path) (es : List (List ℕ × DirEntry)) → ((e : List ℕ × DirEntry) → Contains es e → is_directory_at tree (path ++ e.0 ∷ []) ≡ names_directory e.1.kind)
    → map (λ (name : Name). (is_directory_at tree (path ++ name ∷ []), name)) (map (λ (e : Entry). e.name) (said_entries es)) ≡ map name_told es
names_same tree path [] h = refl
names_same tree path (e ∷ es) h =
    let first = h e (contains_here e es) in
    let rest = names_same tree path es (λ x c. h x (contains_there e es x c)) in
    λ k. (first k, e.0) ∷ rest k

module _ (at : ℕ) (entries : List (Option ℕ)) (J : List Event) (tree : Tree) (is : IsTree tree) (makes : MakesTree (graph_below at entries J) tree) where
  graph : Graph
  graph = graph_below at entries J

  one : IsFunctional (graph_below at entries J)
  one = stored_one udf exact (take at (held J)) entries

  pub listed_file : (path : Path) (node : Node) → IsNodeAt (graph_below at entries J) path node → names_directory node.kind ≡ false → told tree (List_ path) ≡ NotDirectory
  listed_file path node here file =
      ap (listed tree path) (node_at (graph_below at entries J) tree one is makes path node here)
      ∙ file_listed tree path here.found.stored.identity here.found.stored.moment here.found.stored.body (sym here.kind ∙ file)

  -- what a name in the directory leads to
  named : (path : Path) (node : Node) (here : IsNodeAt (graph_below at entries J) path node) (parent : ℕ) (es : List (List ℕ × DirEntry)) → here.found.stored.body ≡ Entries parent (said_entries es)
      → (e : List ℕ × DirEntry) → Contains es e → is_directory_at tree (path ++ e.0 ∷ []) ≡ names_directory e.1.kind
  named path node here parent es body e c =
      let there : Contains (entries_of here.found.stored) (said_entry e) = subst (λ (b : Body). Contains (entries_in b) (said_entry e)) (sym body) (contains_map said_entry es e c) in
      let a = makes.agree path here.found.address here.found.stored (said_entry e) here.found.reach here.found.is there in
      let reach = leads_push (graph_below at entries J) path 1 here.found.address e.0 e.1.virtual_address here.found.reach (here.found.stored, here.found.is, said_entry e, there, refl, refl) in
      ap found_directory (has_stored (graph_below at entries J) tree one is makes (path ++ e.0 ∷ []) e.1.virtual_address a.0 reach a.1) ∙ sym a.2

  pub listed_directory : (path : Path) (node : Node) (here : IsNodeAt (graph_below at entries J) path node) (parent : ℕ) (es : List (List ℕ × DirEntry)) → here.found.stored.body ≡ Entries parent (said_entries es)
      → told tree (List_ path) ≡ Names (map name_told es)
  listed_directory path node here parent es body =
      ap (listed tree path) (node_at (graph_below at entries J) tree one is makes path node here)
      ∙ (ap (λ (b : Body). listed tree path (Some (record { identity = here.found.stored.identity; moment = here.found.stored.moment; content = content_in b }))) body
      ∙ ap Names (names_same tree path es (named path node here parent es body)))

  pub shown_directory : (path : Path) (node : Node) (here : IsNodeAt (graph_below at entries J) path node) (moment size : ℕ) → names_directory node.kind ≡ true
      → moment ≡ here.found.stored.moment → size ≡ length (entries_of here.found.stored) → told tree (Stat path) ≡ NodeIs true moment size
  shown_directory path node here moment size dir same count =
      ap answer_to_stat (node_at (graph_below at entries J) tree one is makes path node here)
      ∙ (by here.found.stored.body (sym here.kind ∙ dir) ∙ (λ k. NodeIs true (sym same k) (sym count k)))
    where
      by : (b : Body) → has_names (content_in b) ≡ true → answer_to_stat (Some (record { identity = here.found.stored.identity; moment = here.found.stored.moment; content = content_in b })) ≡ NodeIs true here.found.stored.moment (length (entries_in b))
      by (Bytes bytes) e = absurd (true≢false (sym e))
      by (Entries parent entries) e = ap (λ (n : ℕ). NodeIs true here.found.stored.moment n) (length-map entries (λ (x : Entry). x.name))

  pub shown_file : (path : Path) (node : Node) (here : IsNodeAt (graph_below at entries J) path node) (moment size : ℕ) → names_directory node.kind ≡ false
      → moment ≡ here.found.stored.moment → ((bytes : List ℕ) → here.found.stored.body ≡ Bytes bytes → size ≡ length bytes) → told tree (Stat path) ≡ NodeIs false moment size
  shown_file path node here moment size file same count =
      ap answer_to_stat (node_at (graph_below at entries J) tree one is makes path node here)
      ∙ (by here.found.stored.body (sym here.kind ∙ file) count ∙ ap (λ (m : ℕ). NodeIs false m size) (sym same))
    where
      by : (b : Body) → has_names (content_in b) ≡ false → ((bytes : List ℕ) → b ≡ Bytes bytes → size ≡ length bytes)
          → answer_to_stat (Some (record { identity = here.found.stored.identity; moment = here.found.stored.moment; content = content_in b })) ≡ NodeIs false here.found.stored.moment size
      by (Bytes bytes) e h = ap (λ (n : ℕ). NodeIs false here.found.stored.moment n) (sym (h bytes refl))
      by (Entries parent entries) e h = absurd (true≢false e)
