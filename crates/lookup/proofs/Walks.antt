-- A walk from the root: what each directory says of a name, and what that says of the tree.
use Rattle.std.proofs.Common.{◌≡◌, ℕ, ◌+◌, ◌<◌, inl, inr, true, false, List, [], ◌∷◌, ◌++◌, length, map, take, drop, get_or, Contains, Option, Some, None, refl, sym, ap, subst, ◌∙◌}
use Rattle.std.specs.Prelude.{nat_eq, IsSome, IfSome}
use Rattle.std.specs.Map.{lookup}
use Rattle.std.specs.FinMap.{get}
use Rattle.std.specs.Cmp.Lexicographic.{pointwise, same_text}
use Rattle.std.proofs.lemmas.Cmp.{nat_list_eq_equiv}
use Rattle.std.proofs.lemmas.Bool.{false≢true}
use Rattle.std.proofs.lemmas.List.{take_more, take-append-drop}
use Rattle.std.proofs.lemmas.Map.Views.{Contains-from_lookup, IsSome-lookup_from_Contains}
use Rattle.drive.specs.Journal.{Event, held}
use Rattle.recover.specs.Faults.{IsShortage}
use Rattle.recover.specs.Nodes.{IsDirectoryRefused, data_of}
use Rattle.recover.specs.declared.fault.StoreFault.{StoreFault}
use Rattle.recover.specs.declared.fault.StoreFault.TheVariants as fault
use Rattle.recover.proofs.Trees.{leads_push}
use Rattle.dir.specs.declared.entry.Entry.{Entry as DirEntry}
use Rattle.dir.specs.declared.entry.Kind.TheVariants as kinds
use Rattle.model.specs.Tree.{Name, Path, Tree, IsTree, Has, has_names, names_in, names_at, found_directory, found_names, found_identity, is_directory_at, identity_at}
use Rattle.model.specs.Graph.{Graph, Stored, Body, Entry, MakesTree, IsFunctional, entries_in, entries_of, content_in, content_of, node_of}
use Rattle.model.specs.Graph.Body.{Bytes, Entries}
use Rattle.model.proofs.Lists.{contains_map, not_in_nil}
use Rattle.model.proofs.Maps.{none_at, not_none, some_at, has_front}
use Rattle.model.proofs.Made.{has_stored, has_root}
use Rattle.durability.proofs.Stored.{stored_one}
use Rattle.udf.specs.Udf.{udf}
use Rattle.udf.specs.Words as said
use Rattle.udf.specs.Said.{said_entry, said_entries, names_directory}
use Rattle.udf.proofs.Formats.{exact}
use Rattle.udf.proofs.Said.{directories_agree}
use Rattle.lookup.specs.declared.content.Content.{Content}
use Rattle.lookup.specs.declared.nodes.Placed.{Placed}
use Rattle.recover.specs.declared.node.Node.{Node}
use Rattle.lookup.specs.Cache.{LiesThere}
use Rattle.lookup.specs.Shows.{graph_below, LiesIn, MatchesStored, IsNodeAt, IsFound, IsFoundDirectory}

-- ---- one directory

-- what was read where a directory's data lie is that directory
pub opened : (J : List Event) (placed : Placed) (s : Stored) (content : Content) → LiesIn J placed s → LiesThere J placed content → MatchesStored s placed content
opened J placed s content lies there =
    let blocks = data_of (held J) placed.extent in
    let holds = (directories_agree content.dir.parent placed.extent.first placed.extent.size content.dir.entries.entries blocks lies.is.blocks_are lies.is.low).0 there.is in
    let e = exact.directory placed.extent.first placed.extent.size blocks lies.parent content.dir.parent lies.entries (said_entries content.dir.entries.entries) lies.is holds in
    record { body = lies.body ∙ (λ i. Entries (e.0 i) (e.1 i)); moment = lies.moment }

-- and it is never refused
pub not_refused : (J : List Event) (placed : Placed) (s : Stored) (why : StoreFault) → LiesIn J placed s → IsDirectoryRefused placed.extent (data_of (held J) placed.extent) why → IsShortage why
not_refused J placed s fault.Device lies refused = inl refl
not_refused J placed s fault.Memory lies refused = inr refl
not_refused J placed s (fault.Damaged block cause) lies refused = absurd (refused.1 lies.parent (said.directory_entries lies.entries) lies.is.is)
not_refused J placed s fault.NotBlank lies refused = absurd refused
not_refused J placed s fault.Label lies refused = absurd refused
not_refused J placed s fault.Small lies refused = absurd refused
not_refused J placed s fault.NotFormatted lies refused = absurd refused
not_refused J placed s fault.Full lies refused = absurd refused
not_refused J placed s fault.Stopped lies refused = absurd refused
not_refused J placed s fault.NoCommit lies refused = absurd refused
not_refused J placed s fault.NotFound lies refused = absurd refused
not_refused J placed s fault.IsDirectory lies refused = absurd refused
not_refused J placed s fault.NotDirectory lies refused = absurd refused
not_refused J placed s fault.TooLong lies refused = absurd refused

pub texts_exact : (x y : List ℕ) → pointwise nat_eq x y ≡ true → x ≡ y
texts_exact x y e = same_text x y (sym e)

-- the names of a directory
no_names : (b : Body) → has_names (content_in b) ≡ false → names_in (content_in b) ≡ []
no_names (Bytes bytes) e = refl
no_names (Entries parent entries) e = cc

not_in_none : (name : List ℕ) (es : List (List ℕ × DirEntry)) → lookup (pointwise nat_eq name) es ≡ None → Contains (map (λ (e : List ℕ × DirEntry). e.0) es) name → ⊥
not_in_none name es e c = absurd (false≢true (subst (λ (o : Option DirEntry). IsSome o) e (IsSome-lookup_from_Contains nat_list_eq_equiv name es c)))

pub said_names : (es : List (List ℕ × DirEntry)) → map (λ (e : Entry). e.name) (said_entries es) ≡ map (λ (e : List ℕ × DirEntry). e.0) es
said_names [] = refl
said_names (e ∷ es) = ap (λ (names : List Name). e.0 ∷ names) (said_names es)

-- ---- steps of the walk

module _ (graph : Graph) (tree : Tree) (one : IsFunctional graph) (is : IsTree tree) (makes : MakesTree graph tree) where
  -- the tree's node where something is stored
  pub node_at : (path : Path) (node : Node) (at : IsNodeAt graph path node) → get tree path ≡ Some (node_of at.found.stored)
  node_at path node at = has_stored graph tree one is makes path at.found.address at.found.stored at.found.reach at.found.is

  pub names_stored : (path : Path) (node : Node) (at : IsNodeAt graph path node) → names_at tree path ≡ names_in (content_of at.found.stored)
  names_stored path node at = ap found_names (node_at path node at)

  pub directory_stored : (path : Path) (node : Node) (at : IsNodeAt graph path node) → is_directory_at tree path ≡ names_directory node.kind
  directory_stored path node at = ap found_directory (node_at path node at) ∙ sym at.kind

  -- the walk begins at the root
  pub at_root : identity_at tree [] ≡ 0 → IsNodeAt graph [] (record { kind = kinds.Directory; address = 1; unique = 0 })
  at_root zero_id =
      let some = some_at tree [] (has_root graph tree one is makes) in
      let there = (makes.reached [] some.0).0 some.1 in
      let node = some.1 ∙ ap Some there.4 in
      record {
        found = record { address = there.0; stored = there.2; reach = there.1; is = there.3 };
        address = there.1;
        kind = sym is.root ∙ ap found_directory node;
        identity = sym zero_id ∙ ap found_identity node;
      }

  -- a name in the directory
  pub step_some : (path : Path) (node : Node) (at : IsNodeAt graph path node) (placed : Placed) (content : Content) → MatchesStored at.found.stored placed content → (name : Name) (e : DirEntry)
      → lookup (pointwise nat_eq name) content.dir.entries.entries ≡ Some e → IsNodeAt graph (path ++ name ∷ []) (record { kind = e.kind; address = e.virtual_address; unique = e.unique })
  step_some path node at placed content shown name e found =
      let es = content.dir.entries.entries in
      let listed : Contains es (name, e) = Contains-from_lookup texts_exact name e es found in
      let there : Contains (entries_of at.found.stored) (said_entry (name, e)) = subst (λ (b : Body). Contains (entries_in b) (said_entry (name, e))) (sym shown.body) (contains_map said_entry es (name, e) listed) in
      let a = makes.agree path at.found.address at.found.stored (said_entry (name, e)) at.found.reach at.found.is there in
      record {
        found = record {
          address = e.virtual_address;
          stored = a.0;
          reach = leads_push graph path 1 at.found.address name e.virtual_address at.found.reach (at.found.stored, at.found.is, said_entry (name, e), there, refl, refl);
          is = a.1;
        };
        address = refl;
        kind = a.2;
        identity = a.3;
      }

  -- a name that is not in it
  pub step_none : (path : Path) (node : Node) (at : IsNodeAt graph path node) (placed : Placed) (content : Content) → MatchesStored at.found.stored placed content → (name : Name)
      → lookup (pointwise nat_eq name) content.dir.entries.entries ≡ None → get tree (path ++ name ∷ []) ≡ None
  step_none path node at placed content shown name none =
      let es = content.dir.entries.entries in
      let names : names_at tree path ≡ map (λ (e : List ℕ × DirEntry). e.0) es = names_stored path node at ∙ (ap (λ (b : Body). names_in (content_in b)) shown.body ∙ said_names es) in
      none_at tree (path ++ name ∷ []) (λ has. not_in_none name es none (subst (λ (ns : List Name). Contains ns name) names ((is.children path name).0 has)))

  -- a file has no names
  pub step_file : (path : Path) (node : Node) (at : IsNodeAt graph path node) → names_directory node.kind ≡ false → (name : Name) → get tree (path ++ name ∷ []) ≡ None
  step_file path node at file name =
      let names : names_at tree path ≡ [] = names_stored path node at ∙ no_names at.found.stored.body (sym at.kind ∙ file) in
      none_at tree (path ++ name ∷ []) (λ has. not_in_nil name (subst (λ (ns : List Name). Contains ns name) names ((is.children path name).0 has)))

  -- nothing is below
  pub rest_none : (names : Path) (i : ℕ) (name : Name) → i < length names → name ≡ get_or names i name → get tree (take i names ++ name ∷ []) ≡ None → get tree names ≡ None
  rest_none names i name lt same none =
      let front : take (i + 1) names ≡ take i names ++ name ∷ [] = take_more names i name lt ∙ ap (λ (n : Name). take i names ++ n ∷ []) (sym same) in
      let whole : (take i names ++ name ∷ []) ++ drop (i + 1) names ≡ names = ap (λ (p : Path). p ++ drop (i + 1) names) (sym front) ∙ take-append-drop (i + 1) names in
      none_at tree names (λ has. not_none tree (take i names ++ name ∷ []) none (has_front tree is (take i names ++ name ∷ []) (drop (i + 1) names) (subst (λ (p : Path). Has tree p) (sym whole) has)))

-- ---- on a journal

module _ (at : ℕ) (entries : List (Option ℕ)) (J : List Event) (tree : Tree) (is : IsTree tree) (makes : MakesTree (graph_below at entries J) tree) where
  one : IsFunctional (graph_below at entries J)
  one = stored_one udf exact (take at (held J)) entries

  -- a step by a name
  pub next_none : (names : Path) (i : ℕ) (name : Name) → i < length names → name ≡ get_or names i name → get tree (take i names ++ name ∷ []) ≡ None → get tree names ≡ None
  next_none names i name lt same_name none = rest_none (graph_below at entries J) tree one is makes names i name lt same_name none

  pub next_some : (names : Path) (i : ℕ) (name : Name) (node : Node) → i < length names → name ≡ get_or names i name → IsNodeAt (graph_below at entries J) (take i names ++ name ∷ []) node → IsNodeAt (graph_below at entries J) (take (i + 1) names) node
  next_some names i name node lt same_name there =
      let front : take (i + 1) names ≡ take i names ++ name ∷ [] = take_more names i name lt ∙ ap (λ (n : Name). take i names ++ n ∷ []) (sym same_name) in
      subst (λ (p : Path). IsNodeAt (graph_below at entries J) p node) (sym front) there

  -- what a directory has under a name
  pub child_some : (path : Path) (node : Node) (here : IsNodeAt (graph_below at entries J) path node) (placed : Placed) (content : Content) → MatchesStored here.found.stored placed content → (name : Name) (e : DirEntry)
      → lookup (pointwise nat_eq name) content.dir.entries.entries ≡ Some e → IsNodeAt (graph_below at entries J) (path ++ name ∷ []) (record { kind = e.kind; address = e.virtual_address; unique = e.unique })
  child_some path node here placed content shown name e found = step_some (graph_below at entries J) tree one is makes path node here placed content shown name e found

  pub child_none : (path : Path) (node : Node) (here : IsNodeAt (graph_below at entries J) path node) (placed : Placed) (content : Content) → MatchesStored here.found.stored placed content → (name : Name)
      → lookup (pointwise nat_eq name) content.dir.entries.entries ≡ None → get tree (path ++ name ∷ []) ≡ None
  child_none path node here placed content shown name none = step_none (graph_below at entries J) tree one is makes path node here placed content shown name none

  pub file_at : (names : Path) (i : ℕ) (name : Name) (node : Node) → i < length names → name ≡ get_or names i name → IsNodeAt (graph_below at entries J) (take i names) node → names_directory node.kind ≡ false → get tree names ≡ None
  file_at names i name node lt same_name here file =
      rest_none (graph_below at entries J) tree one is makes names i name lt same_name (step_file (graph_below at entries J) tree one is makes (take i names) node here file name)

  pub root_at : (names : Path) → identity_at tree [] ≡ 0 → IsNodeAt (graph_below at entries J) (take 0 names) (record { kind = kinds.Directory; address = 1; unique = 0 })
  root_at names zero_id = at_root (graph_below at entries J) tree one is makes zero_id

  -- the directory at a path, or that there is none
  pub directory_at : (path : Path) (o : Option Node) → IsFound (graph_below at entries J) tree path o → IfSome o (λ node. names_directory node.kind ≡ true → IsFoundDirectory (graph_below at entries J) tree path (Some node))
  directory_at path None found = tt
  directory_at path (Some node) found = λ dir. (found, dir)

  pub no_directory : (path : Path) (o : Option Node) → IsFound (graph_below at entries J) tree path o → IfSome o (λ node. names_directory node.kind ≡ false) → is_directory_at tree path ≡ false
  no_directory path None found file = ap found_directory found
  no_directory path (Some node) found file = directory_stored (graph_below at entries J) tree one is makes path node found ∙ file
