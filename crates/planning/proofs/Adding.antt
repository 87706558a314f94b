-- What putting a file or a directory at a new path does.
use Rattle.std.proofs.Common.{◌≡◌, ◌<◌, ◌≤◌, ℕ, ◌==◌, if◌then◌else◌, not, Bool, true, false, List, [], ◌∷◌, ◌++◌, length, map, Option, Some, None, is_some, append_assoc, refl, sym, ap, subst, ◌∙◌, arith}
use Rattle.std.specs.Prelude.{IfSome, nat_eq, nat_lt}
use Rattle.std.specs.Map.{lookup}
use Rattle.std.specs.FinMap.{contains_key, len}
use Rattle.std.specs.Cmp.Lexicographic.{pointwise}
use Rattle.std.proofs.lemmas.Bool.{ne_eqb, lt-ltb, le-ltb}
use Rattle.std.proofs.lemmas.List.{length-map, length_push, map-append}
use Rattle.indexmap.specs.IndexMap.{insert_entry}
use Rattle.indexmap.proofs.CallerLemmas.{insert_entry-new}
use Rattle.model.specs.Tree.{Name, Path, Tree, IsTree, is_directory_at, names_at, names_in, has_names, parent_of, last_of}
use Rattle.model.specs.Graph.{Graph, Body, Entry, MakesTree, IsFunctional, Reach, as_stored, content_in}
use Rattle.model.specs.Graph.Body.{Entries}
use Rattle.model.specs.Change.{with_entries, new_body}
use Rattle.model.specs.Operation.{code_of}
use Rattle.model.proofs.Paths.{parent-push, last-push}
use Rattle.durability.specs.Volume.{Medium}
use Rattle.durability.specs.Plan.{Writing, Plans, PlansAddition}
use Rattle.request.specs.Numbers.{code_number}
use Rattle.request.specs.declared.answer.Code.TheVariants as code
use Rattle.dir.specs.declared.entry.Entry.{Entry as DirEntry}
use Rattle.udf.specs.Said.{said_entry, said_entries, names_directory}
use Rattle.planning.specs.declared.change.Change.{Change}
use Rattle.planning.specs.declared.change.NewDirectory.{NewDirectory}
use Rattle.planning.specs.declared.file.NewFile.{NewFile}
use Rattle.planning.specs.declared.change.NewContent.{NewContent}
use Rattle.planning.specs.declared.change.NewContent.TheVariants as thing
use Rattle.lookup.specs.declared.content.Content.{Content}
use Rattle.recover.specs.declared.node.Node.{Node}
use Rattle.lookup.specs.declared.nodes.Placed.{Placed}
use Rattle.lookup.specs.Shows.{IsNodeAt, MatchesStored}
use Rattle.planning.specs.Writings.{AreKeptOn, directory_writing, new_file, change_writings}
use Rattle.table_update.specs.NextTable.{made_by, RemovesNode}
use Rattle.planning.specs.Changes.{addition, content_of_thing, code_by_names, addresses_in, gone_of, IsChangeOf}
use Rattle.lookup.proofs.Walks.{node_at, names_stored, directory_stored, said_names, step_some, step_none}

-- ---- the code

abbrev add_code : Bool → Bool → Bool → ℕ → ℕ
add_code empty long above rest = if empty then 7 else (if long then 8 else (if not above then 1 else rest))

rest_code : Path → Tree → ℕ
rest_code path tree = code_by_names (contains_key tree path) (length (names_at tree (parent_of path))) (len tree)

addition_code : (path : Path) (what : NewContent) (tree : Tree) → code_of (addition path what) tree ≡ add_code (length path == 0) (nat_lt 16 (length path)) (is_directory_at tree (parent_of path)) (rest_code path tree)
unfolding rest_code
addition_code path (thing.File bytes) tree = refl
addition_code path thing.Directory tree = refl

-- the root is there already
pub add_root : (path : Path) (what : NewContent) (tree : Tree) → length path ≡ 0 → code_of (addition path what) tree ≡ 7
add_root path what tree none = addition_code path what tree ∙ ap (λ (n : ℕ). add_code (n == 0) (nat_lt 16 (length path)) (is_directory_at tree (parent_of path)) (rest_code path tree)) none

pub not_empty : (path above : Path) (name : Name) → path ≡ above ++ name ∷ [] → (length path == 0) ≡ false
not_empty path above name e =
    let long : length path ≡ length (above ++ name ∷ []) = ap length e in
    ne_eqb (length path) 0 (λ none. absurd (omega (arith, none, long, length_push above name)))

module _ (path above : Path) (name : Name) (split : path ≡ above ++ name ∷ []) (what : NewContent) (tree : Tree) where
  pub above_is : parent_of path ≡ above
  above_is = ap parent_of split ∙ parent-push above name

  pub last_is : last_of path ≡ name ∷ []
  last_is = ap last_of split ∙ last-push above name

  some_code : code_of (addition path what) tree ≡ add_code false (nat_lt 16 (length path)) (is_directory_at tree above) (rest_code path tree)
  some_code =
      addition_code path what tree
      ∙ (ap (λ (b : Bool). add_code b (nat_lt 16 (length path)) (is_directory_at tree (parent_of path)) (rest_code path tree)) (not_empty path above name split)
      ∙ ap (λ (p : Path). add_code false (nat_lt 16 (length path)) (is_directory_at tree p) (rest_code path tree)) above_is)

  pub add_deep : 16 < length path → code_of (addition path what) tree ≡ 8
  add_deep long = some_code ∙ ap (λ (b : Bool). add_code false b (is_directory_at tree above) (rest_code path tree)) (lt-ltb 16 (length path) long)

  pub add_nowhere : length path ≤ 16 → is_directory_at tree above ≡ false → code_of (addition path what) tree ≡ 1
  add_nowhere short none =
      some_code
      ∙ (ap (λ (b : Bool). add_code false b (is_directory_at tree above) (rest_code path tree)) (le-ltb 16 (length path) short)
      ∙ ap (λ (b : Bool). add_code false false b (rest_code path tree)) none)

  module _ (graph : Graph) (one : IsFunctional graph) (is : IsTree tree) (makes : MakesTree graph tree) (parent : Node) (here : IsNodeAt graph above parent) (directory : names_directory parent.kind ≡ true)
      (placed : Placed) (content : Content) (shown : MatchesStored here.found.stored placed content) where
    there : (o : Option DirEntry) → lookup (pointwise nat_eq name) content.dir.entries.entries ≡ o → contains_key tree (above ++ name ∷ []) ≡ is_some o
    there None e = ap is_some (step_none graph tree one is makes above parent here placed content shown name e)
    there (Some entry) e =
        let next = step_some graph tree one is makes above parent here placed content shown name entry e in
        ap is_some (node_at graph tree one is makes (above ++ name ∷ []) (record { kind = entry.kind; address = entry.virtual_address; unique = entry.unique }) next)

    pub count_above : length (names_at tree above) ≡ length content.dir.entries.entries
    count_above =
        let es = content.dir.entries.entries in
        ap length (names_stored graph tree one is makes above parent here ∙ (ap (λ (b : Body). names_in (content_in b)) shown.body ∙ said_names es)) ∙ length-map es (λ e. e.0)

    -- the code by what the directory above says
    pub add_there : nat_lt 16 (length path) ≡ false
        → code_of (addition path what) tree ≡ code_by_names (is_some (lookup (pointwise nat_eq name) content.dir.entries.entries)) (length content.dir.entries.entries) (len tree)
    unfolding rest_code
    add_there short =
        some_code
        ∙ (ap (λ (b : Bool). add_code false b (is_directory_at tree above) (rest_code path tree)) short
        ∙ (ap (λ (b : Bool). add_code false false b (rest_code path tree)) (directory_stored graph tree one is makes above parent here ∙ directory)
        ∙ (ap (λ (p : Path). code_by_names (contains_key tree path) (length (names_at tree p)) (len tree)) above_is
        ∙ (ap (λ (p : Path). code_by_names (contains_key tree p) (length (names_at tree above)) (len tree)) split
        ∙ (ap (λ (b : Bool). code_by_names b (length (names_at tree above)) (len tree)) (there (lookup (pointwise nat_eq name) content.dir.entries.entries) refl)
        ∙ ap (λ (n : ℕ). code_by_names (is_some (lookup (pointwise nat_eq name) content.dir.entries.entries)) n (len tree)) count_above)))))

-- with code 0 the directory has no such name
pub unlisted_yet : (o : Option DirEntry) (names nodes : ℕ) → code_by_names (is_some o) names nodes ≡ 0 → o ≡ None
unlisted_yet None names nodes e = refl
unlisted_yet (Some entry) names nodes e = absurd (omega (arith, e))

-- a name that is not there yet goes last
pub put_last : (name : Name) (content : Content) (entry : DirEntry) → lookup (pointwise nat_eq name) content.dir.entries.entries ≡ None → insert_entry (pointwise nat_eq) content.dir.entries.entries name entry ≡ content.dir.entries.entries ++ (name, entry) ∷ []
put_last name content entry none = insert_entry-new (pointwise nat_eq) content.dir.entries name entry none

-- ---- what is written

-- one more directory
pub written_more : (medium : Medium) (moment : ℕ) (before after : Change) (d : NewDirectory) → after.file ≡ before.file → after.directories.items ≡ before.directories.items ++ d ∷ [] → change_writings medium moment after ≡ change_writings medium moment before ++ directory_writing d ∷ []
written_more medium moment before after d file items =
    (λ i. new_file medium moment (file i) ++ map directory_writing (items i))
    ∙ (ap (λ (ws : List Writing). new_file medium moment before.file ++ ws) (map-append directory_writing before.directories.items (d ∷ []))
    ∙ sym (append_assoc (new_file medium moment before.file) (map directory_writing before.directories.items) (directory_writing d ∷ [])))

plans : (graph : Graph) (free : ℕ) (path : Path) (what : NewContent) (moment identity : ℕ) (nodes : List Writing) (gone : List ℕ) → PlansAddition graph free path (content_of_thing what) moment identity nodes → gone ≡ [] → Plans graph free (addition path what) moment identity nodes gone
plans graph free path (thing.File bytes) moment identity nodes gone p none = (p, none)
plans graph free path thing.Directory moment identity nodes gone p none = (p, none)

takes_none : (path : Path) (what : NewContent) (tree : Tree) (gone : List ℕ) (taken : Option Node) → taken ≡ None → RemovesNode (addition path what) tree gone taken
takes_none path (thing.File bytes) tree gone taken none = none
takes_none path thing.Directory tree gone taken none = none

-- the directory above with one entry more
pub listed : (above : Path) (name : Name) (graph : Graph) (parent : Node) (here : IsNodeAt graph above parent) (placed : Placed) (content : Content) → MatchesStored here.found.stored placed content → (moment : ℕ) (entry : DirEntry) (d : NewDirectory)
    → d.address ≡ parent.address → d.unique ≡ parent.unique → d.moment ≡ moment → d.content.dir.parent ≡ content.dir.parent → d.content.dir.entries.entries ≡ content.dir.entries.entries ++ (name, entry) ∷ []
    → directory_writing d ≡ record { address = here.found.address; kept = 0; firsts = []; stored = as_stored here.found.stored.identity moment (with_entries (λ entries. entries ++ said_entry (name, entry) ∷ []) here.found.stored.body) }
listed above name graph parent here placed content shown moment entry d address unique when parent_is entries_are =
    let more : said_entries d.content.dir.entries.entries ≡ said_entries content.dir.entries.entries ++ said_entry (name, entry) ∷ [] =
    ap said_entries entries_are ∙ map-append said_entry content.dir.entries.entries ((name, entry) ∷ []) in
    let body : Entries d.content.dir.parent (said_entries d.content.dir.entries.entries) ≡ with_entries (λ entries. entries ++ said_entry (name, entry) ∷ []) here.found.stored.body =
    (λ i. Entries (parent_is i) (more i)) ∙ sym (ap (with_entries (λ entries. entries ++ said_entry (name, entry) ∷ [])) shown.body) in
    λ i. record { address = (address ∙ here.address) i; kept = 0; firsts = []; stored = as_stored ((unique ∙ here.identity) i) (when i) (body i) }

-- the node is put there
pub adds : {medium : Medium} (graph : Graph) (free moment identity : ℕ) (path above : Path) (name : Name) (split : path ≡ above ++ name ∷ []) (what : NewContent) (tree : Tree) (parent : Node) (here : IsNodeAt graph above parent) (placed : Placed) (content : Content)
    → MatchesStored here.found.stored placed content → (before change : Change) (entry : DirEntry) (d : NewDirectory) → code_of (addition path what) tree ≡ 0 → change.code ≡ code.Done → change.made ≡ made_by (addition path what) free → change.removed ≡ None
    → change_writings medium moment before ≡ record { address = free; kept = 0; firsts = []; stored = as_stored identity moment (new_body parent.address (content_of_thing what)) } ∷ [] → IfSome before.file (AreKeptOn medium) → change.file ≡ before.file → change.directories.items ≡ before.directories.items ++ d ∷ []
    → d.address ≡ parent.address → d.unique ≡ parent.unique → d.moment ≡ moment → d.content.dir.parent ≡ content.dir.parent → d.content.dir.entries.entries ≡ content.dir.entries.entries ++ (name, entry) ∷ []
    → names_directory entry.kind ≡ has_names (content_of_thing what) → entry.virtual_address ≡ free → entry.unique ≡ identity → IsChangeOf medium graph free tree (addition path what) moment identity change
adds {medium} graph free moment identity path above name split what tree parent here placed content shown before change entry d zero_code code_is made removed first keeps file items address unique when parent_is entries_are kind icb id =
    let front = sym (above_is path above name split what tree) in
    let said : said_entry (name, entry) ≡ record { name = name; is_directory = has_names (content_of_thing what); address = free; identity = identity } =
    λ i. record { name = name; is_directory = kind i; address = icb i; identity = id i } in
    let gone : gone_of change ≡ [] = ap addresses_in removed in
    let dir = listed above name graph parent here placed content shown moment entry d address unique when parent_is entries_are in
    let nodes : change_writings medium moment change ≡ record { address = free; kept = 0; firsts = []; stored = as_stored identity moment (new_body here.found.address (content_of_thing what)) }
    ∷ record { address = here.found.address; kept = 0; firsts = []; stored = as_stored here.found.stored.identity moment (with_entries (λ entries. entries ++ record { name = name; is_directory = has_names (content_of_thing what); address = free; identity = identity } ∷ []) here.found.stored.body) } ∷ [] =
    written_more medium moment before change d file items
    ∙ (ap (λ (ws : List Writing). ws ++ directory_writing d ∷ []) first
    ∙ (λ i. record { address = free; kept = 0; firsts = []; stored = as_stored identity moment (new_body (here.address i) (content_of_thing what)) }
    ∷ (dir ∙ ap (λ (e : Entry). record { address = here.found.address; kept = 0; firsts = []; stored = as_stored here.found.stored.identity moment (with_entries (λ entries. entries ++ e ∷ []) here.found.stored.body) }) said) i ∷ [])) in
    record {
      code_is = ap code_number code_is ∙ sym zero_code;
      done = λ none. (
        plans graph free path what moment identity (change_writings medium moment change) (gone_of change)
            (record {
              above = record { address = here.found.address; stored = here.found.stored; reach = subst (λ (p : Path). Reach graph p here.found.address) front here.found.reach; is = here.found.is };
              name = name;
              last = last_is path above name split what tree;
              nodes_are = nodes;
            })
            gone,
        made,
        takes_none path what tree (gone_of change) change.removed removed,
      );
      refused = λ other. absurd (other zero_code);
      kept = subst (λ (o : Option NewFile). IfSome o (AreKeptOn medium)) (sym file) keeps;
    }
