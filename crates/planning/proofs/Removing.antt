-- What taking a file or an empty directory away does.
use Rattle.std.proofs.Common.{◌≡◌, ◌↔◌, ℕ, ◌<◌, if◌then◌else◌, cond, not, Bool, true, false, List, [], ◌∷◌, ◌++◌, length, map, filter, Contains, Option, Some, None, is_some, refl, sym, ap, subst, ◌∙◌, arith}
use Rattle.std.specs.Prelude.{IsTrue, nat_eq, nat_lt}
use Rattle.std.specs.List.{IsDistinct, AllByRecursion}
use Rattle.std.specs.Map.{keys_of, remove_entry}
use Rattle.std.specs.FinMap.{get, contains_key}
use Rattle.std.specs.Cmp.Lexicographic.{pointwise}
use Rattle.std.proofs.lemmas.Bool.{false≢true, lt-ltb}
use Rattle.std.proofs.lemmas.List.{length-map}
use Rattle.dir.specs.declared.entry.Entry.{Entry as DirEntry}
use Rattle.model.specs.Tree.{Name, Path, Node as TreeNode, Content as Content_, Tree, IsTree, Has, is_directory_at, names_at, names_in, has_names, found_names, found_directory, parent_of, last_of}
use Rattle.model.specs.Tree.Content.{File as FileContent, Directory as DirectoryContent}
use Rattle.model.specs.Graph.{Graph, Body, Entry, MakesTree, IsFunctional, Reach, as_stored, content_in, entries_in, entries_of}
use Rattle.model.specs.Graph.Body.{Bytes, Entries}
use Rattle.model.specs.Change.{with_entries, without}
use Rattle.model.specs.Operation.{code_of, is_other}
use Rattle.model.specs.Operation.Operation.{Remove}
use Rattle.model.proofs.Lists.{not_in_nil, not_same, other_apart, keeps_not}
use Rattle.model.proofs.Paths.{parent-push, last-push}
use Rattle.durability.specs.Volume.{Medium}
use Rattle.durability.specs.Plan.{Writing}
use Rattle.request.specs.Numbers.{code_number}
use Rattle.request.specs.declared.answer.Code.TheVariants as code
use Rattle.dir.specs.declared.entry.Kind.{Kind}
use Rattle.dir.specs.declared.entry.Kind.TheVariants as kinds
use Rattle.udf.specs.Said.{said_entry, said_entries, names_directory}
use Rattle.udf.specs.Words.{name_kind}
use Rattle.planning.specs.declared.change.Change.{Change}
use Rattle.planning.specs.declared.change.NewDirectory.{NewDirectory}
use Rattle.lookup.specs.declared.content.Content.{Content}
use Rattle.recover.specs.declared.node.Node.{Node}
use Rattle.lookup.specs.declared.nodes.Placed.{Placed}
use Rattle.lookup.specs.Shows.{IsNodeAt, MatchesStored}
use Rattle.planning.specs.Writings.{directory_writing, new_file, change_writings}
use Rattle.table_update.specs.NextTable.{RemovesNode}
use Rattle.planning.specs.Changes.{addresses_in, gone_of, IsChangeOf}
use Rattle.model.proofs.Maps.{none_at}
use Rattle.planning.proofs.Adding.{not_empty}
use Rattle.planning.proofs.Replacing.{none_kept}
use Rattle.lookup.proofs.Walks.{node_at, names_stored, directory_stored, texts_exact}

-- ---- whether there are names

some_names : (n : ℕ) (empty : Bool) → IsTrue empty ↔ (n ≡ 0) → not empty ≡ nat_lt 0 n
some_names n true h = ap (λ (k : ℕ). nat_lt 0 k) (sym (h.0 refl))
some_names n false h = sym (lt-ltb 0 n (some n (λ none. false≢true (h.1 none))))
  where
    some : (k : ℕ) → (k ≡ 0 → ⊥) → 0 < k
    some k apart = omega arith

pub has_some : (b : Body) (parent : ℕ) (es : List (List ℕ × DirEntry)) (empty : Bool) → b ≡ Entries parent (said_entries es) → IsTrue empty ↔ (length es ≡ 0) → not empty ≡ nat_lt 0 (length (entries_in b))
has_some b parent es empty is none =
    let count : length es ≡ length (entries_in b) = sym (length-map es said_entry) ∙ ap (λ (c : Body). length (entries_in c)) (sym is) in
    some_names (length es) empty none ∙ ap (λ (n : ℕ). nat_lt 0 n) count

pub has_none : (b : Body) → has_names (content_in b) ≡ false → false ≡ nat_lt 0 (length (entries_in b))
has_none (Bytes bytes) e = refl
has_none (Entries parent entries) e = absurd (false≢true (sym e))

lists_in : (c : Content_) (name : Name) → Contains (names_in c) name → has_names c ≡ true
lists_in (FileContent bytes) name there = absurd (not_in_nil name there)
lists_in (DirectoryContent names) name there = refl

lists_name : (o : Option TreeNode) (name : Name) → Contains (found_names o) name → found_directory o ≡ true
lists_name None name there = absurd (not_in_nil name there)
lists_name (Some node) name there = lists_in node.content name there

names_count : (b : Body) → length (names_in (content_in b)) ≡ length (entries_in b)
names_count (Bytes bytes) = refl
names_count (Entries parent entries) = length-map entries (λ e. e.name)

-- ---- the code

abbrev remove_code : Bool → Bool → Bool → ℕ
remove_code empty there names = if empty then 7 else (if not there then 2 else (if names then 5 else 0))

module _ (path above : Path) (name : Name) (split : path ≡ above ++ name ∷ []) (tree : Tree) where
  pub remove_missing : get tree path ≡ None → code_of (Remove path) tree ≡ 2
  remove_missing none =
      ap (λ (b : Bool). remove_code b (contains_key tree path) (nat_lt 0 (length (names_at tree path)))) (not_empty path above name split)
      ∙ ap (λ (b : Bool). remove_code false b (nat_lt 0 (length (names_at tree path)))) (ap is_some none)

  -- the code by whether the node has names
  pub remove_there : (graph : Graph) → IsFunctional graph → IsTree tree → MakesTree graph tree → (node : Node) (here : IsNodeAt graph path node) (has : Bool) → has ≡ nat_lt 0 (length (entries_of here.found.stored)) → code_of (Remove path) tree ≡ (if has then 5 else 0)
  remove_there graph one is makes node here has same =
      let count : length (names_at tree path) ≡ length (entries_of here.found.stored) = ap length (names_stored graph tree one is makes path node here) ∙ names_count here.found.stored.body in
      ap (λ (b : Bool). remove_code b (contains_key tree path) (nat_lt 0 (length (names_at tree path)))) (not_empty path above name split)
      ∙ (ap (λ (b : Bool). remove_code false b (nat_lt 0 (length (names_at tree path)))) (ap is_some (node_at graph tree one is makes path node here))
      ∙ ap (λ (b : Bool). remove_code false true b) (ap (λ (n : ℕ). nat_lt 0 n) count ∙ sym same))

  -- what is there has a directory above it
  pub above_there : IsTree tree → Has tree path → is_directory_at tree above ≡ true
  above_there is has = lists_name (get tree above) name ((is.children above name).0 (subst (λ (p : Path). Has tree p) split has))

  -- and so nothing is where no directory is above
  pub nothing_under : IsTree tree → is_directory_at tree above ≡ false → get tree path ≡ None
  nothing_under is none = none_at tree path (λ has. absurd (false≢true (sym none ∙ above_there is has)))

-- ---- the entries that are left

kept_all : (name : Name) (es : List (Name × DirEntry)) → AllByRecursion (λ y. pointwise nat_eq name y ≡ false) (keys_of es) → filter (λ (e : Entry). is_other (name ∷ []) e.name) (said_entries es) ≡ said_entries es
kept_all name [] a = refl
kept_all name (e ∷ es) a =
    let rest = filter (λ (x : Entry). is_other (name ∷ []) x.name) (said_entries es) in
    ap (λ (b : Bool). cond b (said_entry e ∷ rest) rest) (other_apart name e.0 (λ same. not_same name e.0 a.0 (sym same)))
    ∙ ap (λ (l : List Entry). said_entry e ∷ l) (kept_all name es a.1)

-- a map's entries without a name are the model's, since names are distinct
pub left : (name : Name) (es : List (Name × DirEntry)) → IsDistinct (pointwise nat_eq) (keys_of es) → said_entries (remove_entry (pointwise nat_eq name) es) ≡ filter (λ (e : Entry). is_other (name ∷ []) e.name) (said_entries es)
unfolding IsDistinct
left name [] d = refl
left name (e ∷ es) d = go (left name es d.1) (pointwise nat_eq name e.0) refl
  where
    rest : List Entry
    rest = filter (λ (x : Entry). is_other (name ∷ []) x.name) (said_entries es)

    go : said_entries (remove_entry (pointwise nat_eq name) es) ≡ rest → (b : Bool) → pointwise nat_eq name e.0 ≡ b → said_entries (cond b es (e ∷ remove_entry (pointwise nat_eq name) es)) ≡ cond (is_other (name ∷ []) e.0) (said_entry e ∷ rest) rest
    go later true same =
        let here : e.0 ≡ name = sym (texts_exact name e.0 same) in
        sym (kept_all name es (subst (λ (n : Name). AllByRecursion (λ y. pointwise nat_eq n y ≡ false) (keys_of es)) here d.0))
        ∙ sym (ap (λ (b : Bool). cond b (said_entry e ∷ rest) rest) (ap (is_other (name ∷ [])) here ∙ keeps_not name))
    go later false apart =
        ap (λ (l : List Entry). said_entry e ∷ l) later
        ∙ sym (ap (λ (b : Bool). cond b (said_entry e ∷ rest) rest) (other_apart name e.0 (λ same. not_same name e.0 apart (sym same))))

-- the directory above without the entry
unlisted : (path above : Path) (name : Name) (split : path ≡ above ++ name ∷ []) (graph : Graph) (parent : Node) (up : IsNodeAt graph above parent) (placed : Placed) (content : Content) → MatchesStored up.found.stored placed content → IsDistinct (pointwise nat_eq) (keys_of content.dir.entries.entries)
    → (moment : ℕ) (d : NewDirectory) → d.address ≡ parent.address → d.unique ≡ parent.unique → d.moment ≡ moment → d.content.dir.parent ≡ content.dir.parent → d.content.dir.entries.entries ≡ remove_entry (pointwise nat_eq name) content.dir.entries.entries
    → directory_writing d ≡ record { address = up.found.address; kept = 0; firsts = []; stored = as_stored up.found.stored.identity moment (with_entries (without path) up.found.stored.body) }
unlisted path above name split graph parent up placed content shown distinct moment d address unique when parent_is entries_are =
    let last : last_of path ≡ name ∷ [] = ap last_of split ∙ last-push above name in
    let less : said_entries d.content.dir.entries.entries ≡ without path (said_entries content.dir.entries.entries) =
    ap said_entries entries_are ∙ (left name content.dir.entries.entries distinct ∙ ap (λ (ns : List Name). filter (λ (e : Entry). is_other ns e.name) (said_entries content.dir.entries.entries)) (sym last)) in
    let body : Entries d.content.dir.parent (said_entries d.content.dir.entries.entries) ≡ with_entries (without path) up.found.stored.body =
    (λ i. Entries (parent_is i) (less i)) ∙ sym (ap (with_entries (without path)) shown.body) in
    λ i. record { address = (address ∙ up.address) i; kept = 0; firsts = []; stored = as_stored ((unique ∙ up.identity) i) (when i) (body i) }

kind_back : (k : Kind) → k ≡ name_kind (names_directory k)
kind_back kinds.Directory = refl
kind_back kinds.File = refl

-- the node is taken away
pub removes : {medium : Medium} (graph : Graph) (one : IsFunctional graph) (free moment identity : ℕ) (path above : Path) (name : Name) (split : path ≡ above ++ name ∷ []) (tree : Tree) (is : IsTree tree) (makes : MakesTree graph tree)
    (parent : Node) (up : IsNodeAt graph above parent) (placed : Placed) (content : Content)
    → MatchesStored up.found.stored placed content → IsDistinct (pointwise nat_eq) (keys_of content.dir.entries.entries) → (node : Node) (here : IsNodeAt graph path node) (change : Change) (d : NewDirectory) → code_of (Remove path) tree ≡ 0
    → change.code ≡ code.Done → change.made ≡ None → change.removed ≡ Some node → change.file ≡ None → change.directories.items ≡ d ∷ []
    → d.address ≡ parent.address → d.unique ≡ parent.unique → d.moment ≡ moment → d.content.dir.parent ≡ content.dir.parent → d.content.dir.entries.entries ≡ remove_entry (pointwise nat_eq name) content.dir.entries.entries
    → IsChangeOf medium graph free tree (Remove path) moment identity change
removes {medium} graph one free moment identity path above name split tree is makes parent up placed content shown distinct node here change d zero_code code_is made removed file items address unique when parent_is entries_are =
    let front : above ≡ parent_of path = sym (ap parent_of split ∙ parent-push above name) in
    let nodes : change_writings medium moment change ≡ directory_writing d ∷ [] = λ i. new_file medium moment (file i) ++ map directory_writing (items i) in
    let kind : node.kind ≡ name_kind (is_directory_at tree path) = kind_back node.kind ∙ ap name_kind (sym (directory_stored graph tree one is makes path node here)) in
    let takes : RemovesNode (Remove path) tree (gone_of change) change.removed = (node, removed, ap addresses_in removed, kind) in
    record {
      code_is = ap code_number code_is ∙ sym zero_code;
      done = λ none. (
        record {
          above = record { address = up.found.address; stored = up.found.stored; reach = subst (λ (p : Path). Reach graph p up.found.address) front up.found.reach; is = up.found.is };
          node = here.found;
          gone_is = ap addresses_in removed ∙ ap (λ (a : ℕ). a ∷ []) here.address;
          nodes_are = nodes ∙ ap (λ (w : Writing). w ∷ []) (unlisted path above name split graph parent up placed content shown distinct moment d address unique when parent_is entries_are);
        },
        made,
        takes,
      );
      refused = λ other. absurd (other zero_code);
      kept = none_kept medium change.file file;
    }
