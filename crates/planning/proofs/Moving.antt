-- What another path for a node does.
use Rattle.std.proofs.Common.{◌≡◌, inl, inr, ℕ, ◌<◌, ◌≤◌, ◌==◌, ◌&&◌, ◌||◌, if◌then◌else◌, cond, not, Bool, true, false, List, [], ◌∷◌, ◌++◌, length, map, filter, Contains, Option, Some, None, is_some, refl, sym, ap, subst, ◌∙◌, append_assoc}
use Rattle.std.specs.Prelude.{nat_eq, nat_lt, nat_le}
use Rattle.std.specs.List.{IsDistinct}
use Rattle.std.specs.Map.{lookup, keys_of, remove_entry}
use Rattle.std.specs.FinMap.{get, contains_key}
use Rattle.std.specs.Cmp.Lexicographic.{pointwise}
use Rattle.std.proofs.lemmas.Bool.{le-leb, lt-leb}
use Rattle.std.proofs.lemmas.Cmp.{nat_list_eq_equiv}
use Rattle.std.proofs.lemmas.List.{length-map, map-append}
use Rattle.std.proofs.lemmas.Map.{lookup-remove_entry}
use Rattle.std.proofs.lemmas.Map.Views.{Contains-from_lookup}
use Rattle.indexmap.specs.IndexMap.{insert_entry}
use Rattle.limits.specs.declared.TheConstants.{DIRECTORY_NAMES}
use Rattle.dir.specs.declared.entry.Entry.{Entry as DirEntry}
use Rattle.model.specs.Tree.{Name, Path, Tree, IsTree, Has, is_directory_at, names_at, paths_eq, begins_with, parent_of, last_of}
use Rattle.model.specs.Graph.{Graph, Stored, Body, Entry, MakesTree, IsFunctional, Reach, as_stored, entries_in, entries_of, is_directory}
use Rattle.model.specs.Graph.Body.{Entries}
use Rattle.model.specs.Change.{Found, with_entries, with_parent, without, renamed}
use Rattle.model.specs.Operation.{code_of, is_other, moves_too_deep}
use Rattle.model.specs.Operation.Operation.{Rename}
use Rattle.model.proofs.Lists.{bytes_eq-itself, contains_map}
use Rattle.model.proofs.Paths.{parent-push, last-push}
use Rattle.model.proofs.Codes.{paths_same}
use Rattle.model.proofs.Made.{reach_one}
use Rattle.model.proofs.Maps.{not_none}
use Rattle.durability.specs.Volume.{Medium}
use Rattle.durability.specs.Plan.{Writing, turned}
use Rattle.request.specs.Numbers.{code_number}
use Rattle.request.specs.declared.answer.Code.TheVariants as code
use Rattle.udf.specs.Said.{said_entry, said_entries}
use Rattle.planning.specs.declared.change.Change.{Change}
use Rattle.planning.specs.declared.change.NewDirectory.{NewDirectory}
use Rattle.lookup.specs.declared.content.Content.{Content}
use Rattle.recover.specs.declared.node.Node.{Node}
use Rattle.lookup.specs.declared.nodes.Placed.{Placed}
use Rattle.lookup.specs.Shows.{IsNodeAt, MatchesStored}
use Rattle.planning.specs.Moves.{IsMoveWithin, IsBetween, Turns}
use Rattle.planning.specs.Writings.{directory_writing, new_file, new_directories, change_writings}
use Rattle.planning.specs.Changes.{addresses_in, gone_of, IsChangeOf}
use Rattle.planning.proofs.Removing.{left}
use Rattle.planning.proofs.Replacing.{none_kept}
use Rattle.lookup.proofs.Walks.{step_some, step_none, texts_exact}
use Rattle.planning.proofs.Adding.{not_empty, put_last}
use Rattle.lookup.proofs.Heights.{has_at, names_opened, distinct_opened}

-- ---- the code

abbrev move_code : (root there into above exists deep full : Bool) → ℕ
move_code root there into above exists deep full =
    if root then 7 else (if not there then 2 else (if into then 6 else (if not above then 1 else (if exists then 3 else (if deep then 8 else (if full then 9 else 0))))))

abbrev pub goes_into : Path → Path → Bool
goes_into from to = nat_lt (length from) (length to) && begins_with to from

abbrev pub fills : Path → Path → Tree → Bool
fills from to tree = nat_le DIRECTORY_NAMES (length (names_at tree (parent_of to))) && not (paths_eq (parent_of to) (parent_of from))

-- the code by what was asked, in order
pub move_by : (from to : Path) (tree : Tree) {root there into above exists deep full : Bool} → (length from == 0 || length to == 0) ≡ root → contains_key tree from ≡ there → (nat_lt (length from) (length to) && begins_with to from) ≡ into
    → is_directory_at tree (parent_of to) ≡ above → contains_key tree to ≡ exists → moves_too_deep from to tree ≡ deep → fills from to tree ≡ full → code_of (Rename from to) tree ≡ move_code root there into above exists deep full
move_by from to tree a b c d e f g = λ i. move_code (a i) (b i) (c i) (d i) (e i) (f i) (g i)

paths_eq-itself : (p : Path) → paths_eq p p ≡ true
paths_eq-itself [] = refl
paths_eq-itself (x ∷ p) = ap (λ b. b && paths_eq p p) (bytes_eq-itself x) ∙ paths_eq-itself p

and_false : (b : Bool) → (b && false) ≡ false
and_false true = refl
and_false false = refl

and_true : (b : Bool) → (b && true) ≡ b
and_true true = refl
and_true false = refl

-- ---- the codes, one after another

module _ (from to above beyond : Path) (old new : Name) (from_is : from ≡ above ++ old ∷ []) (to_is : to ≡ beyond ++ new ∷ []) (tree : Tree) where
  named : (length from == 0 || length to == 0) ≡ false
  named = λ i. not_empty from above old from_is i || not_empty to beyond new to_is i

  pub beyond_is : parent_of to ≡ beyond
  beyond_is = ap parent_of to_is ∙ parent-push beyond new

  pub above_is : parent_of from ≡ above
  above_is = ap parent_of from_is ∙ parent-push above old

  pub rename_missing : get tree from ≡ None → code_of (Rename from to) tree ≡ 2
  rename_missing none = move_by from to tree named (ap is_some none) refl refl refl refl refl

  pub rename_into : Has tree from → goes_into from to ≡ true → code_of (Rename from to) tree ≡ 6
  rename_into has into = move_by from to tree named has into refl refl refl refl

  pub rename_nowhere : Has tree from → goes_into from to ≡ false → is_directory_at tree beyond ≡ false → code_of (Rename from to) tree ≡ 1
  rename_nowhere has apart none = move_by from to tree named has apart (ap (is_directory_at tree) beyond_is ∙ none) refl refl refl

  pub rename_exists : Has tree from → goes_into from to ≡ false → is_directory_at tree beyond ≡ true → Has tree to → code_of (Rename from to) tree ≡ 3
  rename_exists has apart directory there = move_by from to tree named has apart (ap (is_directory_at tree) beyond_is ∙ directory) there refl refl

  pub rename_deep : Has tree from → goes_into from to ≡ false → is_directory_at tree beyond ≡ true → get tree to ≡ None → moves_too_deep from to tree ≡ true → code_of (Rename from to) tree ≡ 8
  rename_deep has apart directory none deep = move_by from to tree named has apart (ap (is_directory_at tree) beyond_is ∙ directory) (ap is_some none) deep refl

  rename_by : Has tree from → goes_into from to ≡ false → is_directory_at tree beyond ≡ true → get tree to ≡ None → moves_too_deep from to tree ≡ false → (full : Bool) → fills from to tree ≡ full → code_of (Rename from to) tree ≡ (if full then 9 else 0)
  rename_by has apart directory none shallow full e = move_by from to tree named has apart (ap (is_directory_at tree) beyond_is ∙ directory) (ap is_some none) shallow e

  -- the directory has the name already, so it needs no room
  pub rename_beside : Has tree from → goes_into from to ≡ false → is_directory_at tree beyond ≡ true → get tree to ≡ None → moves_too_deep from to tree ≡ false → above ≡ beyond → code_of (Rename from to) tree ≡ 0
  rename_beside has apart directory none shallow same = rename_by has apart directory none shallow false (
      ap (λ (p : Path). nat_le DIRECTORY_NAMES (length (names_at tree (parent_of to))) && not (paths_eq (parent_of to) p)) (above_is ∙ (same ∙ sym beyond_is))
      ∙ (ap (λ (b : Bool). nat_le DIRECTORY_NAMES (length (names_at tree (parent_of to))) && not b) (paths_eq-itself (parent_of to))
      ∙ and_false (nat_le DIRECTORY_NAMES (length (names_at tree (parent_of to)))))
      )

  pub rename_elsewhere : Has tree from → goes_into from to ≡ false → is_directory_at tree beyond ≡ true → get tree to ≡ None → moves_too_deep from to tree ≡ false → (above ≡ beyond → ⊥)
      → code_of (Rename from to) tree ≡ (if nat_le DIRECTORY_NAMES (length (names_at tree beyond)) then 9 else 0)
  rename_elsewhere has apart directory none shallow other = rename_by has apart directory none shallow (nat_le DIRECTORY_NAMES (length (names_at tree beyond))) (
      ap (λ (b : Bool). nat_le DIRECTORY_NAMES (length (names_at tree (parent_of to))) && not b) (unlike (paths_eq (parent_of to) (parent_of from)) refl)
      ∙ (and_true (nat_le DIRECTORY_NAMES (length (names_at tree (parent_of to))))
      ∙ ap (λ (p : Path). nat_le DIRECTORY_NAMES (length (names_at tree p))) beyond_is)
      )
    where
      unlike : (b : Bool) → paths_eq (parent_of to) (parent_of from) ≡ b → b ≡ false
      unlike false e = refl
      unlike true e = absurd (other (sym above_is ∙ (sym (paths_same (parent_of to) (parent_of from) e) ∙ beyond_is)))

-- ---- entries that are left

without_last : (path above : Path) (name : Name) → path ≡ above ++ name ∷ [] → (es : List (Name × DirEntry)) → IsDistinct (pointwise nat_eq) (keys_of es) → said_entries (remove_entry (pointwise nat_eq name) es) ≡ without path (said_entries es)
without_last path above name split es distinct =
    left name es distinct ∙ ap (λ (ns : List Name). filter (λ (e : Entry). is_other ns e.name) (said_entries es)) (sym (ap last_of split ∙ last-push above name))

pub lookup_left : (old new : Name) (es : List (Name × DirEntry)) → IsDistinct (pointwise nat_eq) (keys_of es) → lookup (pointwise nat_eq new) es ≡ None → lookup (pointwise nat_eq new) (remove_entry (pointwise nat_eq old) es) ≡ None
lookup_left old new es distinct none =
    lookup-remove_entry nat_list_eq_equiv (pointwise nat_eq old) (λ x y same. ap (λ (n : Name). pointwise nat_eq n y) (texts_exact old x same)) new es distinct
    ∙ no_more (pointwise nat_eq old new) (lookup (pointwise nat_eq new) es) none
  where
    no_more : (b : Bool) (o : Option DirEntry) → o ≡ None → cond b None o ≡ None
    no_more true o e = refl
    no_more false o e = e

-- what is there after a name is taken out and another comes in
pub entries_renamed : (old new : Name) (content left : Content) (more : List (Name × DirEntry)) (entry : DirEntry) → IsDistinct (pointwise nat_eq) (keys_of content.dir.entries.entries) → lookup (pointwise nat_eq new) content.dir.entries.entries ≡ None
    → left.dir.entries.entries ≡ remove_entry (pointwise nat_eq old) content.dir.entries.entries → more ≡ insert_entry (pointwise nat_eq) left.dir.entries.entries new entry
    → more ≡ remove_entry (pointwise nat_eq old) content.dir.entries.entries ++ (new, entry) ∷ []
entries_renamed old new content left more entry distinct none less is =
    let free : lookup (pointwise nat_eq new) left.dir.entries.entries ≡ None = ap (lookup (pointwise nat_eq new)) less ∙ lookup_left old new content.dir.entries.entries distinct none in
    is ∙ (put_last new left entry free ∙ ap (λ (es : List (Name × DirEntry)). es ++ (new, entry) ∷ []) less)

-- ---- what directories say

abbrev found_above : (graph : Graph) (path above : Path) (name : Name) (node : Node) → path ≡ above ++ name ∷ [] → IsNodeAt graph above node → Found graph (parent_of path)
found_above graph path above name node split at = record {
  address = at.found.address;
  stored = at.found.stored;
  reach = subst (λ (p : Path). Reach graph p at.found.address) (sym (ap parent_of split ∙ parent-push above name)) at.found.reach;
  is = at.found.is;
}

module _ (graph : Graph) (tree : Tree) (one : IsFunctional graph) (is : IsTree tree) (makes : MakesTree graph tree) where
  -- a name that leads nowhere is not listed
  pub not_listed : (above : Path) (node : Node) (at : IsNodeAt graph above node) (placed : Placed) (content : Content) → MatchesStored at.found.stored placed content → (name : Name) → get tree (above ++ name ∷ []) ≡ None
      → lookup (pointwise nat_eq name) content.dir.entries.entries ≡ None
  not_listed above node at placed content shown name none = go (lookup (pointwise nat_eq name) content.dir.entries.entries) refl
    where
      go : (o : Option DirEntry) → lookup (pointwise nat_eq name) content.dir.entries.entries ≡ o → o ≡ None
      go None e = refl
      go (Some entry) e =
          let next = step_some graph tree one is makes above node at placed content shown name entry e in
          absurd (not_none tree (above ++ name ∷ []) none (has_at graph tree one is makes (above ++ name ∷ []) (record { kind = entry.kind; address = entry.virtual_address; unique = entry.unique }) next))

  -- one that leads somewhere is
  pub is_listed : (above : Path) (node : Node) (at : IsNodeAt graph above node) (placed : Placed) (content : Content) → MatchesStored at.found.stored placed content → (name : Name) → Has tree (above ++ name ∷ [])
      → lookup (pointwise nat_eq name) content.dir.entries.entries ≡ None → ⊥
  is_listed above node at placed content shown name has none = not_none tree (above ++ name ∷ []) (step_none graph tree one is makes above node at placed content shown name none) has

  -- one address, one path
  pub same_path : (p q : Path) (a b : Node) → IsNodeAt graph p a → IsNodeAt graph q b → a.address ≡ b.address → p ≡ q
  same_path p q a b at bt same =
      makes.one_path p q at.found.address at.found.reach (subst (λ (v : ℕ). Reach graph q v) (sym bt.address ∙ (sym same ∙ at.address)) bt.found.reach)

  pub same_address : (p q : Path) (a b : Node) → IsNodeAt graph p a → IsNodeAt graph q b → p ≡ q → a.address ≡ b.address
  same_address p q a b at bt same =
      at.address ∙ (reach_one graph tree one is makes q at.found.address bt.found.address (subst (λ (r : Path). Reach graph r at.found.address) same at.found.reach) bt.found.reach ∙ sym bt.address)

-- ---- what is written

-- a directory with other entries
rewritten : (graph : Graph) (path : Path) (node : Node) (at : IsNodeAt graph path node) (placed : Placed) (content : Content) → MatchesStored at.found.stored placed content → (change : List Entry → List Entry) (moment : ℕ) (d : NewDirectory)
    → d.address ≡ node.address → d.unique ≡ node.unique → d.moment ≡ moment → d.content.dir.parent ≡ content.dir.parent → said_entries d.content.dir.entries.entries ≡ change (said_entries content.dir.entries.entries)
    → directory_writing d ≡ record { address = at.found.address; kept = 0; firsts = []; stored = as_stored at.found.stored.identity moment (with_entries change at.found.stored.body) }
rewritten graph path node at placed content shown change moment d address unique when parent_is entries_are =
    let body : Entries d.content.dir.parent (said_entries d.content.dir.entries.entries) ≡ with_entries change at.found.stored.body = (λ i. Entries (parent_is i) (entries_are i)) ∙ sym (ap (with_entries change) shown.body) in
    λ i. record { address = (address ∙ at.address) i; kept = 0; firsts = []; stored = as_stored ((unique ∙ at.identity) i) (when i) (body i) }

said_more : (es fs : List (Name × DirEntry)) (name : Name) (entry : DirEntry) → fs ≡ es ++ (name, entry) ∷ [] → said_entries fs ≡ said_entries es ++ said_entry (name, entry) ∷ []
said_more es fs name entry e = ap said_entries e ∙ map-append said_entry es ((name, entry) ∷ [])

contains_said : (s : Stored) (content : Content) (placed : Placed) → MatchesStored s placed content → (name : Name) (entry : DirEntry) → lookup (pointwise nat_eq name) content.dir.entries.entries ≡ Some entry → Contains (entries_of s) (said_entry (name, entry))
contains_said s content placed shown name entry found =
    subst (λ (b : Body). Contains (entries_in b) (said_entry (name, entry))) (sym shown.body)
    (contains_map said_entry content.dir.entries.entries (name, entry) (Contains-from_lookup texts_exact name entry content.dir.entries.entries found))

-- a directory that is moved is written with its new parent
pub turned_is : (s : Stored) (moved : Entry) (above : ℕ) (placed : Placed) (content : Content) (d : NewDirectory) → MatchesStored s placed content → is_directory s ≡ true → d.address ≡ moved.address → d.unique ≡ s.identity → d.moment ≡ placed.moment
    → d.content.dir.parent ≡ above → d.content.dir.entries.entries ≡ content.dir.entries.entries → directory_writing d ∷ [] ≡ turned moved s above
turned_is s moved above placed content d shown directory address unique when parent_is entries_are =
    let body : Entries d.content.dir.parent (said_entries d.content.dir.entries.entries) ≡ with_parent above s.body = (λ i. Entries (parent_is i) (said_entries (entries_are i))) ∙ sym (ap (with_parent above) shown.body) in
    let writing : directory_writing d ≡ record { address = moved.address; kept = 0; firsts = []; stored = as_stored s.identity s.moment (with_parent above s.body) } = λ i. record { address = address i; kept = 0; firsts = []; stored = as_stored (unique i) ((when ∙ shown.moment) i) (body i) } in
    ap (λ (w : Writing). w ∷ []) writing
    ∙ sym (ap (λ (b : Bool). if b then record { address = moved.address; kept = 0; firsts = []; stored = as_stored s.identity s.moment (with_parent above s.body) } ∷ [] else []) directory)

pub turned_none : (s : Stored) (moved : Entry) (above : ℕ) → is_directory s ≡ false → [] ≡ turned moved s above
turned_none s moved above file = sym (ap (λ (b : Bool). if b then record { address = moved.address; kept = 0; firsts = []; stored = as_stored s.identity s.moment (with_parent above s.body) } ∷ [] else []) file)

module _ (graph : Graph) (tree : Tree) (one : IsFunctional graph) (is : IsTree tree) (makes : MakesTree graph tree) (free moment identity : ℕ) (from to : Path) where
  -- another name in one directory
  pub renames_within : {medium : Medium} (parent : Node) (old new : Name) (w : IsMoveWithin graph tree from to parent old new) (placed : Placed) (content : Content) → MatchesStored w.parent_at.found.stored placed content
      → (entry : DirEntry) → lookup (pointwise nat_eq old) content.dir.entries.entries ≡ Some entry → (change : Change) (d : NewDirectory)
      → change.code ≡ code.Done → change.file ≡ None → change.made ≡ None → change.removed ≡ None → change.directories.items ≡ d ∷ []
      → d.address ≡ parent.address → d.unique ≡ parent.unique → d.moment ≡ moment → d.content.dir.parent ≡ content.dir.parent
      → d.content.dir.entries.entries ≡ remove_entry (pointwise nat_eq old) content.dir.entries.entries ++ (new, entry) ∷ []
      → IsChangeOf medium graph free tree (Rename from to) moment identity change
  renames_within {medium} parent old new w placed content shown entry listed change d code_is file made removed items address unique when parent_is entries_are =
      let es = content.dir.entries.entries in
      let distinct = distinct_opened graph tree one is makes w.above parent w.parent_at placed content shown in
      let said : said_entries d.content.dir.entries.entries ≡ without from (said_entries es) ++ said_entry (new, entry) ∷ [] =
      said_more (remove_entry (pointwise nat_eq old) es) d.content.dir.entries.entries new entry entries_are
      ∙ ap (λ (l : List Entry). l ++ said_entry (new, entry) ∷ []) (without_last from w.above old w.from_is es distinct) in
      let writing = rewritten graph w.above parent w.parent_at placed content shown (λ entries. without from entries ++ renamed new (said_entry (old, entry)) ∷ []) moment d address unique when parent_is said in
      let nodes : change_writings medium moment change ≡ directory_writing d ∷ [] = λ i. new_file medium moment (file i) ++ map directory_writing (items i) in
      let gone : gone_of change ≡ [] = ap addresses_in removed in
      record {
        code_is = ap code_number code_is ∙ sym w.code_is;
        done = λ none. (
          (
            inl (record {
              beside = ap parent_of w.from_is ∙ (parent-push w.above old ∙ sym (ap parent_of w.to_is ∙ parent-push w.above new));
              above = found_above graph from w.above old parent w.from_is w.parent_at;
              moved = said_entry (old, entry);
              from_last = ap last_of w.from_is ∙ last-push w.above old;
              contains = contains_said w.parent_at.found.stored content placed shown old entry listed;
              name = new;
              to_last = ap last_of w.to_is ∙ last-push w.above new;
              nodes_are = nodes ∙ ap (λ (x : Writing). x ∷ []) writing;
            }),
            gone,
          ),
          made,
          removed,
        );
        refused = λ other. absurd (other w.code_is);
        kept = none_kept medium change.file file;
      }

  -- to another directory
  pub moves_between : {medium : Medium} (node source_dir target_dir : Node) (old new : Name) (b : IsBetween graph tree from to node source_dir target_dir old new) → code_of (Rename from to) tree ≡ 0
      → (lost gained : Placed) (losing gaining : Content) → MatchesStored b.loses_at.found.stored lost losing → MatchesStored b.gains_at.found.stored gained gaining
      → (entry : DirEntry) → lookup (pointwise nat_eq old) losing.dir.entries.entries ≡ Some entry → (change : Change) (before : List NewDirectory) (l g : NewDirectory)
      → Turns node.address b.node_at.found.stored target_dir.address (new_directories before)
      → change.code ≡ code.Done → change.file ≡ None → change.made ≡ None → change.removed ≡ None → change.directories.items ≡ (before ++ l ∷ []) ++ g ∷ []
      → l.address ≡ source_dir.address → l.unique ≡ source_dir.unique → l.moment ≡ moment → l.content.dir.parent ≡ losing.dir.parent → l.content.dir.entries.entries ≡ remove_entry (pointwise nat_eq old) losing.dir.entries.entries
      → g.address ≡ target_dir.address → g.unique ≡ target_dir.unique → g.moment ≡ moment → g.content.dir.parent ≡ gaining.dir.parent → g.content.dir.entries.entries ≡ gaining.dir.entries.entries ++ (new, entry) ∷ []
      → IsChangeOf medium graph free tree (Rename from to) moment identity change
  moves_between {medium} node source_dir target_dir old new b zero_code lost gained losing gaining shown_lost shown_gained entry listed change before l g before_is code_is file made removed items l_address l_unique l_when l_parent l_entries g_address g_unique g_when g_parent g_entries =
      let moved : Entry = said_entry (old, entry) in
      let entry_at = step_some graph tree one is makes b.above source_dir b.loses_at lost losing shown_lost old entry listed in
      let same : entry.virtual_address ≡ node.address = same_address graph tree one is makes (b.above ++ old ∷ []) from (record { kind = entry.kind; address = entry.virtual_address; unique = entry.unique }) node entry_at b.node_at (sym b.from_is) in
      let distinct = distinct_opened graph tree one is makes b.above source_dir b.loses_at lost losing shown_lost in
      let l_writing = rewritten graph b.above source_dir b.loses_at lost losing shown_lost (without from) moment l l_address l_unique l_when l_parent (ap said_entries l_entries ∙ without_last from b.above old b.from_is losing.dir.entries.entries distinct) in
      let g_writing = rewritten graph b.beyond target_dir b.gains_at gained gaining shown_gained (λ entries. entries ++ renamed new moved ∷ []) moment g g_address g_unique g_when g_parent
      (said_more gaining.dir.entries.entries g.content.dir.entries.entries new entry g_entries) in
      let gone : gone_of change ≡ [] = ap addresses_in removed in
      let nodes : change_writings medium moment change ≡ map directory_writing ((before ++ l ∷ []) ++ g ∷ []) = λ i. new_file medium moment (file i) ++ map directory_writing (items i) in
      let joined : map directory_writing ((before ++ l ∷ []) ++ g ∷ []) ≡ new_directories before ++ directory_writing l ∷ directory_writing g ∷ [] =
      ap (λ (ds : List NewDirectory). map directory_writing ds) (append_assoc before (l ∷ []) (g ∷ [])) ∙ map-append directory_writing before (l ∷ g ∷ []) in
      let first : new_directories before ≡ turned moved b.node_at.found.stored b.gains_at.found.address = before_is moved same ∙ ap (turned moved b.node_at.found.stored) b.gains_at.address in
      record {
        code_is = ap code_number code_is ∙ sym zero_code;
        done = λ none. (
          (
            inr (record {
              elsewhere = λ beside. b.elsewhere (sym (ap parent_of b.from_is ∙ parent-push b.above old) ∙ (beside ∙ (ap parent_of b.to_is ∙ parent-push b.beyond new)));
              above = found_above graph from b.above old source_dir b.from_is b.loses_at;
              moved = moved;
              from_last = ap last_of b.from_is ∙ last-push b.above old;
              contains = contains_said b.loses_at.found.stored losing lost shown_lost old entry listed;
              stored = b.node_at.found.stored;
              there = subst (λ (a : ℕ). graph a b.node_at.found.stored) (sym (same ∙ b.node_at.address)) b.node_at.found.is;
              beyond = found_above graph to b.beyond new target_dir b.to_is b.gains_at;
              name = new;
              to_last = ap last_of b.to_is ∙ last-push b.beyond new;
              nodes_are = nodes ∙ (joined ∙ (λ i. first i ++ l_writing i ∷ g_writing i ∷ []));
            }),
            gone,
          ),
          made,
          removed,
        );
        refused = λ other. absurd (other zero_code);
        kept = none_kept medium change.file file;
      }

module _ (graph : Graph) (tree : Tree) (one : IsFunctional graph) (is : IsTree tree) (makes : MakesTree graph tree) (from to : Path) where
  -- whether the directory that gains is full
  gained_count : (node source_dir target_dir : Node) (old new : Name) (b : IsBetween graph tree from to node source_dir target_dir old new) (gained : Placed) (gaining : Content) → MatchesStored b.gains_at.found.stored gained gaining → (full : Bool) → nat_le DIRECTORY_NAMES (length gaining.dir.entries.entries) ≡ full
      → code_of (Rename from to) tree ≡ (if full then 9 else 0)
  gained_count node source_dir target_dir old new b gained gaining shown full e =
      let count : length (names_at tree b.beyond) ≡ length gaining.dir.entries.entries =
      ap length (names_opened graph tree one is makes b.beyond target_dir b.gains_at gained gaining shown) ∙ length-map gaining.dir.entries.entries (λ (x : Name × DirEntry). x.0) in
      b.code_is ∙ (ap (λ (n : ℕ). if nat_le DIRECTORY_NAMES n then 9 else 0) count ∙ ap (λ (t : Bool). if t then 9 else 0) e)

  pub gained_full : (node source_dir target_dir : Node) (old new : Name) (b : IsBetween graph tree from to node source_dir target_dir old new) (gained : Placed) (gaining : Content) → MatchesStored b.gains_at.found.stored gained gaining → DIRECTORY_NAMES ≤ length gaining.dir.entries.entries
      → code_of (Rename from to) tree ≡ 9
  gained_full node source_dir target_dir old new b gained gaining shown le = gained_count node source_dir target_dir old new b gained gaining shown true (le-leb DIRECTORY_NAMES (length gaining.dir.entries.entries) le)

  pub gained_room : (node source_dir target_dir : Node) (old new : Name) (b : IsBetween graph tree from to node source_dir target_dir old new) (gained : Placed) (gaining : Content) → MatchesStored b.gains_at.found.stored gained gaining → length gaining.dir.entries.entries < DIRECTORY_NAMES
      → code_of (Rename from to) tree ≡ 0
  gained_room node source_dir target_dir old new b gained gaining shown lt = gained_count node source_dir target_dir old new b gained gaining shown false (lt-leb DIRECTORY_NAMES (length gaining.dir.entries.entries) lt)
