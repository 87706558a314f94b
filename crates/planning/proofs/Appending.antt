-- What adding bytes at the end of a file does.
use Rattle.std.proofs.Common.{◌≡◌, ℕ, ◌+◌, ◌%◌, ◌==◌, ◌&&◌, nat_le, if◌then◌else◌, not, Bool, true, false, List, [], ◌∷◌, ◌++◌, length, take, drop, Option, None, is_some, sym, ap, subst, ◌∙◌}
use Rattle.std.specs.Prelude.{IfSome, unwrap_or}
use Rattle.std.specs.FinMap.{get, contains_key}
use Rattle.std.proofs.lemmas.List.{take-append-drop}
use Rattle.limits.specs.declared.TheConstants.{FILE_BYTES, GREATEST_FILE}
use Rattle.model.specs.Tree.{Path, Tree, IsTree, Node as TreeNode, is_directory_at, bytes_in, found_bytes}
use Rattle.model.specs.Graph.{Body, Graph, MakesTree, Stored, as_stored, content_in, is_directory}
use Rattle.model.specs.Graph.Body.{Bytes}
use Rattle.model.specs.Operation.{code_of, ends_at, file_bytes}
use Rattle.model.specs.Operation.Operation.{Append}
use Rattle.durability.specs.Volume.{AreWithin, Medium, bytes_in_extents}
use Rattle.durability.specs.Plan.{Writing}
use Rattle.durability.proofs.Extents.{extents_stay}
use Rattle.durability.proofs.Stored.{stored_one}
use Rattle.drive.specs.Journal.{Event, Once, held}
use Rattle.drive.specs.declared.Drive.{Ghosts}
use Rattle.request.specs.Numbers.{code_number}
use Rattle.udf.specs.Udf.{all_firsts, udf}
use Rattle.udf.specs.Said.{names_directory}
use Rattle.udf.proofs.Formats.{exact}
use Rattle.recover.specs.declared.node.Node.{Node}
use Rattle.lookup.specs.Ends.{EndsFile, KnowsExtents}
use Rattle.lookup.specs.Extents.{full_size}
use Rattle.lookup.specs.Lookups.{Looks, below_seen, graph_seen}
use Rattle.lookup.specs.Shows.{graph_below, IsNodeAt}
use Rattle.lookup.specs.declared.end.FileEnd.{FileEnd}
use Rattle.lookup.specs.declared.lookup.Lookup.{Lookup}
use Rattle.lookup.proofs.Asking.{file_bytes as stored_bytes}
use Rattle.lookup.proofs.Looking.{below_same, graph_same}
use Rattle.lookup.proofs.Walks.{node_at}
use Rattle.planning.specs.declared.change.Change.{Change}
use Rattle.planning.specs.declared.file.NewFile.{NewFile}
use Rattle.planning.specs.Writings.{AreKeptOn, file_writing, kept_bytes}
use Rattle.planning.specs.Changes.{addresses_in, IsChangeOf, WritesFile}
use Rattle.planning.proofs.Replacing.{directory_there, file_alone, there_at}

abbrev append_code : Bool → Bool → Bool → Bool → Bool → ℕ
append_code empty there directory ends full =
    if empty then 7 else (if not there then 2 else (if directory then 4 else (if not ends then 3 else (if full then 10 else 0))))

pub append_root : (path : Path) (offset : ℕ) (bytes : List ℕ) (tree : Tree) → (length path == 0) ≡ true → code_of (Append path offset bytes) tree ≡ 7
append_root path offset bytes tree e = ap (λ (b : Bool). append_code b (contains_key tree path) (is_directory_at tree path) (ends_at tree path offset) (nat_le GREATEST_FILE offset)) e

pub append_missing : (path : Path) (offset : ℕ) (bytes : List ℕ) (tree : Tree) → (length path == 0) ≡ false → get tree path ≡ None → code_of (Append path offset bytes) tree ≡ 2
append_missing path offset bytes tree some none =
    ap (λ (b : Bool). append_code b (contains_key tree path) (is_directory_at tree path) (ends_at tree path offset) (nat_le GREATEST_FILE offset)) some
    ∙ ap (λ (b : Bool). append_code false b (is_directory_at tree path) (ends_at tree path offset) (nat_le GREATEST_FILE offset)) (ap is_some none)

-- what extents hold below an address they hold on all of the medium
pub lies_on : (at : ℕ) (M : Medium) (size : ℕ) (firsts : List ℕ) → AreWithin (take at M) size firsts → AreWithin M size firsts × (bytes_in_extents M size firsts ≡ bytes_in_extents (take at M) size firsts)
lies_on at M size firsts within =
    subst (λ (N : Medium). AreWithin N size firsts × (bytes_in_extents N size firsts ≡ bytes_in_extents (take at M) size firsts)) (take-append-drop at M) (extents_stay (take at M) (drop at M) size firsts within)

module _ (at : ℕ) (entries : List (Option ℕ)) (J : List Event) (tree : Tree) (is : IsTree tree) (makes : MakesTree (graph_below at entries J) tree) where
  -- what the file has
  bytes_there : (path : Path) (node : Node) (here : IsNodeAt (graph_below at entries J) path node) (whole : List ℕ) → here.found.stored.body ≡ Bytes whole → file_bytes tree path ≡ whole
  bytes_there path node here whole body =
      ap (λ (o : Option TreeNode). unwrap_or (found_bytes o) []) (node_at (graph_below at entries J) tree (stored_one udf exact (take at (held J)) entries) is makes path node here)
      ∙ ap (λ (b : Body). unwrap_or (bytes_in (content_in b)) []) body

  append_there : (path : Path) (node : Node) (offset : ℕ) (b : Bool) → (length path == 0) ≡ false → IsNodeAt (graph_below at entries J) path node → names_directory node.kind ≡ b → (bytes : List ℕ)
      → code_of (Append path offset bytes) tree ≡ append_code false true b (ends_at tree path offset) (nat_le GREATEST_FILE offset)
  append_there path node offset b some here kind bytes =
      ap (λ (e : Bool). append_code e (contains_key tree path) (is_directory_at tree path) (ends_at tree path offset) (nat_le GREATEST_FILE offset)) some
      ∙ (ap (λ (e : Bool). append_code false e (is_directory_at tree path) (ends_at tree path offset) (nat_le GREATEST_FILE offset)) (there_at at entries J tree is makes path node here)
      ∙ ap (λ (e : Bool). append_code false true e (ends_at tree path offset) (nat_le GREATEST_FILE offset)) (directory_there at entries J tree is makes path node here ∙ kind))

  pub append_directory : (path : Path) (node : Node) (offset : ℕ) → (length path == 0) ≡ false → IsNodeAt (graph_below at entries J) path node → names_directory node.kind ≡ true → (bytes : List ℕ) → code_of (Append path offset bytes) tree ≡ 4
  append_directory path node offset some here kind bytes = append_there path node offset true some here kind bytes

  -- the code, by whether the file ends there, and whether it is as long as a file can be
  pub append_file : (path : Path) (node : Node) (offset : ℕ) (ends full : Bool) → (length path == 0) ≡ false → (here : IsNodeAt (graph_below at entries J) path node) → names_directory node.kind ≡ false
      → (whole : List ℕ) → here.found.stored.body ≡ Bytes whole → (size : ℕ) → size ≡ length whole → (size == offset && offset % FILE_BYTES == 0) ≡ ends → nat_le GREATEST_FILE offset ≡ full → (bytes : List ℕ)
      → code_of (Append path offset bytes) tree ≡ append_code false true false ends full
  append_file path node offset ends full some here kind whole body size long e f bytes =
      let there : ends_at tree path offset ≡ ends =
      ap (λ (xs : List ℕ). length xs == offset && offset % FILE_BYTES == 0) (bytes_there path node here whole body) ∙ (ap (λ (n : ℕ). n == offset && offset % FILE_BYTES == 0) (sym long) ∙ e) in
      append_there path node offset false some here kind bytes
      ∙ (ap (λ (x : Bool). append_code false true false x (nat_le GREATEST_FILE offset)) there ∙ ap (λ (x : Bool). append_code false true false ends x) f)

  -- the file gets the bytes after those that it has
  pub appends : (free moment identity : ℕ) (path : Path) (node : Node) (offset : ℕ) (bytes : List ℕ) (change : Change) → (length path == 0) ≡ false → (here : IsNodeAt (graph_below at entries J) path node) → names_directory node.kind ≡ false
      → (whole : List ℕ) → here.found.stored.body ≡ Bytes whole → (end : FileEnd) → EndsFile (take at (held J)) whole end → KnowsExtents end → end.size ≡ offset → offset % FILE_BYTES ≡ 0 → (end.size == offset && offset % FILE_BYTES == 0) ≡ true → nat_le GREATEST_FILE offset ≡ false
      → WritesFile node end.extents bytes change → IsChangeOf (held J) (graph_below at entries J) free tree (Append path offset bytes) moment identity change
  appends free moment identity path node offset bytes change some here kind whole body end ends knows size multiple e f w =
      let M = held J in
      let zero_code = append_file path node offset true false some here kind whole body end.size ends.size e f bytes in
      let filled : end.size % FILE_BYTES ≡ 0 = subst (λ (n : ℕ). n % FILE_BYTES ≡ 0) (sym size) multiple in
      let full : full_size end.extents ≡ end.size = knows.full filled in
      let lies = lies_on at M end.size (all_firsts end.extents) (ends.within filled) in
      let bytes_are : bytes_in_extents M end.size (all_firsts end.extents) ≡ whole = lies.1 ∙ sym (ends.bytes filled) in
      let kept_size : full_size w.file.kept ≡ end.size = ap full_size w.kept ∙ full in
      let front : kept_bytes M w.file ≡ whole = (λ i. bytes_in_extents M (kept_size i) (all_firsts (w.kept i))) ∙ bytes_are in
      let writing : file_writing M moment w.file ≡ record { address = here.found.address; kept = offset; firsts = all_firsts w.file.kept; stored = as_stored here.found.stored.identity moment (Bytes (whole ++ bytes)) } =
      λ i. record {
        address = (w.address ∙ here.address) i;
        kept = (kept_size ∙ size) i;
        firsts = all_firsts w.file.kept;
        stored = as_stored ((w.unique ∙ here.identity) i) moment (Bytes (front i ++ w.bytes_are i));
      } in
      let kept : AreKeptOn M w.file = record {
        within = subst (λ (n : ℕ). AreWithin M n (all_firsts w.file.kept)) (sym kept_size) (subst (λ (xs : List ℕ). AreWithin M end.size (all_firsts xs)) (sym w.kept) lies.0);
        size = ap length front ∙ (sym ends.size ∙ sym kept_size);
      } in
      record {
        code_is = ap code_number w.code ∙ sym zero_code;
        done = λ none. (
          (
            record {
              file = here.found;
              front = whole;
              holds = body;
              size = sym ends.size ∙ size;
              firsts = all_firsts w.file.kept;
              nodes_are = file_alone M moment w ∙ ap (λ (x : Writing). x ∷ []) writing;
            },
            ap addresses_in w.removed,
          ),
          w.made,
          w.removed,
        );
        refused = λ other. absurd (other zero_code);
        kept = subst (λ (o : Option NewFile). IfSome o (AreKeptOn M)) (sym w.file_is) kept;
      }

-- ---- after the file was looked for

module _ {D : Type 0} {drive : Ghosts D} {a b : Lookup D drive} (p : Looks drive 0 a b) (path : Path) (node : Node) (here : IsNodeAt (graph_seen drive a) path node) where
  -- it is still stored there
  pub still_there : graph_seen drive b node.address here.found.stored
  still_there =
      subst (λ (G : Graph). G node.address here.found.stored) (sym (graph_same p)) (subst (λ (n : ℕ). graph_seen drive a n here.found.stored) (sym here.address) here.found.is)

  pub no_directory_there : names_directory node.kind ≡ false → is_directory here.found.stored ≡ false
  no_directory_there kind = sym here.kind ∙ kind

  -- its end, by what is read of its entry
  pub end_there : (end : FileEnd) → names_directory node.kind ≡ false → Once (drive.journal a.drive.now)
      → (Once (drive.journal b.drive.now) → (s : Stored) → graph_seen drive b node.address s → is_directory s ≡ false → (whole : List ℕ) → s.body ≡ Bytes whole → EndsFile (below_seen drive b) whole end)
      → (whole : List ℕ) × (here.found.stored.body ≡ Bytes whole) × EndsFile (below_seen drive a) whole end
  end_there end kind once read =
      let file = no_directory_there kind in
      let (whole, body) = stored_bytes here.found.stored file in
      let once_there = subst (λ (K : List Event). Once K) (sym p.reads.journal) once in
      (whole, body, subst (λ (M : Medium). EndsFile M whole end) (below_same p) (read once_there here.found.stored still_there file whole body))
