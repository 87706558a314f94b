-- What replacing a file's bytes does.
use Rattle.std.proofs.Common.{◌≡◌, ℕ, suc, ◌==◌, if◌then◌else◌, not, Bool, true, false, List, [], ◌∷◌, ◌++◌, length, map, take, Option, Some, None, is_some, refl, sym, ap, subst, ◌∙◌, arith}
use Rattle.std.specs.Prelude.{IfSome, Result}
use Rattle.std.specs.FinMap.{get, contains_key}
use Rattle.model.specs.Tree.{Path, Tree, IsTree, is_directory_at}
use Rattle.model.specs.Graph.{Graph, MakesTree, as_stored}
use Rattle.model.specs.Graph.Body.{Bytes}
use Rattle.model.specs.Operation.{Operation, code_of}
use Rattle.model.specs.Operation.Operation.{Replace}
use Rattle.durability.specs.Volume.{AreWithin, Medium, bytes_in_extents}
use Rattle.durability.specs.Plan.{Writing}
use Rattle.durability.proofs.Stored.{stored_one}
use Rattle.drive.specs.Journal.{Event, held}
use Rattle.drive.specs.declared.Drive.{Ghosts}
use Rattle.recover.specs.declared.fault.StoreFault.{StoreFault}
use Rattle.request.specs.Numbers.{code_number}
use Rattle.request.specs.declared.answer.Code.{Code}
use Rattle.request.specs.declared.answer.Code.TheVariants as code
use Rattle.udf.specs.Udf.{all_firsts, udf}
use Rattle.udf.specs.Said.{names_directory}
use Rattle.udf.proofs.Formats.{exact}
use Rattle.planning.specs.declared.change.Change.{Change}
use Rattle.planning.specs.declared.file.NewFile.{NewFile}
use Rattle.recover.specs.declared.node.Node.{Node}
use Rattle.lookup.specs.Lookups.{Answers, Looks, free_seen, graph_seen}
use Rattle.lookup.specs.Shows.{graph_below, IsNodeAt}
use Rattle.lookup.specs.declared.lookup.Lookup.{Lookup}
use Rattle.lookup.proofs.Looking.{free_same, graph_same}
use Rattle.lookup.specs.Extents.{full_size}
use Rattle.planning.specs.Writings.{AreKeptOn, file_writing, directory_writing, new_file, change_writings}
use Rattle.planning.specs.Changes.{addresses_in, gone_of, IsChangeRefused, IsChangeOf, IsChangeSeen, WritesFile}
use Rattle.lookup.proofs.Walks.{node_at, directory_stored}

-- nothing is written where nothing is done
pub nothing : (medium : Medium) (moment : ℕ) (code : Code) (change : Change) → IsChangeRefused code change → (change_writings medium moment change ≡ []) × (gone_of change ≡ []) × (change.made ≡ None) × (change.removed ≡ None)
nothing medium moment code change r =
    ((λ i. new_file medium moment (r.file i) ++ map directory_writing (r.directories i)), ap addresses_in r.removed, r.made, r.removed)

-- no file keeps nothing
pub none_kept : (medium : Medium) (o : Option NewFile) → o ≡ None → IfSome o (AreKeptOn medium)
none_kept medium None e = tt
none_kept medium (Some f) e = absurd cc

-- with the operation's code, which is not 0
pub refuses : {medium : Medium} (graph : Graph) (free : ℕ) (tree : Tree) (operation : Operation) (moment identity n : ℕ) (code : Code) (change : Change) → IsChangeRefused code change → code_number code ≡ suc n → code_of operation tree ≡ suc n → IsChangeOf medium graph free tree operation moment identity change
refuses {medium} graph free tree operation moment identity n code change r number is = record {
  code_is = ap code_number r.code_is ∙ (number ∙ sym is);
  done = λ none. let e : suc n ≡ 0 = sym is ∙ none in absurd (omega (arith, e));
  refused = λ some. nothing medium moment code change r;
  kept = none_kept medium change.file r.file;
}

not_done : (c : Code) → (c ≡ code.Done → ⊥) → code_number c ≡ 0 → ⊥
not_done code.Done apart e = apart refl
not_done code.NoParent apart e = absurd (omega (arith, e))
not_done code.NotFound apart e = absurd (omega (arith, e))
not_done code.Exists apart e = absurd (omega (arith, e))
not_done code.IsDirectory apart e = absurd (omega (arith, e))
not_done code.NotEmpty apart e = absurd (omega (arith, e))
not_done code.IntoItself apart e = absurd (omega (arith, e))
not_done code.Root apart e = absurd (omega (arith, e))
not_done code.TooDeep apart e = absurd (omega (arith, e))
not_done code.DirectoryFull apart e = absurd (omega (arith, e))
not_done code.TooMany apart e = absurd (omega (arith, e))

-- with a code that is another than the first
pub refuses_other : {medium : Medium} (graph : Graph) (free : ℕ) (tree : Tree) (operation : Operation) (moment identity : ℕ) (why : Code) (change : Change) → IsChangeRefused why change → (why ≡ code.Done → ⊥) → code_number why ≡ code_of operation tree → IsChangeOf medium graph free tree operation moment identity change
refuses_other {medium} graph free tree operation moment identity why change r apart same = record {
  code_is = ap code_number r.code_is ∙ same;
  done = λ none. absurd (not_done why apart (same ∙ none));
  refused = λ some. nothing medium moment why change r;
  kept = none_kept medium change.file r.file;
}

-- a file that keeps nothing
pub nothing_kept : (medium : Medium) (f : NewFile) → f.kept ≡ [] → AreKeptOn medium f
nothing_kept medium f none = record {
  within = subst (λ (xs : List ℕ). AreWithin medium (full_size xs) (all_firsts xs)) (sym none) refl;
  size = subst (λ (xs : List ℕ). length (bytes_in_extents medium (full_size xs) (all_firsts xs)) ≡ full_size xs) (sym none) refl;
}

-- what is kept is kept of a file that keeps the same
pub same_kept : (medium : Medium) (f g : NewFile) → f.kept ≡ g.kept → AreKeptOn medium f → AreKeptOn medium g
same_kept medium f g same kept = record {
  within = subst (λ (xs : List ℕ). AreWithin medium (full_size xs) (all_firsts xs)) same kept.within;
  size = subst (λ (xs : List ℕ). length (bytes_in_extents medium (full_size xs) (all_firsts xs)) ≡ full_size xs) same kept.size;
}

-- a file alone is written
pub file_alone : (medium : Medium) (moment : ℕ) {node : Node} {extents bytes : List ℕ} {change : Change} (w : WritesFile node extents bytes change) → change_writings medium moment change ≡ file_writing medium moment w.file ∷ []
file_alone medium moment w = λ i. new_file medium moment (w.file_is i) ++ map directory_writing (w.directories i)

abbrev pub replace_code : Bool → Bool → Bool → ℕ
replace_code empty there directory = if empty then 7 else (if not there then 2 else (if directory then 4 else 0))

pub replace_root : (path : Path) (bytes : List ℕ) (tree : Tree) → (length path == 0) ≡ true → code_of (Replace path bytes) tree ≡ 7
replace_root path bytes tree e = ap (λ (b : Bool). replace_code b (contains_key tree path) (is_directory_at tree path)) e

pub replace_missing : (path : Path) (bytes : List ℕ) (tree : Tree) → (length path == 0) ≡ false → get tree path ≡ None → code_of (Replace path bytes) tree ≡ 2
replace_missing path bytes tree some none =
    ap (λ (b : Bool). replace_code b (contains_key tree path) (is_directory_at tree path)) some
    ∙ ap (λ (b : Bool). replace_code false b (is_directory_at tree path)) (ap is_some none)

module _ (at : ℕ) (entries : List (Option ℕ)) (J : List Event) (tree : Tree) (is : IsTree tree) (makes : MakesTree (graph_below at entries J) tree) where
  pub there_at : (path : Path) (node : Node) → IsNodeAt (graph_below at entries J) path node → contains_key tree path ≡ true
  there_at path node here = ap is_some (node_at (graph_below at entries J) tree (stored_one udf exact (take at (held J)) entries) is makes path node here)

  pub directory_there : (path : Path) (node : Node) → IsNodeAt (graph_below at entries J) path node → is_directory_at tree path ≡ names_directory node.kind
  directory_there path node here = directory_stored (graph_below at entries J) tree (stored_one udf exact (take at (held J)) entries) is makes path node here

  replace_there : (path : Path) (node : Node) (b : Bool) → (length path == 0) ≡ false → IsNodeAt (graph_below at entries J) path node → names_directory node.kind ≡ b → (bytes : List ℕ) → code_of (Replace path bytes) tree ≡ (if b then 4 else 0)
  replace_there path node b some here kind bytes =
      ap (λ (e : Bool). replace_code e (contains_key tree path) (is_directory_at tree path)) some
      ∙ (ap (λ (e : Bool). replace_code false e (is_directory_at tree path)) (there_at path node here)
      ∙ ap (λ (e : Bool). replace_code false true e) (directory_there path node here ∙ kind))

  pub replace_directory : (path : Path) (node : Node) → (length path == 0) ≡ false → IsNodeAt (graph_below at entries J) path node → names_directory node.kind ≡ true → (bytes : List ℕ) → code_of (Replace path bytes) tree ≡ 4
  replace_directory path node some here kind bytes = replace_there path node true some here kind bytes

  -- the file is written anew
  pub replaces : {medium : Medium} (free moment identity : ℕ) (path : Path) (node : Node) (bytes : List ℕ) (change : Change) → (length path == 0) ≡ false → IsNodeAt (graph_below at entries J) path node → names_directory node.kind ≡ false
      → WritesFile node [] bytes change → IsChangeOf medium (graph_below at entries J) free tree (Replace path bytes) moment identity change
  replaces {medium} free moment identity path node bytes change some here kind w =
      let zero_code : code_of (Replace path bytes) tree ≡ 0 = replace_there path node false some here kind bytes in
      let gone : gone_of change ≡ [] = ap addresses_in w.removed in
      let writing : file_writing medium moment w.file ≡ record { address = here.found.address; kept = 0; firsts = []; stored = as_stored here.found.stored.identity moment (Bytes bytes) } =
      λ i. record {
        address = (w.address ∙ here.address) i;
        kept = full_size (w.kept i);
        firsts = all_firsts (w.kept i);
        stored = as_stored ((w.unique ∙ here.identity) i) moment (Bytes (bytes_in_extents medium (full_size (w.kept i)) (all_firsts (w.kept i)) ++ w.bytes_are i));
      } in
      record {
        code_is = ap code_number w.code ∙ sym zero_code;
        done = λ none. ((record { file = here.found; nodes_are = file_alone medium moment w ∙ ap (λ (x : Writing). x ∷ []) writing }, gone), w.made, w.removed);
        refused = λ other. absurd (other zero_code);
        kept = subst (λ (o : Option NewFile). IfSome o (AreKeptOn medium)) (sym w.file_is) (nothing_kept medium w.file w.kept);
      }

-- a change of what is seen after other calls is one of what was seen before them
pub change_seen : {D : Type 0} {drive : Ghosts D} {n : ℕ} {a b : Lookup D drive} → Looks drive n a b → (result : Result Change StoreFault) (tree : Tree) (operation : Operation) (moment identity : ℕ)
    → Answers result (IsChangeSeen drive b tree operation moment identity) → Answers result (IsChangeSeen drive a tree operation moment identity)
change_seen {D} {drive} {n} {a} {b} p result tree operation moment identity does =
    subst (λ (J : List Event). Answers result (IsChangeOf (held J) (graph_seen drive a) (free_seen a) tree operation moment identity)) p.reads.journal
    (subst (λ (G : Graph). Answers result (IsChangeOf (held (drive.journal b.drive.now)) G (free_seen a) tree operation moment identity)) (graph_same p)
    (subst (λ (free : ℕ). Answers result (IsChangeOf (held (drive.journal b.drive.now)) (graph_seen drive b) free tree operation moment identity)) (free_same p) does))
