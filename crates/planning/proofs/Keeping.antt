-- What stays of a file is where its entry says that its bytes are.
use Rattle.std.proofs.Common.{◌≡◌, ◌⊎◌, inl, inr, ℕ, zero, suc, ◌%◌, Bool, true, false, if◌then◌else◌, List, [], ◌∷◌, ◌++◌, map, Option, refl, sym, ◌∙◌, ap, subst, arith}
use Rattle.limits.specs.declared.TheConstants.{FILE_BYTES}
use Rattle.model.specs.Tree.{Path, Tree}
use Rattle.model.specs.Graph.{Graph, is_directory}
use Rattle.model.specs.Graph.Body.{Bytes}
use Rattle.model.specs.Operation.{Operation, code_of}
use Rattle.model.specs.Operation.Operation.{Create, Replace, Append, MakeDir, Rename, Remove}
use Rattle.drive.specs.Journal.{held}
use Rattle.drive.specs.declared.Drive.{Ghosts}
use Rattle.durability.specs.Volume.{Medium}
use Rattle.durability.specs.Plan.{KeepPlaces, Plans, PlansMove, PlansRenaming, Writing}
use Rattle.recover.specs.declared.node.Node.{Node}
use Rattle.request.specs.declared.answer.Code.{Code}
use Rattle.lookup.specs.Ends.{EndsAsStored, KnowsExtents}
use Rattle.lookup.specs.Extents.{full_size}
use Rattle.lookup.specs.Lookups.{Looks, below_seen, graph_seen}
use Rattle.lookup.specs.Shows.{IsNodeAt}
use Rattle.lookup.specs.declared.end.FileEnd.{FileEnd}
use Rattle.lookup.specs.declared.lookup.Lookup.{Lookup}
use Rattle.lookup.specs.declared.nodes.Nodes.{Nodes}
use Rattle.lookup.proofs.Looking.{below_same}
use Rattle.udf.specs.Udf.{all_firsts, udf}
use Rattle.planning.specs.Changes.{IsChangeOf, IsChangeRefused, KeepsSeen, WritesFile}
use Rattle.planning.specs.Writings.{change_writings, directory_writing, new_file}
use Rattle.planning.specs.declared.change.Change.{Change}
use Rattle.planning.proofs.Replacing.{file_alone}

-- nothing stays of what the nodes were
abbrev NoneKept : List Writing → Type 0
NoneKept [] = Unit {0}
NoneKept (node ∷ nodes) = (node.kept ≡ 0) × NoneKept nodes

none_kept : (below : Medium) (table : List (Option ℕ)) (nodes : List Writing) → NoneKept nodes → KeepPlaces udf below table nodes
none_kept below table [] none = tt
none_kept below table (node ∷ nodes) none = ((λ some. absurd (omega (arith, none.0, some))), none_kept below table nodes none.1)

-- no bytes are appended
abbrev pub IsCalm : Operation → Type 0
IsCalm (Append path offset bytes) = ⊥
IsCalm other = Unit {0}

moved_none : (b : Bool) (x y z : Writing) → x.kept ≡ 0 → y.kept ≡ 0 → z.kept ≡ 0 → NoneKept ((if b then x ∷ [] else []) ++ y ∷ z ∷ [])
moved_none true x y z one two three = (one, (two, (three, tt)))
moved_none false x y z one two three = (two, (three, tt))

renamed_none : (graph : Graph) (from to : Path) (moment : ℕ) (nodes : List Writing) → PlansRenaming graph from to moment nodes ⊎ PlansMove graph from to moment nodes → NoneKept nodes
renamed_none graph from to moment nodes (inl p) = subst NoneKept (sym p.nodes_are) (refl, tt)
renamed_none graph from to moment nodes (inr p) = subst NoneKept (sym p.nodes_are) (moved_none (is_directory p.stored) _ _ _ refl refl refl)

plans_none : (graph : Graph) (free : ℕ) (operation : Operation) (moment identity : ℕ) (nodes : List Writing) (gone : List ℕ) → IsCalm operation → Plans graph free operation moment identity nodes gone → NoneKept nodes
plans_none graph free (Create path bytes) moment identity nodes gone calm p = subst NoneKept (sym p.0.nodes_are) (refl, (refl, tt))
plans_none graph free (MakeDir path) moment identity nodes gone calm p = subst NoneKept (sym p.0.nodes_are) (refl, (refl, tt))
plans_none graph free (Replace path bytes) moment identity nodes gone calm p = subst NoneKept (sym p.0.nodes_are) (refl, tt)
plans_none graph free (Append path offset bytes) moment identity nodes gone calm p = absurd calm
plans_none graph free (Rename from to) moment identity nodes gone calm p = renamed_none graph from to moment nodes p.0
plans_none graph free (Remove path) moment identity nodes gone calm p = subst NoneKept (sym p.nodes_are) (refl, tt)

-- so it is with what other operations write
pub calm_keeps : (below : Medium) (table : List (Option ℕ)) (medium : Medium) (graph : Graph) (free : ℕ) (tree : Tree) (operation : Operation) (moment identity : ℕ) (change : Change) → IsCalm operation
    → IsChangeOf medium graph free tree operation moment identity change → KeepPlaces udf below table (change_writings medium moment change)
calm_keeps below table medium graph free tree operation moment identity change calm does = go (code_of operation tree) refl
  where
    go : (code : ℕ) → code_of operation tree ≡ code → KeepPlaces udf below table (change_writings medium moment change)
    go zero is = none_kept below table (change_writings medium moment change) (plans_none graph free operation moment identity (change_writings medium moment change) _ calm (does.done is).0)
    go (suc code) is = subst (KeepPlaces udf below table) (sym (does.refused (λ zero_code. omega (arith, is, zero_code))).0) tt

-- and with what is refused
pub refused_keeps : (below : Medium) (table : List (Option ℕ)) (medium : Medium) (moment : ℕ) (code : Code) (change : Change) → IsChangeRefused code change → KeepPlaces udf below table (change_writings medium moment change)
refused_keeps below table medium moment code change r =
    subst (KeepPlaces udf below table) (sym (λ i. new_file medium moment (r.file i) ++ map directory_writing (r.directories i))) tt

-- a file that gets bytes keeps those that it has
pub append_keeps : {D : Type 0} {drive : Ghosts D} {n : ℕ} {a b : Lookup D drive} → Looks drive n a b → (path : Path) (node : Node) (here : IsNodeAt (graph_seen drive a) path node) → is_directory here.found.stored ≡ false
    → (whole : List ℕ) → here.found.stored.body ≡ Bytes whole → (end : FileEnd) → EndsAsStored (below_seen drive b) b.nodes.numbers.now node.address end → KnowsExtents end → end.size % FILE_BYTES ≡ 0
    → (moment : ℕ) (bytes : List ℕ) (change : Change) → WritesFile node end.extents bytes change → KeepsSeen drive a moment change
append_keeps {D} {drive} {n} {a} {b} p path node here file whole body end ends knows filled moment bytes change w =
    let numbers : b.nodes.numbers.now ≡ a.nodes.numbers.now = ap (λ (nodes : Nodes). nodes.numbers.now) p.nodes in
    let seen : EndsAsStored (below_seen drive a) a.nodes.numbers.now node.address end =
    subst (λ (table : List (Option ℕ)). EndsAsStored (below_seen drive a) table node.address end) numbers
    (subst (λ (M : Medium). EndsAsStored M b.nodes.numbers.now node.address end) (below_same p) ends) in
    let placed = subst (λ (address : ℕ). EndsAsStored (below_seen drive a) a.nodes.numbers.now address end) here.address seen here.found.stored here.found.is file in
    let full : full_size w.file.kept ≡ end.size = ap full_size w.kept ∙ knows.full filled in
    subst (KeepPlaces udf (below_seen drive a) a.nodes.numbers.now) (sym (file_alone (held (drive.journal a.drive.now)) moment w)) (
      λ some. (
        path,
        here.found,
        whole,
        sym (w.address ∙ here.address),
        body,
        sym (full ∙ placed.size),
        ap all_firsts w.kept ∙ placed.firsts (omega (arith, full, some)) filled,
      ),
      tt,
    )
