-- What is computed from the sizes of a change is what its request may need.
use Rattle.std.proofs.Common.{◌≡◌, inl, inr, ℕ, ◌+◌, ◌*◌, Bool, List, [], ◌∷◌, ◌++◌, length, refl, sym, ap, ◌∙◌, arith, eq-eqb}
use Rattle.std.specs.Prelude.{Option, Some, None, if◌then◌else◌}
use Rattle.std.proofs.lemmas.Bool.{ne_eqb}
use Rattle.model.specs.Tree.{Name, Tree}
use Rattle.model.specs.Operation.{code_of, done}
use Rattle.model.specs.Session.{State, Request, after_one}
use Rattle.model.specs.Graph.{Body}
use Rattle.model.specs.Graph.Body.{Bytes, Entries}
use Rattle.durability.specs.Volume.{Medium, blocks_for, RecoversTo}
use Rattle.durability.specs.Plan.{Writing, Written}
use Rattle.durability.specs.Commit.{most_for_append, most_for_directory, most_for_nodes, most_for_table, table_size, need}
use Rattle.durability.proofs.Needs.{append_most, most_for_kept, most_for_all, nodes_need}
use Rattle.durability.proofs.Planned.{zero_or, tree_done}
use Rattle.udf.specs.Udf.{udf, spelled_length}
use Rattle.udf.proofs.Formats.{exact, bounded, distinct, short}
use Rattle.table_update.specs.declared.node.NewNode.{NewNode}
use Rattle.recover.specs.declared.node.Node.{Node}
use Rattle.table_update.specs.NextTable.{ChangesVolume}
use Rattle.table_update.specs.Need.{FileData, EndsWith, most_for_bytes, most_for_directories, HasNames, AreDirectories, AreOf, NeedIsComputed}
use Rattle.table_update.proofs.NextSizes.{next_tables_are_long}

body_names : (kept : ℕ) (body : Body) (names : List Name) → HasNames body names → most_for_kept udf spelled_length short kept body ≡ most_for_directory spelled_length names
body_names kept (Bytes bytes) names h = absurd h
body_names kept (Entries parent entries) names h = ap (λ (ns : List Name). most_for_directory spelled_length ns) h

directories_most : (directories : List (List Name)) (nodes : List Writing) → AreDirectories directories nodes → most_for_all udf spelled_length short nodes ≡ most_for_directories directories
directories_most [] [] h = refl
directories_most [] (node ∷ nodes) h = absurd h
directories_most (names ∷ directories) [] h = absurd h
directories_most (names ∷ directories) (node ∷ nodes) h = λ i. body_names node.kept node.stored.body names h.0 i + directories_most directories nodes h.1 i

-- a file takes at most what is computed of the bytes that are written
file_most : (file : FileData) (node : Writing) → EndsWith file node → most_for_kept udf spelled_length short node.kept node.stored.body ≡ most_for_append file.kept (length file.bytes)
file_most file node h =
    ap (λ (body : Body). most_for_kept udf spelled_length short node.kept body) h.body
    ∙ ap (λ (kept : ℕ). most_for_kept udf spelled_length short kept (Bytes (h.front ++ file.bytes))) h.kept
    ∙ append_most file.kept h.front file.bytes h.size

-- the nodes take at most what is computed of the file and the directories
nodes_most : (file : Option FileData) (directories : List (List Name)) (nodes : List Writing) → AreOf file directories nodes → most_for_all udf spelled_length short nodes ≡ most_for_bytes file + most_for_directories directories
nodes_most None directories nodes h = directories_most directories nodes h ∙ none_more (most_for_directories directories)
  where
    none_more : (n : ℕ) → n ≡ 0 + n
    none_more n = omega arith
nodes_most (Some file) directories [] h = absurd h
nodes_most (Some file) directories (node ∷ nodes) h = λ i. file_most file node h.0 i + directories_most directories nodes h.1 i

module _ (capacity volume : ℕ) (medium : Medium) (S : State) (stands : RecoversTo udf capacity volume medium S) (r : Request) where
  abbrev chosen : Bool → ℕ
  chosen b = (if b then most_for_nodes spelled_length r.operation (after_one S r).tree else 0) + most_for_table (after_one S r)

  -- the nodes of the request, by whether it is refused
  nodes_chosen : (nodes : List Writing) (unused : List ℕ) (written : List Written) (made : Option NewNode) (taken : Option Node) → ChangesVolume capacity volume medium S stands r nodes unused written made taken
      → most_for_all udf spelled_length short nodes + most_for_table (after_one S r) ≡ need spelled_length S r
  nodes_chosen nodes unused written made taken h = elim (zero_or (code_of r.operation S.tree)) [ inl e ↦ when_done e | inr other ↦ when_refused other ]
    where
      when_done : code_of r.operation S.tree ≡ 0 → most_for_all udf spelled_length short nodes + most_for_table (after_one S r) ≡ need spelled_length S r
      when_done e =
          let tree : done r.operation r.moment S.next_identity S.tree ≡ (after_one S r).tree = sym (tree_done r.operation r.moment S.next_identity S.tree e) in
          let most : most_for_all udf spelled_length short nodes ≡ most_for_nodes spelled_length r.operation (after_one S r).tree =
          nodes_need udf spelled_length short capacity volume exact bounded distinct medium S stands r r.operation nodes unused e (h.done e).0 ∙ ap (λ (t : Tree). most_for_nodes spelled_length r.operation t) tree in
          ap (λ (n : ℕ). n + most_for_table (after_one S r)) most ∙ ap chosen (sym (eq-eqb (code_of r.operation S.tree) 0 e))

      when_refused : (code_of r.operation S.tree ≡ 0 → ⊥) → most_for_all udf spelled_length short nodes + most_for_table (after_one S r) ≡ need spelled_length S r
      when_refused other =
          ap (λ (ns : List Writing). most_for_all udf spelled_length short ns + most_for_table (after_one S r)) (h.refused other).0
          ∙ ap chosen (sym (ne_eqb (code_of r.operation S.tree) 0 other))

pub need_is_reckoned : NeedIsComputed
need_is_reckoned capacity volume medium S stands r nodes unused written made taken t file directories is h these =
    let long = next_tables_are_long capacity volume medium S stands r nodes unused written made taken t is h in
    (λ i. sym (nodes_most file directories nodes these) i + (2 * blocks_for (table_size (long.records i) (long.entries i)) + 1))
    ∙ nodes_chosen capacity volume medium S stands r nodes unused written made taken h
