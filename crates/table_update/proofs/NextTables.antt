-- The changes of a request make the table that its plan asks for.
use Rattle.std.proofs.Common.{◌≡◌, ◌⊎◌, inl, inr, ℕ, ◌+◌, ◌-◌, ◌<◌, ◌≤◌, ◌==◌, cond, ◌&&◌, Bool, true, false, List, [], ◌∷◌, ◌++◌, length, take, map, refl, sym, ap, ◌∙◌, subst, arith, eq-eqb}
use Rattle.std.specs.Prelude.{Option, Some, None, if◌then◌else◌}
use Rattle.std.proofs.lemmas.Bool.{ne_eqb}
use Rattle.std.proofs.lemmas.List.{length-take-le}
use Rattle.std.proofs.lemmas.Option.{slice_get_within}
use Rattle.limits.specs.declared.TheConstants.{PARTITION_START}
use Rattle.dir.specs.declared.entry.Kind.{Kind}
use Rattle.dir.specs.declared.entry.Kind.TheVariants.{File, Directory}
use Rattle.model.specs.Tree.{Path, Tree, parent_of, files_of, directories_of, is_directory_at}
use Rattle.model.specs.Operation.{Operation, code_of, done}
use Rattle.model.specs.Operation.Operation.{Create, Replace, Append, MakeDir, Rename, Remove}
use Rattle.model.specs.Session.{State, Request, after_one, with_reply, draws_identity}
use Rattle.model.specs.Addresses.{free_address}
use Rattle.model.specs.Graph.{Graph, Reach, is_directory}
use Rattle.model.specs.Change.{Found}
use Rattle.model.proofs.Operations.{counted}
use Rattle.model.proofs.Codes.{may_remove}
use Rattle.durability.specs.Formats.{Table_}
use Rattle.durability.specs.Volume.{Medium, RecoversTo, graph_of}
use Rattle.durability.specs.Plan.{Writing, Written, Plans, PlansRenaming, PlansMove, entries_after}
use Rattle.durability.proofs.Commits.{reached_used}
use Rattle.durability.proofs.Planned.{zero_or, tree_done, tree_refused}
use Rattle.durability.proofs.Tables.{least_within}
use Rattle.udf.specs.Udf.{udf}
use Rattle.udf.specs.Said.{model_record, model_table}
use Rattle.udf.specs.Words.{name_kind}
use Rattle.udf.proofs.Formats.{exact}
use Rattle.vat.specs.Table.{Table}
use Rattle.table_update.specs.declared.node.NewNode.{NewNode}
use Rattle.recover.specs.declared.node.Node.{Node}
use Rattle.table_update.specs.TableChange.{with_number, with_nodes, committed, with_node, removed}
use Rattle.table_update.specs.NextTable.{next_table, made_by, RemovesNode, ChangesVolume, planned_table, NextTablesFollow}
use Rattle.table_update.proofs.SaidRecords.{said_with_reply}
use Rattle.table_update.proofs.TableEntries.{all_entries, placed_alone, AreWithin, entries_written, entries_unused, entries_made}

-- ---- a request's table, by the tree after it

abbrev drawn : Bool → ℕ → ℕ
drawn b next = if b then next + 1 else next

module _ (S : State) (r : Request) where
  next_done : code_of r.operation S.tree ≡ 0 → drawn (draws_identity r.operation) S.next_identity ≡ (after_one S r).next_identity
  next_done e = go (draws_identity r.operation) (code_of r.operation S.tree == 0) (eq-eqb (code_of r.operation S.tree) 0 e)
    where
      go : (b c : Bool) → c ≡ true → drawn b S.next_identity ≡ (if b && c then S.next_identity + 1 else S.next_identity)
      go true c is = ap (λ (d : Bool). if d then S.next_identity + 1 else S.next_identity) (sym is)
      go false c is = refl

  next_refused : (code_of r.operation S.tree ≡ 0 → ⊥) → S.next_identity ≡ (after_one S r).next_identity
  next_refused other = go (draws_identity r.operation) (code_of r.operation S.tree == 0) (ne_eqb (code_of r.operation S.tree) 0 other)
    where
      go : (b c : Bool) → c ≡ false → S.next_identity ≡ (if b && c then S.next_identity + 1 else S.next_identity)
      go true c is = ap (λ (d : Bool). if d then S.next_identity + 1 else S.next_identity) (sym is)
      go false c is = refl

module _ (S : State) (r : Request) (at : ℕ) (t : Table) (commits : t.commits ≡ S.commits) (records : map model_record t.records ≡ S.records) where
  abbrev base : Table
  base = committed at r.client r.number (code_of r.operation S.tree) t

  pub records_are : map model_record base.records ≡ (after_one S r).records
  records_are =
      said_with_reply r.client r.number (record { code = code_of r.operation S.tree; commit = t.commits + 1 }) t.records
      ∙ (λ i. with_reply r.client r.number (record { code = code_of r.operation S.tree; commit = commits i + 1 }) (records i))

  -- what the plan asks for, with this tree and next identity after it
  abbrev asked : Tree → ℕ → List Written → List ℕ → Table_
  asked tree next written unused = record {
    label = t.label;
    previous = Some (at - PARTITION_START);
    files = files_of tree;
    directories = directories_of tree;
    next_identity = next;
    commits = (after_one S r).commits;
    records = (after_one S r).records;
    entries = entries_after t.entries written unused;
  }

  closing : (tree : Tree) (files directories next after : ℕ) (entries : List (Option ℕ)) (written : List Written) (unused : List ℕ)
      → files ≡ files_of tree → directories ≡ directories_of tree → next ≡ after → entries ≡ entries_after t.entries written unused
      → model_table (with_nodes files directories next entries base) ≡ asked tree after written unused
  closing tree files directories next after entries written unused f d n e = λ i. record {
    label = t.label;
    previous = Some (at - PARTITION_START);
    files = f i;
    directories = d i;
    next_identity = n i;
    commits = commits i + 1;
    records = records_are i;
    entries = e i;
  }

  -- no node is made and none goes
  plainly : (tree : Tree) (written : List Written) (unused : List ℕ) → t.files ≡ files_of tree → t.directories ≡ directories_of tree → t.next_unique ≡ S.next_identity
      → all_entries written t.entries ≡ entries_after t.entries written unused
      → model_table (next_table at r.client r.number (code_of r.operation S.tree) None written None t) ≡ asked tree S.next_identity written unused
  plainly tree written unused f d n e =
      ap model_table (placed_alone written base) ∙ closing tree t.files t.directories t.next_unique S.next_identity (all_entries written t.entries) written unused f d n e

  -- a file is made, or a directory
  with_file : (tree : Tree) (free : ℕ) (written : List Written) (unused : List ℕ) → t.files + 1 ≡ files_of tree → t.directories ≡ directories_of tree → t.next_unique + 1 ≡ S.next_identity + 1
      → all_entries written (with_number free (Some 0) t.entries) ≡ entries_after t.entries written unused
      → model_table (next_table at r.client r.number (code_of r.operation S.tree) (Some (record { kind = File; address = free })) written None t) ≡ asked tree (S.next_identity + 1) written unused
  with_file tree free written unused f d n e =
      ap model_table (placed_alone written (with_node File free 0 base))
      ∙ closing tree (t.files + 1) t.directories (t.next_unique + 1) (S.next_identity + 1) (all_entries written (with_number free (Some 0) t.entries)) written unused f d n e

  with_directory : (tree : Tree) (free : ℕ) (written : List Written) (unused : List ℕ) → t.files ≡ files_of tree → t.directories + 1 ≡ directories_of tree → t.next_unique + 1 ≡ S.next_identity + 1
      → all_entries written (with_number free (Some 0) t.entries) ≡ entries_after t.entries written unused
      → model_table (next_table at r.client r.number (code_of r.operation S.tree) (Some (record { kind = Directory; address = free })) written None t) ≡ asked tree (S.next_identity + 1) written unused
  with_directory tree free written unused f d n e =
      ap model_table (placed_alone written (with_node Directory free 0 base))
      ∙ closing tree t.files (t.directories + 1) (t.next_unique + 1) (S.next_identity + 1) (all_entries written (with_number free (Some 0) t.entries)) written unused f d n e

  -- a file goes, or a directory
  without_node : (tree : Tree) (directory : Bool) (node : Node) (written : List Written) (unused : List ℕ) → node.kind ≡ name_kind directory
      → files_of tree + cond directory 0 1 ≡ t.files → directories_of tree + cond directory 1 0 ≡ t.directories → t.next_unique ≡ S.next_identity
      → with_number node.address None (all_entries written t.entries) ≡ entries_after t.entries written unused
      → model_table (next_table at r.client r.number (code_of r.operation S.tree) None written (Some node) t) ≡ asked tree S.next_identity written unused
  without_node tree directory node written unused kind f d n e =
      ap (λ (x : Table). model_table (removed node.kind node.address x)) (placed_alone written base)
      ∙ ap (λ (k : Kind). model_table (removed k node.address (with_nodes t.files t.directories t.next_unique (all_entries written t.entries) base))) kind
      ∙ go directory f d
    where
      go : (b : Bool) → files_of tree + cond b 0 1 ≡ t.files → directories_of tree + cond b 1 0 ≡ t.directories
          → model_table (removed (name_kind b) node.address (with_nodes t.files t.directories t.next_unique (all_entries written t.entries) base)) ≡ asked tree S.next_identity written unused
      go true g h = closing tree t.files (t.directories - 1) t.next_unique S.next_identity (with_number node.address None (all_entries written t.entries)) written unused (omega (arith, g)) (omega (arith, h)) n e
      go false g h = closing tree (t.files - 1) t.directories t.next_unique S.next_identity (with_number node.address None (all_entries written t.entries)) written unused (omega (arith, g)) (omega (arith, h)) n e

-- ---- by the operation

pub three_within : (size : ℕ) (b : Bool) (x y z : Writing) → x.address < size → y.address < size → z.address < size → AreWithin size (map (λ n. n.address) ((if b then x ∷ [] else []) ++ y ∷ z ∷ []))
three_within size true x y z p q s = (p, (q, (s, tt)))
three_within size false x y z p q s = (q, (s, tt))

module _ (capacity volume : ℕ) (medium : Medium) (S : State) (stands : RecoversTo udf capacity volume medium S) (r : Request) (t : Table) (is : model_table t ≡ stands.tells.table) where
  abbrev pub graph : Graph
  graph = graph_of udf (take stands.at medium) stands.tells.table.entries

  abbrev pub free : ℕ
  free = free_address stands.tells.table.entries

  pub commits : t.commits ≡ S.commits
  commits = ap (λ (b : Table_). b.commits) is ∙ stands.tells.commits

  pub records : map model_record t.records ≡ S.records
  records = ap (λ (b : Table_). b.records) is ∙ stands.tells.records

  next_is : t.next_unique ≡ S.next_identity
  next_is = ap (λ (b : Table_). b.next_identity) is ∙ stands.tells.next_identity

  pub files : t.files ≡ files_of S.tree
  files = ap (λ (b : Table_). b.files) is ∙ stands.tells.files

  pub directories : t.directories ≡ directories_of S.tree
  directories = ap (λ (b : Table_). b.directories) is ∙ stands.tells.directories

  pub entries_are : t.entries ≡ stands.tells.table.entries
  entries_are = ap (λ (b : Table_). b.entries) is

  pub long : length t.entries ≡ length stands.tells.table.entries
  long = ap (λ (es : List (Option ℕ)). length es) entries_are

  -- what is stored lies within the table
  pub stored_within : (address : ℕ) (s : _) → graph address s → address < length t.entries
  stored_within address s there = omega (arith, long, slice_get_within stands.tells.table.entries address (Some there.number) there.used)

  pub within : (path : Path) (f : Found graph path) → f.address < length t.entries
  within path f = stored_within f.address f.stored f.is

  pub free_within : free ≤ length t.entries
  free_within =
      let root = reached_used udf capacity volume exact medium S stands 1 ([], refl) in
      let two : 1 < length stands.tells.table.entries = slice_get_within stands.tells.table.entries 1 (Some root.0) root.1 in
      omega (arith, long, least_within stands.tells.table.entries (omega arith))

  abbrev wanted : Tree → ℕ → List Written → List ℕ → Table_
  wanted tree next written unused = asked S r stands.at t commits records tree next written unused

  abbrev made_table : Option NewNode → List Written → Option Node → Table_
  made_table made written taken = model_table (next_table stands.at r.client r.number (code_of r.operation S.tree) made written taken t)

  abbrev afterwards : Operation → Tree
  afterwards op = done op r.moment S.next_identity S.tree

  -- the same node made and gone
  by_these : (made made' : Option NewNode) (taken taken' : Option Node) (written : List Written) (u : Table_) → made ≡ made' → taken ≡ taken' → made_table made' written taken' ≡ u → made_table made written taken ≡ u
  by_these made made' taken taken' written u m g e = ap (λ (x : Option NewNode). made_table x written taken) m ∙ ap (λ (x : Option Node). made_table made' written x) g ∙ e

  unused_none : (written : List Written) (unused : List ℕ) (xs : List (Option ℕ)) → unused ≡ [] → xs ≡ entries_after t.entries written [] → xs ≡ entries_after t.entries written unused
  unused_none written unused xs none e = e ∙ ap (λ (us : List ℕ). entries_after t.entries written us) (sym none)

  pub addresses_by : (written : List Written) (nodes these : List Writing) → map (λ w. w.address) written ≡ map (λ n. n.address) nodes → nodes ≡ these → map (λ w. w.address) written ≡ map (λ n. n.address) these
  addresses_by written nodes these e same = e ∙ ap (λ (ns : List Writing). map (λ n. n.address) ns) same

  -- where no node is made and none goes
  plain : (op : Operation) (nodes : List Writing) (unused : List ℕ) (written : List Written) → code_of op S.tree ≡ 0 → files_of (afterwards op) ≡ files_of S.tree → directories_of (afterwards op) ≡ directories_of S.tree
      → map (λ w. w.address) written ≡ map (λ n. n.address) nodes → unused ≡ [] → AreWithin (length t.entries) (map (λ n. n.address) nodes)
      → made_table None written None ≡ wanted (afterwards op) S.next_identity written unused
  plain op nodes unused written e f d addresses none all =
      plainly S r stands.at t commits records (afterwards op) written unused (files ∙ sym f) (directories ∙ sym d) next_is
      (unused_none written unused (all_entries written t.entries) none (entries_written written (map (λ n. n.address) nodes) addresses t.entries all))

  move_within : (from to : Path) (nodes : List Writing) → PlansMove graph from to r.moment nodes → AreWithin (length t.entries) (map (λ n. n.address) nodes)
  move_within from to nodes plan =
      subst (λ (ns : List Writing). AreWithin (length t.entries) (map (λ n. n.address) ns)) (sym plan.nodes_are)
      (three_within (length t.entries) (is_directory plan.stored) _ _ _ (stored_within plan.moved.address plan.stored plan.there) (within (parent_of from) plan.above) (within (parent_of to) plan.beyond))

  pub rename_within : (from to : Path) (nodes : List Writing) → PlansRenaming graph from to r.moment nodes ⊎ PlansMove graph from to r.moment nodes → AreWithin (length t.entries) (map (λ n. n.address) nodes)
  rename_within from to nodes (inl plan) = subst (λ (ns : List Writing). AreWithin (length t.entries) (map (λ n. n.address) ns)) (sym plan.nodes_are) (within (parent_of from) plan.above, tt)
  rename_within from to nodes (inr plan) = move_within from to nodes plan

  -- what goes is not the directory above it
  pub apart_above : (path : Path) (above : Found graph (parent_of path)) (node : Found graph path) → 0 < length path → node.address ≡ above.address → ⊥
  apart_above path above node named e =
      let same : path ≡ parent_of path = stands.tells.makes.one_path path (parent_of path) above.address (subst (λ (a : ℕ). Reach graph path a) e node.reach) above.reach in
      omega (arith, named, ap (λ (p : Path). length p) same, length-take-le (length path - 1) path (omega arith))

  follows : (op : Operation) (nodes : List Writing) (unused : List ℕ) (written : List Written) (made : Option NewNode) (taken : Option Node) → code_of op S.tree ≡ 0
      → map (λ w. w.address) written ≡ map (λ n. n.address) nodes → Plans graph free op r.moment S.next_identity nodes unused → made ≡ made_by op free → RemovesNode op S.tree unused taken
      → made_table made written taken ≡ wanted (afterwards op) (drawn (draws_identity op) S.next_identity) written unused
  follows (Create path bytes) nodes unused written made taken e addresses (plan, none) m g =
      let c = counted (Create path bytes) r.moment S.next_identity S.tree stands.tells.tree e in
      by_these made _ taken None written _ m g
      (with_file S r stands.at t commits records (afterwards (Create path bytes)) free written unused (omega (arith, c.files, files)) (omega (arith, c.directories, directories)) (omega (arith, next_is))
      (unused_none written unused _ none (entries_made written free (plan.above.address ∷ []) (addresses_by written nodes _ addresses plan.nodes_are) t.entries free_within (within (parent_of path) plan.above, tt))))
  follows (MakeDir path) nodes unused written made taken e addresses (plan, none) m g =
      let c = counted (MakeDir path) r.moment S.next_identity S.tree stands.tells.tree e in
      by_these made _ taken None written _ m g
      (with_directory S r stands.at t commits records (afterwards (MakeDir path)) free written unused (omega (arith, c.files, files)) (omega (arith, c.directories, directories)) (omega (arith, next_is))
      (unused_none written unused _ none (entries_made written free (plan.above.address ∷ []) (addresses_by written nodes _ addresses plan.nodes_are) t.entries free_within (within (parent_of path) plan.above, tt))))
  follows (Replace path bytes) nodes unused written made taken e addresses (plan, none) m g =
      let c = counted (Replace path bytes) r.moment S.next_identity S.tree stands.tells.tree e in
      by_these made None taken None written _ m g
      (plain (Replace path bytes) nodes unused written e (omega (arith, c.files)) (omega (arith, c.directories)) addresses none
      (subst (λ (ns : List Writing). AreWithin (length t.entries) (map (λ n. n.address) ns)) (sym plan.nodes_are) (within path plan.file, tt)))
  follows (Append path offset bytes) nodes unused written made taken e addresses (plan, none) m g =
      let c = counted (Append path offset bytes) r.moment S.next_identity S.tree stands.tells.tree e in
      by_these made None taken None written _ m g
      (plain (Append path offset bytes) nodes unused written e (omega (arith, c.files)) (omega (arith, c.directories)) addresses none
      (subst (λ (ns : List Writing). AreWithin (length t.entries) (map (λ n. n.address) ns)) (sym plan.nodes_are) (within path plan.file, tt)))
  follows (Rename from to) nodes unused written made taken e addresses (plan, none) m g =
      let c = counted (Rename from to) r.moment S.next_identity S.tree stands.tells.tree e in
      by_these made None taken None written _ m g
      (plain (Rename from to) nodes unused written e (omega (arith, c.files)) (omega (arith, c.directories)) addresses none (rename_within from to nodes plan))
  follows (Remove path) nodes unused written made taken e addresses plan m (node, g, u, kind) =
      let c = counted (Remove path) r.moment S.next_identity S.tree stands.tells.tree e in
      let may = may_remove path S.tree e in
      let same : plan.node.address ≡ node.address = head_same (sym plan.gone_is ∙ u) in
      let there : node.address < length t.entries = omega (arith, within path plan.node, same) in
      by_these made None taken (Some node) written _ m g
      (without_node S r stands.at t commits records (afterwards (Remove path)) (is_directory_at S.tree path) node written unused kind
      (removed_files (is_directory_at S.tree path) (files_of (afterwards (Remove path))) c.files) (c.directories ∙ sum_zero directories) next_is
      (entries_unused written (plan.above.address ∷ []) (addresses_by written nodes _ addresses plan.nodes_are) t.entries node.address there (within (parent_of path) plan.above, tt)
      ((λ same_address. apart_above path plan.above plan.node may.named (same ∙ same_address)), tt) ∙ ap (λ (us : List ℕ). entries_after t.entries written us) (sym u)))
    where
      head_same : {a b : ℕ} → a ∷ [] ≡ b ∷ [] → a ≡ b
      head_same q = cc

      sum_zero : {m n : ℕ} → m ≡ n → n + 0 ≡ m
      sum_zero q = omega (arith, q)

      removed_files : (b : Bool) (n : ℕ) → n + cond b 0 1 ≡ files_of S.tree + 0 → n + cond b 0 1 ≡ t.files
      removed_files b n q = q ∙ sum_zero files

  -- nothing is written
  none_written : (written : List Written) → map (λ w. w.address) written ≡ [] → written ≡ []
  none_written [] e = refl
  none_written (w ∷ written) e = absurd (cc)

  abbrev planned : List Written → List ℕ → Table_
  planned written unused = planned_table S r stands.at stands.tells.table written unused

  -- the tree and the next identity after the request, and the table before it
  as_planned : (tree : Tree) (next : ℕ) (written : List Written) (unused : List ℕ) → (after_one S r).tree ≡ tree → next ≡ (after_one S r).next_identity → wanted tree next written unused ≡ planned written unused
  as_planned tree next written unused e n =
      (λ i. wanted (sym e i) (n i) written unused) ∙ ap (λ (b : Table_). planned_table S r stands.at b written unused) is

  pub next_follows : (nodes : List Writing) (unused : List ℕ) (written : List Written) (made : Option NewNode) (taken : Option Node) → ChangesVolume capacity volume medium S stands r nodes unused written made taken
      → made_table made written taken ≡ planned written unused
  next_follows nodes unused written made taken h = elim (zero_or (code_of r.operation S.tree)) [ inl e ↦ when_done e | inr other ↦ when_refused other ]
    where
      when_done : code_of r.operation S.tree ≡ 0 → made_table made written taken ≡ planned written unused
      when_done e =
          let d = h.done e in
          follows r.operation nodes unused written made taken e h.addresses d.0 d.1 d.2
          ∙ as_planned (afterwards r.operation) (drawn (draws_identity r.operation) S.next_identity) written unused (tree_done r.operation r.moment S.next_identity S.tree e) (next_done S r e)

      when_refused : (code_of r.operation S.tree ≡ 0 → ⊥) → made_table made written taken ≡ planned written unused
      when_refused other =
          let d = h.refused other in
          let none : written ≡ [] = none_written written (h.addresses ∙ ap (λ (ns : List Writing). map (λ n. n.address) ns) d.0) in
          by_these made None taken None written _ d.2 d.3
          (plainly S r stands.at t commits records S.tree written unused files directories next_is
          ((λ i. all_entries (none i) t.entries) ∙ (λ i. entries_after t.entries (sym none i) (sym d.1 i))))
          ∙ as_planned S.tree S.next_identity written unused (tree_refused r.operation r.moment S.next_identity S.tree other) (next_refused S r other)

pub next_tables_follow : NextTablesFollow
next_tables_follow capacity volume medium S stands r nodes unused written made taken t is h = next_follows capacity volume medium S stands r t is nodes unused written made taken h
