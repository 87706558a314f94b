-- At the recovered state each change of a request's table finds what it asks for.
use Rattle.std.proofs.Common.{◌≡◌, ◌⊎◌, inl, inr, ℕ, zero, suc, ◌+◌, ◌<◌, ◌≤◌, cond, Bool, true, false, List, [], ◌∷◌, ◌++◌, length, map, slice_get, get_or, refl, sym, ap, ◌∙◌, subst, arith}
use Rattle.std.specs.Prelude.{Option, Some, None, if◌then◌else◌}
use Rattle.std.specs.FinMap.{get, len}
use Rattle.std.proofs.lemmas.Bool.{false≢true}
use Rattle.std.proofs.lemmas.Option.{slice_get_within, slice_get-get_or}
use Rattle.limits.specs.declared.TheConstants.{NODES}
use Rattle.dir.specs.declared.entry.Kind.{Kind}
use Rattle.dir.specs.declared.entry.Kind.TheVariants.{File, Directory}
use Rattle.model.specs.Tree.{Path, Tree, Content, parent_of, found_directory, is_directory_at, directories_of, files_of}
use Rattle.model.specs.Operation.{Operation, code_of, done}
use Rattle.model.specs.Operation.Operation.{Create, Replace, Append, MakeDir, Rename, Remove}
use Rattle.model.specs.Session.{State, Request}
use Rattle.model.specs.Graph.{Graph, Reach, is_directory}
use Rattle.model.specs.Tree as trees
use Rattle.model.specs.Change.{Found}
use Rattle.model.proofs.Codes.{may_add, may_remove}
use Rattle.model.proofs.Counts.{one, directories-total, total-remove}
use Rattle.model.proofs.Operations.{Counted, counted, kept}
use Rattle.durability.specs.Volume.{Medium, RecoversTo}
use Rattle.durability.specs.Plan.{Writing, Written, Plans, PlansAddition, PlansMove, PlansRenaming}
use Rattle.durability.proofs.Commits.{reached_used}
use Rattle.durability.proofs.Planned.{zero_or, above_zero}
use Rattle.durability.proofs.Tables.{full_table, unused_least}
use Rattle.udf.specs.Udf.{udf}
use Rattle.udf.specs.Said.{model_table}
use Rattle.udf.specs.Words.{name_kind}
use Rattle.udf.proofs.Formats.{exact, distinct}
use Rattle.vat.specs.Table.{Table}
use Rattle.table_update.specs.declared.node.NewNode.{NewNode}
use Rattle.recover.specs.declared.node.Node.{Node}
use Rattle.recover.specs.Below.{IsUsed}
use Rattle.table_update.specs.TableChange.{with_node, with_number, with_nodes, committed, CountsNode, IsFree, IsRemovable}
use Rattle.table_update.specs.NextTable.{made_by, RemovesNode, ChangesVolume, AreUsed, AreTaken, ChangesAreTaken}
use Rattle.table_update.proofs.EntryChanges.{entry_there}
use Rattle.table_update.proofs.NodeChanges.{still_used}
use Rattle.table_update.proofs.TableEntries.{all_entries, placed_alone, below_or_at}
use Rattle.table_update.proofs.NextSizes.{count_used}
use Rattle.table_update.proofs.NextTables.{graph, files, directories, entries_are, free, free_within, addresses_by}

-- the root is a directory
some_directory : (tree : Tree) → is_directory_at tree [] ≡ true → 1 ≤ directories_of tree
some_directory tree root = go (get tree []) refl root
  where
    go : (o : Option trees.Node) → get tree [] ≡ o → found_directory o ≡ true → 1 ≤ directories_of tree
    go None at r = absurd (false≢true r)
    go (Some node) at r = omega (arith, total-remove (λ n. trees.is_directory n) tree [] node at, directories-total tree, ap one r)

-- each address of a list leads somewhere
abbrev AllUsed : List (Option ℕ) → List ℕ → Type 0
AllUsed xs [] = Unit {0}
AllUsed xs (address ∷ addresses) = IsUsed address xs × AllUsed xs addresses

used_within : (xs : List (Option ℕ)) (i : ℕ) → IsUsed i xs → i ≤ length xs
used_within xs i used = omega (arith, slice_get_within xs i (Some used.0) used.1)

all_still : (addresses : List ℕ) (xs : List (Option ℕ)) (i number : ℕ) → i ≤ length xs → AllUsed xs addresses → AllUsed (with_number i (Some number) xs) addresses
all_still [] xs i number le all = tt
all_still (address ∷ addresses) xs i number le all = (still_used xs i address number le all.0, all_still addresses xs i number le all.1)

used_in_turn : (written : List Written) (addresses : List ℕ) → map (λ w. w.address) written ≡ addresses → (xs : List (Option ℕ)) → AllUsed xs addresses → AreUsed written xs
used_in_turn [] addresses e xs all = tt
used_in_turn (w ∷ written) [] e xs all = absurd (cc)
used_in_turn (w ∷ written) (address ∷ addresses) e xs all =
    let head : w.address ≡ address = cc in
    let tail : map (λ v. v.address) written ≡ addresses = cc in
    let here : IsUsed w.address xs = subst (λ (n : ℕ). IsUsed n xs) (sym head) all.0 in
    (here, used_in_turn written addresses tail (with_number w.address (Some w.number) xs) (all_still addresses xs w.address w.number (used_within xs w.address here) all.1))

stays_used : (written : List Written) (addresses : List ℕ) → map (λ w. w.address) written ≡ addresses → (k : ℕ) (xs : List (Option ℕ)) → AllUsed xs addresses → IsUsed k xs → IsUsed k (all_entries written xs)
stays_used [] addresses e k xs all used = used
stays_used (w ∷ written) [] e k xs all used = absurd (cc)
stays_used (w ∷ written) (address ∷ addresses) e k xs all used =
    let head : w.address ≡ address = cc in
    let tail : map (λ v. v.address) written ≡ addresses = cc in
    let le : w.address ≤ length xs = used_within xs w.address (subst (λ (n : ℕ). IsUsed n xs) (sym head) all.0) in
    stays_used written addresses tail k (with_number w.address (Some w.number) xs) (all_still addresses xs w.address w.number le all.1) (still_used xs w.address k w.number le used)

three_used : (xs : List (Option ℕ)) (b : Bool) (x y z : Writing) → IsUsed x.address xs → IsUsed y.address xs → IsUsed z.address xs → AllUsed xs (map (λ n. n.address) ((if b then x ∷ [] else []) ++ y ∷ z ∷ []))
three_used xs true x y z p q s = (p, (q, (s, tt)))
three_used xs false x y z p q s = (q, (s, tt))

added_entries : (kind : Kind) (address : ℕ) (u : Table) → with_number address (Some 0) u.entries ≡ (with_node kind address 0 u).entries
added_entries File address u = refl
added_entries Directory address u = refl

module _ (capacity volume : ℕ) (medium : Medium) (S : State) (stands : RecoversTo udf capacity volume medium S) (r : Request) (t : Table) (is : model_table t ≡ stands.tells.table) where
  abbrev V : List (Option ℕ)
  V = stands.tells.table.entries

  abbrev stored : Graph
  stored = graph capacity volume medium S stands r t is

  abbrev vacant : ℕ
  vacant = free capacity volume medium S stands r t is

  abbrev base : Table
  base = committed stands.at r.client r.number (code_of r.operation S.tree) t

  same : t.entries ≡ V
  same = entries_are capacity volume medium S stands r t is

  low : vacant ≤ length t.entries
  low = free_within capacity volume medium S stands r t is

  used_stored : (address : ℕ) (s : _) → stored address s → IsUsed address t.entries
  used_stored address s there = (there.number, ap (λ (es : List (Option ℕ)). slice_get es address) same ∙ there.used)

  used_found : (path : Path) (f : Found stored path) → IsUsed f.address t.entries
  used_found path f = used_stored f.address f.stored f.is

  vacant_free : len S.tree < NODES → IsFree vacant t.entries
  vacant_free few = go (below_or_at vacant (length t.entries) low)
    where
      unused_there : (e : Option ℕ) → slice_get t.entries vacant ≡ Some e → slice_get t.entries vacant ≡ Some None
      unused_there None at = at
      unused_there (Some n) at = absurd (unused_least V n (ap (λ (es : List (Option ℕ)). slice_get es vacant) (sym same) ∙ at))

      go : (vacant < length t.entries) ⊎ (vacant ≡ length t.entries) → IsFree vacant t.entries
      go (inl lt) = inl (unused_there (get_or t.entries vacant None) (slice_get-get_or t.entries vacant None lt))
      go (inr end) =
          let root = reached_used udf capacity volume exact medium S stands 1 ([], refl) in
          let size : length t.entries ≡ length V = ap (λ (es : List (Option ℕ)). length es) same in
          let full = full_table V stands.tells.set_number root.0 stands.tells.set_used root.1 (end ∙ size) in
          inr (end, omega (arith, end, size, full, count_used capacity volume medium S stands r t is, few))

  -- a node is made
  addition_taken : (path : Path) (content : Content) (kind : Kind) (nodes : List Writing) (written : List Written) → len S.tree < NODES → map (λ w. w.address) written ≡ map (λ n. n.address) nodes
      → PlansAddition stored vacant path content r.moment S.next_identity nodes → AreTaken (Some (record { kind = kind; address = vacant })) written None base
  addition_taken path content kind nodes written few addresses plan = record {
    free = vacant_free few;
    used = subst (AreUsed written) (added_entries kind vacant base)
        (used_in_turn written (vacant ∷ plan.above.address ∷ []) (addresses_by capacity volume medium S stands r t is written nodes _ addresses plan.nodes_are) (with_number vacant (Some 0) t.entries)
        ((0, entry_there t.entries vacant (Some 0) low), (still_used t.entries vacant plan.above.address 0 low (used_found (parent_of path) plan.above), tt)));
    there = tt;
  }

  -- none is made and none goes
  plain_taken : (nodes : List Writing) (written : List Written) → map (λ w. w.address) written ≡ map (λ n. n.address) nodes → AllUsed t.entries (map (λ n. n.address) nodes) → AreTaken None written None base
  plain_taken nodes written addresses all = record { free = tt; used = used_in_turn written (map (λ n. n.address) nodes) addresses t.entries all; there = tt }

  rename_used : (from to : Path) (nodes : List Writing) → PlansRenaming stored from to r.moment nodes ⊎ PlansMove stored from to r.moment nodes → AllUsed t.entries (map (λ n. n.address) nodes)
  rename_used from to nodes (inl plan) = subst (λ (ns : List Writing). AllUsed t.entries (map (λ n. n.address) ns)) (sym plan.nodes_are) (used_found (parent_of from) plan.above, tt)
  rename_used from to nodes (inr plan) =
      subst (λ (ns : List Writing). AllUsed t.entries (map (λ n. n.address) ns)) (sym plan.nodes_are)
      (three_used t.entries (is_directory plan.stored) _ _ _ (used_stored plan.moved.address plan.stored plan.there) (used_found (parent_of from) plan.above) (used_found (parent_of to) plan.beyond))

  -- what goes is not the root
  not_root : (path : Path) (f : Found stored path) → 0 < length path → 2 ≤ f.address
  not_root path f named = go f.address f.reach (above_zero udf capacity volume exact distinct medium S stands f.address (path, f.reach))
    where
      go : (a : ℕ) → Reach stored path a → 1 ≤ a → 2 ≤ a
      go zero reach some = absurd (omega arith)
      go (suc zero) reach some = let root : path ≡ [] = stands.tells.makes.one_path path [] 1 reach refl in absurd (omega (arith, named, ap (λ (p : Path). length p) root))
      go (suc (suc a)) reach some = omega arith

  -- and is counted
  kind_counted : (path : Path) → code_of (Remove path) S.tree ≡ 0 → (kind : Kind) → kind ≡ name_kind (is_directory_at S.tree path) → (entries : List (Option ℕ)) → CountsNode kind (with_nodes t.files t.directories t.next_unique entries base)
  kind_counted path e kind k entries =
      subst (λ (x : Kind). CountsNode x (with_nodes t.files t.directories t.next_unique entries base)) (sym k) (go (is_directory_at S.tree path) c.files c.directories)
    where
      c : Counted (Remove path) r.moment S.next_identity S.tree
      c = counted (Remove path) r.moment S.next_identity S.tree stands.tells.tree e

      root : 1 ≤ directories_of (done (Remove path) r.moment S.next_identity S.tree)
      root = some_directory (done (Remove path) r.moment S.next_identity S.tree) (kept (Remove path) r.moment S.next_identity S.tree stands.tells.tree e).tree_after.root

      go : (b : Bool) → files_of (done (Remove path) r.moment S.next_identity S.tree) + cond b 0 1 ≡ files_of S.tree + 0 → directories_of (done (Remove path) r.moment S.next_identity S.tree) + cond b 1 0 ≡ directories_of S.tree + 0
          → CountsNode (name_kind b) (with_nodes t.files t.directories t.next_unique entries base)
      go true f d = omega (arith, d, root, directories capacity volume medium S stands r t is)
      go false f d = omega (arith, f, files capacity volume medium S stands r t is)

  taken_by : (made made' : Option NewNode) (taken taken' : Option Node) (written : List Written) → made ≡ made' → taken ≡ taken' → AreTaken made' written taken' base → AreTaken made written taken base
  taken_by made made' taken taken' written m g h = subst (λ (x : Option NewNode). AreTaken x written taken base) (sym m) (subst (λ (x : Option Node). AreTaken made' written x base) (sym g) h)

  each_taken : (op : Operation) (nodes : List Writing) (unused : List ℕ) (written : List Written) (made : Option NewNode) (taken : Option Node) → code_of op S.tree ≡ 0
      → map (λ w. w.address) written ≡ map (λ n. n.address) nodes → Plans stored vacant op r.moment S.next_identity nodes unused → made ≡ made_by op vacant → RemovesNode op S.tree unused taken → AreTaken made written taken base
  each_taken (Create path bytes) nodes unused written made taken e addresses (plan, none) m g =
      taken_by made _ taken None written m g (addition_taken path _ File nodes written (may_add path S.tree e).few addresses plan)
  each_taken (MakeDir path) nodes unused written made taken e addresses (plan, none) m g =
      taken_by made _ taken None written m g (addition_taken path _ Directory nodes written (may_add path S.tree e).few addresses plan)
  each_taken (Replace path bytes) nodes unused written made taken e addresses (plan, none) m g =
      taken_by made None taken None written m g
      (plain_taken nodes written addresses (subst (λ (ns : List Writing). AllUsed t.entries (map (λ n. n.address) ns)) (sym plan.nodes_are) (used_found path plan.file, tt)))
  each_taken (Append path offset bytes) nodes unused written made taken e addresses (plan, none) m g =
      taken_by made None taken None written m g
      (plain_taken nodes written addresses (subst (λ (ns : List Writing). AllUsed t.entries (map (λ n. n.address) ns)) (sym plan.nodes_are) (used_found path plan.file, tt)))
  each_taken (Rename from to) nodes unused written made taken e addresses (plan, none) m g = taken_by made None taken None written m g (plain_taken nodes written addresses (rename_used from to nodes plan))
  each_taken (Remove path) nodes unused written made taken e addresses plan m (node, g, u, kind) =
      let address : plan.node.address ≡ node.address = head_same (sym plan.gone_is ∙ u) in
      let all : AllUsed t.entries (plan.above.address ∷ []) = (used_found (parent_of path) plan.above, tt) in
      let turns = addresses_by capacity volume medium S stands r t is written nodes _ addresses plan.nodes_are in
      let there : IsUsed node.address t.entries = subst (λ (n : ℕ). IsUsed n t.entries) address (used_found path plan.node) in
      taken_by made None taken (Some node) written m g
      (record {
        free = tt;
        used = used_in_turn written (plan.above.address ∷ []) turns t.entries all;
        there = subst (IsRemovable node.kind node.address) (sym (placed_alone written base))
            (record {
              afterwards = omega (arith, address, not_root path plan.node (may_remove path S.tree e).named);
              used = stays_used written (plan.above.address ∷ []) turns node.address t.entries all there;
              counted = kind_counted path e node.kind kind (all_entries written t.entries);
            });
      })
    where
      head_same : {a b : ℕ} → a ∷ [] ≡ b ∷ [] → a ≡ b
      head_same q = cc

  pub all_taken : (nodes : List Writing) (unused : List ℕ) (written : List Written) (made : Option NewNode) (taken : Option Node) → ChangesVolume capacity volume medium S stands r nodes unused written made taken → AreTaken made written taken base
  all_taken nodes unused written made taken h = elim (zero_or (code_of r.operation S.tree)) [ inl e ↦ when_done e | inr other ↦ when_refused other ]
    where
      when_done : code_of r.operation S.tree ≡ 0 → AreTaken made written taken base
      when_done e = let d = h.done e in each_taken r.operation nodes unused written made taken e h.addresses d.0 d.1 d.2

      when_refused : (code_of r.operation S.tree ≡ 0 → ⊥) → AreTaken made written taken base
      when_refused other =
          let d = h.refused other in
          taken_by made None taken None written d.2 d.3 (plain_taken [] written (h.addresses ∙ ap (λ (ns : List Writing). map (λ n. n.address) ns) d.0) tt)

pub changes_are_taken : ChangesAreTaken
changes_are_taken capacity volume medium S stands r nodes unused written made taken t is h = all_taken capacity volume medium S stands r t is nodes unused written made taken h
