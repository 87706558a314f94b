-- How long the next table is, and how many bytes it takes.
use Rattle.std.proofs.Common.{◌≡◌, ◌⊎◌, inl, inr, ℕ, ◌+◌, ◌*◌, ◌<◌, ◌≤◌, List, [], ◌∷◌, length, map, refl, sym, ap, ◌∙◌, arith}
use Rattle.std.specs.Prelude.{Option, Some, None, max, count_by, is_some}
use Rattle.std.specs.FinMap.{len}
use Rattle.std.proofs.lemmas.List.{length-map}
use Rattle.dir.specs.declared.entry.Kind.{Kind}
use Rattle.dir.specs.declared.entry.Kind.TheVariants.{File, Directory}
use Rattle.model.specs.Tree.{Tree}
use Rattle.model.specs.Operation.{Operation, code_of, done}
use Rattle.model.specs.Operation.Operation.{Create, Replace, Append, MakeDir, Rename, Remove}
use Rattle.model.specs.Session.{State, Request, ClientRecord, after_one}
use Rattle.model.proofs.Counts.{len_both}
use Rattle.model.proofs.Operations.{counted}
use Rattle.durability.specs.Volume.{Medium, RecoversTo}
use Rattle.durability.specs.Plan.{Writing, Written}
use Rattle.durability.proofs.Commits.{reached_used}
use Rattle.durability.proofs.Planned.{zero_or, tree_done, tree_refused}
use Rattle.durability.proofs.Tables.{full_table, open_table}
use Rattle.udf.specs.Udf.{udf}
use Rattle.udf.specs.Said.{model_record, model_table}
use Rattle.udf.proofs.Formats.{exact, bounded}
use Rattle.vat.specs.declared.record.Record.{Record}
use Rattle.vat.specs.declared.table.Version.TheVariants.{Two}
use Rattle.vat.specs.Version.{record_size}
use Rattle.vat.specs.Table.{Table}
use Rattle.vat.proofs.TableReads.{takes_so_many}
use Rattle.table_update.specs.declared.node.NewNode.{NewNode}
use Rattle.recover.specs.declared.node.Node.{Node}
use Rattle.table_update.specs.TableChange.{with_number, committed, with_node, removed}
use Rattle.table_update.specs.NextTable.{with_new_node, all_placed, without_gone, begun, next_table, made_by, ChangesVolume, IsLong, NextTablesAreLong, NextTablesAreSized}
use Rattle.table_update.proofs.EntryChanges.{length-with_entry}
use Rattle.table_update.proofs.TableEntries.{below_or_at}
use Rattle.table_update.proofs.NextTables.{records_are, records, commits, long, free, free_within}

-- ---- bytes

placed_version : (written : List Written) (t : Table) → (all_placed written t).version ≡ t.version
placed_version [] t = refl
placed_version (w ∷ written) t = placed_version written _

removed_version : (kind : Kind) (address : ℕ) (t : Table) → (removed kind address t).version ≡ t.version
removed_version File address t = refl
removed_version Directory address t = refl

without_version : (taken : Option Node) (t : Table) → (without_gone taken t).version ≡ t.version
without_version None t = refl
without_version (Some node) t = removed_version node.kind node.address t

added_version : (kind : Kind) (address : ℕ) (t : Table) → (with_node kind address 0 t).version ≡ t.version
added_version File address t = refl
added_version Directory address t = refl

made_version : (made : Option NewNode) (t : Table) → (with_new_node made t).version ≡ t.version
made_version None t = refl
made_version (Some node) t = added_version node.kind node.address t

pub next_tables_are_sized : NextTablesAreSized
next_tables_are_sized at client number code made written taken t bytes is =
    let next : Table = next_table at client number code made written taken t in
    let two : (next_table at client number code made written taken t).version ≡ Two =
    without_version taken (all_placed written (begun at client number code made t)) ∙ placed_version written (begun at client number code made t) ∙ made_version made (committed at client number code t) in
    let size : record_size (next_table at client number code made written taken t).version ≡ 48 = ap record_size two in
    let count : length (map model_record (next_table at client number code made written taken t).records) ≡ length (next_table at client number code made written taken t).records =
    length-map (next_table at client number code made written taken t).records model_record in
    takes_so_many (next_table at client number code made written taken t) bytes is
    ∙ (λ i. 196 + (size i * length (next_table at client number code made written taken t).records + 4 * length (next_table at client number code made written taken t).entries))
    ∙ ap (λ (n : ℕ). 196 + (48 * n + 4 * length (next_table at client number code made written taken t).entries)) (sym count)
    ∙ regrouped (48 * length (map model_record (next_table at client number code made written taken t).records)) (4 * length (next_table at client number code made written taken t).entries)
  where
    regrouped : (m n : ℕ) → 196 + (m + n) ≡ 196 + m + n
    regrouped m n = omega arith

-- ---- entries and records

module _ (capacity volume : ℕ) (medium : Medium) (S : State) (stands : RecoversTo udf capacity volume medium S) (r : Request) (t : Table) (is : model_table t ≡ stands.tells.table) where
  abbrev V : List (Option ℕ)
  V = stands.tells.table.entries

  abbrev vacant : ℕ
  vacant = free capacity volume medium S stands r t is

  same_long : length t.entries ≡ length V
  same_long = long capacity volume medium S stands r t is

  -- the table is as long as the state says
  as_state : length t.entries ≡ S.table_length
  as_state = same_long ∙ stands.tells.table_length

  pub count_used : count_by is_some V ≡ 1 + len S.tree
  count_used = omega (arith, bounded.used stands.tells.table _ _ stands.tells.has.is, stands.tells.files, stands.tells.directories, len_both S.tree)

  room : 1 + len S.tree ≤ length t.entries
  room = omega (arith, same_long, (bounded.nodes stands.tells.table _ _ stands.tells.has.is).0, stands.tells.files, stands.tells.directories, len_both S.tree)

  -- with a node that is made
  longer : (tree : Tree) → len tree ≡ len S.tree + 1 → length (with_number vacant (Some 0) t.entries) ≡ max S.table_length (1 + len tree)
  longer tree one = go (below_or_at vacant (length t.entries) low)
    where
      low : vacant ≤ length t.entries
      low = free_within capacity volume medium S stands r t is

      size : length (with_number vacant (Some 0) t.entries) ≡ max (length t.entries) (vacant + 1)
      size = length-with_entry t.entries vacant (Some 0) low

      go : (vacant < length t.entries) ⊎ (vacant ≡ length t.entries) → length (with_number vacant (Some 0) t.entries) ≡ max S.table_length (1 + len tree)
      go (inl lt) = omega (arith, size, as_state, same_long, one, count_used, open_table V (omega (arith, same_long, lt)))
      go (inr end) =
          let root = reached_used udf capacity volume exact medium S stands 1 ([], refl) in
          omega (arith, size, as_state, same_long, one, count_used, full_table V stands.tells.set_number root.0 stands.tells.set_used root.1 (end ∙ same_long))

  -- and with none
  as_long : (tree : Tree) → len tree ≤ len S.tree → length t.entries ≡ max S.table_length (1 + len tree)
  as_long tree few = omega (arith, as_state, room, few)

  abbrev start : Option NewNode → Table
  start made = begun stands.at r.client r.number (code_of r.operation S.tree) made t

  abbrev afterwards : Operation → Tree
  afterwards op = done op r.moment S.next_identity S.tree

  entries_long : (op : Operation) (made : Option NewNode) → code_of op S.tree ≡ 0 → made ≡ made_by op vacant → length (start made).entries ≡ max S.table_length (1 + len (afterwards op))
  entries_long (Create path bytes) made e m =
      let c = counted (Create path bytes) r.moment S.next_identity S.tree stands.tells.tree e in
      ap (λ (x : Option NewNode). length (start x).entries) m ∙ longer (afterwards (Create path bytes)) (omega (arith, c.files, c.directories, len_both S.tree, len_both (afterwards (Create path bytes))))
  entries_long (MakeDir path) made e m =
      let c = counted (MakeDir path) r.moment S.next_identity S.tree stands.tells.tree e in
      ap (λ (x : Option NewNode). length (start x).entries) m ∙ longer (afterwards (MakeDir path)) (omega (arith, c.files, c.directories, len_both S.tree, len_both (afterwards (MakeDir path))))
  entries_long (Replace path bytes) made e m =
      let c = counted (Replace path bytes) r.moment S.next_identity S.tree stands.tells.tree e in
      ap (λ (x : Option NewNode). length (start x).entries) m ∙ as_long (afterwards (Replace path bytes)) (omega (arith, c.files, c.directories, len_both S.tree, len_both (afterwards (Replace path bytes))))
  entries_long (Append path offset bytes) made e m =
      let c = counted (Append path offset bytes) r.moment S.next_identity S.tree stands.tells.tree e in
      ap (λ (x : Option NewNode). length (start x).entries) m ∙ as_long (afterwards (Append path offset bytes)) (omega (arith, c.files, c.directories, len_both S.tree, len_both (afterwards (Append path offset bytes))))
  entries_long (Rename from to) made e m =
      let c = counted (Rename from to) r.moment S.next_identity S.tree stands.tells.tree e in
      ap (λ (x : Option NewNode). length (start x).entries) m ∙ as_long (afterwards (Rename from to)) (omega (arith, c.files, c.directories, len_both S.tree, len_both (afterwards (Rename from to))))
  entries_long (Remove path) made e m =
      let c = counted (Remove path) r.moment S.next_identity S.tree stands.tells.tree e in
      ap (λ (x : Option NewNode). length (start x).entries) m ∙ as_long (afterwards (Remove path)) (omega (arith, c.files, c.directories, len_both S.tree, len_both (afterwards (Remove path))))

  made_records : (made : Option NewNode) (u : Table) → (with_new_node made u).records ≡ u.records
  made_records None u = refl
  made_records (Some node) u = go node.kind
    where
      go : (kind : Kind) → (with_node kind node.address 0 u).records ≡ u.records
      go File = refl
      go Directory = refl

  records_long : (made : Option NewNode) → length (start made).records ≡ length (after_one S r).records
  records_long made =
      let base : Table = committed stands.at r.client r.number (code_of r.operation S.tree) t in
      ap (λ (rs : List Record). length rs) (made_records made (committed stands.at r.client r.number (code_of r.operation S.tree) t))
      ∙ sym (length-map (committed stands.at r.client r.number (code_of r.operation S.tree) t).records model_record)
      ∙ ap (λ (rs : List ClientRecord). length rs) (records_are S r stands.at t (commits capacity volume medium S stands r t is) (records capacity volume medium S stands r t is))

  pub tables_long : (nodes : List Writing) (unused : List ℕ) (written : List Written) (made : Option NewNode) (taken : Option Node) → ChangesVolume capacity volume medium S stands r nodes unused written made taken → IsLong S r (start made)
  tables_long nodes unused written made taken h = record { records = records_long made; entries = elim (zero_or (code_of r.operation S.tree)) [ inl e ↦ when_done e | inr other ↦ when_refused other ] }
    where
      by_tree : (tree : Tree) → (after_one S r).tree ≡ tree → length (start made).entries ≡ max S.table_length (1 + len tree) → length (start made).entries ≡ (after_one S r).table_length
      by_tree tree same size = size ∙ ap (λ (x : Tree). max S.table_length (1 + len x)) (sym same)

      when_done : code_of r.operation S.tree ≡ 0 → length (start made).entries ≡ (after_one S r).table_length
      when_done e = by_tree (afterwards r.operation) (tree_done r.operation r.moment S.next_identity S.tree e) (entries_long r.operation made e (h.done e).1)

      when_refused : (code_of r.operation S.tree ≡ 0 → ⊥) → length (start made).entries ≡ (after_one S r).table_length
      when_refused other =
          by_tree S.tree (tree_refused r.operation r.moment S.next_identity S.tree other)
          (ap (λ (x : Option NewNode). length (start x).entries) (h.refused other).2 ∙ as_long S.tree (omega arith))

pub next_tables_are_long : NextTablesAreLong
next_tables_are_long capacity volume medium S stands r nodes unused written made taken t is h = tables_long capacity volume medium S stands r t is nodes unused written made taken h
