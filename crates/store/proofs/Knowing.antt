-- What a store knows of the recovered state, as the parts of a commit ask for it.
use Rattle.std.proofs.Common.{◌≡◌, ℕ, ◌+◌, ◌-◌, ◌≤◌, Bool, List, ◌++◌, length, map, take, sym, ap, subst, ◌∙◌, arith, length-append}
use Rattle.std.specs.Prelude.{Option, IsTrue}
use Rattle.std.specs.FinMap.{len}
use Rattle.limits.specs.declared.TheConstants.{NODES, PARTITION_START}
use Rattle.drive.specs.Journal.{Event, held, next_of}
use Rattle.drive.proofs.Once.{next_once}
use Rattle.model.specs.Addresses.{free_address}
use Rattle.model.specs.Graph.{MakesTree}
use Rattle.model.specs.Operation.{code_of}
use Rattle.model.specs.Session.{State}
use Rattle.model.specs.Session as model
use Rattle.model.proofs.Counts.{len_both}
use Rattle.durability.specs.Commit.{need}
use Rattle.durability.specs.Formats.{Table_}
use Rattle.durability.specs.Formats.Kind.{Table as TableEntry}
use Rattle.durability.specs.Formats.NodePlace.{Extent}
use Rattle.durability.specs.Plan.{Writing, Written, WritesNodes, IsPlaced, IsPlanned, KeepPlaces}
use Rattle.durability.proofs.OnJournals.{length-held}
use Rattle.udf.specs.Said.{model_table}
use Rattle.udf.specs.Udf.{udf, spelled_length}
use Rattle.udf.proofs.Formats.{bounded}
use Rattle.request.specs.Numbers.{code_number}
use Rattle.request.specs.declared.message.Request as asking
use Rattle.vat.specs.Table.{Table, IsTableAt, view}
use Rattle.planning.specs.declared.change.Change.{Change}
use Rattle.planning.specs.declared.plan.Plan.{Plan}
use Rattle.store.specs.declared.store.Store.{Store}
use Rattle.lookup.specs.Asked.{model_operation, model_request}
use Rattle.lookup.specs.Cache.{AreKept}
use Rattle.store.specs.Calls.{IsOpenOn}
use Rattle.planning.specs.Changes.{IsChangeOf, gone_of}
use Rattle.table_update.specs.Need.{reckoned}
use Rattle.planning.specs.Needs.{change_need}
use Rattle.table_update.specs.NextTable.{AreTaken, ChangesVolume, begun, next_table}
use Rattle.table_update.specs.Pieces.{IsTableBehind}
use Rattle.planning.specs.Plan.{IsPlan, node_list, table_data, plan_written}
use Rattle.store.specs.Putting.{IsPlanOf}
use Rattle.lookup.specs.Shows.{HasNodesOf, graph_below}
use Rattle.table_update.specs.TableChange.{committed}
use Rattle.planning.specs.Writings.{change_writings}
use Rattle.table_update.proofs.ChangesTaken.{changes_are_taken}
use Rattle.table_update.proofs.PlanPieces.{nodes_are_written, pieces_are_planned, pieces_table}
use Rattle.table_update.proofs.Reckoning.{need_is_reckoned}
use Rattle.planning.proofs.Sizing.{all_names, bytes_of, change_is_of, change_reckoned}
use Rattle.planning.specs.Last.{IsTakenBy}
use Rattle.planning.proofs.Taking.{bare, bare_addresses}

module _ (capacity volume : ℕ) (J : List Event) (S : State) (store : Store) (knows : IsOpenOn capacity volume J S store) where
  pub entries_are : store.vat.entries.items ≡ knows.stands.tells.table.entries
  entries_are = ap (λ (t : Table_). t.entries) knows.table

  pub next_is : next_of J ≡ length J
  next_is = next_once J knows.once

  pub shows : (h : Bool) → IsTrue h → HasNodesOf h J store.directories store.vat_icb_address store.vat.entries.items S.tree
  shows h honest = record {
    honest = honest;
    kept = knows.kept;
    tree = knows.stands.tells.tree;
    makes = subst (λ (a : ℕ). MakesTree (graph_below a store.vat.entries.items J) S.tree) (sym knows.at)
        (subst (λ (es : List (Option ℕ)). MakesTree (graph_below knows.stands.at es J) S.tree) (sym entries_are) knows.stands.tells.makes);
    root = knows.stands.tells.identities.root;
  }

  -- The change is the request's. What its file keeps is where the file's entry says.
  pub record ChangesStore (r : asking.Request) (moment : ℕ) (change : Change) : Type 0 where
    pub is : IsChangeOf (held J) (graph_below store.vat_icb_address store.vat.entries.items J) (free_address store.vat.entries.items) S.tree (model_operation r.op) moment store.vat.sessions.next_unique change
    pub keeps : KeepPlaces udf (take store.vat_icb_address (held J)) store.vat.entries.items (change_writings (held J) moment change)

  -- at the request's own moment
  pub does_at : (r : asking.Request) (change : Change) (moment : ℕ) → moment ≡ r.moment → ChangesStore r moment change → ChangesStore r r.moment change
  does_at r change moment at = subst (λ (m : ℕ). ChangesStore r m change) at

  -- the nodes are counted
  pub nodes : store.vat.files + store.vat.directories ≡ len S.tree
  nodes = omega (arith, ap (λ (t : Table_). t.files) knows.table, ap (λ (t : Table_). t.directories) knows.table, knows.stands.tells.files, knows.stands.tells.directories, len_both S.tree)

  pub few : store.vat.files + store.vat.directories ≤ NODES
  few =
      let most = bounded.nodes knows.stands.tells.table _ _ knows.stands.tells.has.is in
      omega (arith, ap (λ (t : Table_). t.files) knows.table, ap (λ (t : Table_). t.directories) knows.table, most.0, most.1)

  pub commits : store.vat.sessions.commits ≡ S.commits
  commits = ap (λ (t : Table_). t.commits) knows.table ∙ knows.stands.tells.commits

  -- the same store, but for the directories that it keeps
  pub knows_again : (J' : List Event) (now : Store) → J' ≡ J → now.vat_icb_address ≡ store.vat_icb_address → now.vat ≡ store.vat → now.capacity ≡ store.capacity → AreKept J now.directories → IsOpenOn capacity volume J' S now
  knows_again J' now journal at vat size kept = subst (λ (K : List Event). IsOpenOn capacity volume K S now) (sym journal) (record {
    once = knows.once;
    stands = knows.stands;
    at = at ∙ knows.at;
    table = ap (λ v. model_table (view v)) vat ∙ knows.table;
    capacity_is = size ∙ knows.capacity_is;
    kept = kept;
  })

  module _ (r : asking.Request) (change : Change) (does : ChangesStore r r.moment change) where
    abbrev request : model.Request
    request = model_request r

    abbrev nodes_written : List Writing
    nodes_written = change_writings (held J) r.moment change

    -- of the newest table
    does_there : IsChangeOf (held J) (graph_below knows.stands.at knows.stands.tells.table.entries J) (free_address knows.stands.tells.table.entries) S.tree (model_operation r.op) r.moment S.next_identity change
    does_there =
        let next : store.vat.sessions.next_unique ≡ S.next_identity = ap (λ (t : Table_). t.next_identity) knows.table ∙ knows.stands.tells.next_identity in
        let one = subst (λ (a : ℕ). IsChangeOf (held J) (graph_below a store.vat.entries.items J) (free_address store.vat.entries.items) S.tree (model_operation r.op) r.moment store.vat.sessions.next_unique change) knows.at does.is in
        let two = subst (λ (es : List (Option ℕ)). IsChangeOf (held J) (graph_below knows.stands.at es J) (free_address es) S.tree (model_operation r.op) r.moment store.vat.sessions.next_unique change) entries_are one in
        subst (λ (n : ℕ). IsChangeOf (held J) (graph_below knows.stands.at knows.stands.tells.table.entries J) (free_address knows.stands.tells.table.entries) S.tree (model_operation r.op) r.moment n change) next two

    pub changes : (written : List Written) → map (λ (w : Written). w.address) written ≡ map (λ (n : Writing). n.address) nodes_written
        → ChangesVolume capacity volume (held J) S knows.stands request nodes_written (gone_of change) written change.made change.removed
    changes written addresses = record { done = does_there.done; refused = does_there.refused; addresses = addresses }

    pub takes : IsTakenBy (held J) r.moment change (committed store.vat_icb_address r.client r.number (code_number change.code) (view store.vat))
    takes written addresses =
        let there = changes_are_taken capacity volume (held J) S knows.stands request nodes_written (gone_of change) written change.made change.removed (view store.vat) knows.table (changes written addresses) in
        subst (λ (a : ℕ). AreTaken change.made written change.removed (committed a r.client r.number (code_number change.code) (view store.vat))) (sym knows.at)
        (subst (λ (n : ℕ). AreTaken change.made written change.removed (committed knows.stands.at r.client r.number n (view store.vat))) (sym does.is.code_is) there)

    -- what is computed is what the request may need
    pub need_is : change_need change (begun store.vat_icb_address r.client r.number (code_number change.code) change.made (view store.vat)) ≡ need spelled_length S request
    need_is =
        change_reckoned change (begun store.vat_icb_address r.client r.number (code_number change.code) change.made (view store.vat))
        ∙ (λ i. reckoned (bytes_of change.file) (all_names change.directories.items) (begun (knows.at i) r.client r.number (does.is.code_is i) change.made (view store.vat)))
        ∙ need_is_reckoned capacity volume (held J) S knows.stands request nodes_written (gone_of change) (bare nodes_written) change.made change.removed (view store.vat) (bytes_of change.file) (all_names change.directories.items) knows.table
        (changes (bare nodes_written) (bare_addresses nodes_written)) (change_is_of (held J) r.moment change does.is.kept)

    module _ (plan : Plan) (makes : IsPlanOf store r change plan) (is : IsPlan (next_of J) capacity plan) where
      size_is : next_of J ≡ length (held J)
      size_is = next_is ∙ sym (length-held J knows.once)

      pub writes : WritesNodes udf (held J) nodes_written (length (held J) - PARTITION_START) (node_list plan) (plan_written plan)
      writes =
          subst (λ (n : ℕ). WritesNodes udf (held J) nodes_written (n - PARTITION_START) (node_list plan) (plan_written plan)) size_is
          (subst (λ (ns : List Writing). WritesNodes udf (held J) ns (next_of J - PARTITION_START) (node_list plan) (plan_written plan)) (makes.writings (held J)) (is.nodes (held J) (makes.kept (held J) does.is.kept)))

      pub planned_changes : ChangesVolume capacity volume (held J) S knows.stands request nodes_written (gone_of change) (plan_written plan) change.made change.removed
      planned_changes = changes (plan_written plan) (nodes_are_written (held J) nodes_written (length (held J) - PARTITION_START) (node_list plan) (plan_written plan) writes)

      abbrev pub planned_blocks : List (List ℕ)
      planned_blocks = node_list plan ++ table_data plan.table

      pub at_is : plan.table.at ≡ length (held J) + length planned_blocks
      at_is = omega (arith, is.low, size_is, is.table.number, length-append (node_list plan) (table_data plan.table))

      pub table_is : view plan.table.vat ≡ next_table knows.stands.at r.client r.number (code_of (model_operation r.op) S.tree) change.made (plan_written plan) change.removed (view store.vat)
      table_is = makes.table ∙ (λ i. next_table (knows.at i) r.client r.number (does.is.code_is i) change.made (plan_written plan) change.removed (view store.vat))

      afterwards : IsTableBehind (held J) request (next_table knows.stands.at r.client r.number (code_of (model_operation r.op) S.tree) change.made (plan_written plan) change.removed (view store.vat)) (node_list plan) plan.table.bytes.items plan.table.first (table_data plan.table) plan.table.entry
      afterwards =
          let number : plan.table.at - PARTITION_START ≡ length (held J) + length planned_blocks - PARTITION_START = omega (arith, at_is) in
          let spelled_there = subst (λ (t : Table). IsTableAt (plan.table.at - PARTITION_START) t plan.table.bytes.items) table_is is.table.spelled in
          let entry_there = subst (λ (m : ℕ). udf.IsEntry (record { kind = TableEntry; moment = m; links = 0; identity = 0; size = length plan.table.bytes.items; place = Extent plan.table.first }) plan.table.entry (plan.table.at - PARTITION_START)) makes.moment is.table.mark in
          record {
            placed = subst (λ (n : ℕ). IsPlaced udf plan.table.bytes.items (n - PARTITION_START + length (node_list plan)) plan.table.first (table_data plan.table)) size_is is.table.placed;
            spelled = subst (λ (n : ℕ). IsTableAt n (next_table knows.stands.at r.client r.number (code_of (model_operation r.op) S.tree) change.made (plan_written plan) change.removed (view store.vat)) plan.table.bytes.items) number spelled_there;
            entry = subst (λ (n : ℕ). udf.IsEntry (record { kind = TableEntry; moment = r.moment; links = 0; identity = 0; size = length plan.table.bytes.items; place = Extent plan.table.first }) plan.table.entry n) number entry_there;
          }

      keep : KeepPlaces udf (take knows.stands.at (held J)) knows.stands.tells.table.entries nodes_written
      keep =
          subst (λ (es : List (Option ℕ)). KeepPlaces udf (take knows.stands.at (held J)) es nodes_written) entries_are
          (subst (λ (a : ℕ). KeepPlaces udf (take a (held J)) store.vat.entries.items nodes_written) knows.at does.keeps)

      pub planned : IsPlanned udf capacity volume (held J) S knows.stands request planned_blocks plan.table.entry
      planned =
          pieces_are_planned capacity volume (held J) S knows.stands request nodes_written (gone_of change) (plan_written plan) change.made change.removed (view store.vat) knows.table planned_changes keep
          (node_list plan) writes plan.table.bytes.items plan.table.first (table_data plan.table) plan.table.entry afterwards

      pub planned_table : planned.table ≡ model_table (view plan.table.vat)
      unfolding planned
      planned_table =
          pieces_table capacity volume (held J) S knows.stands request nodes_written (gone_of change) (plan_written plan) change.made change.removed (view store.vat) knows.table planned_changes keep
          (node_list plan) writes plan.table.bytes.items plan.table.first (table_data plan.table) plan.table.entry afterwards
          ∙ ap model_table (sym table_is)
