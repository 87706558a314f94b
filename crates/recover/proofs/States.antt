-- The state that was read is the one that the blocks describe.
use Rattle.std.proofs.Common.{◌≡◌, ℕ, ◌+◌, ◌-◌, ◌<◌, ◌≤◌, Bool, true, false, not, nat_eq, List, [], length, take, refl, sym, ap, ◌∙◌, subst, arith}
use Rattle.std.specs.Int.{div_ceil}
use Rattle.std.specs.List.{flat_map}
use Rattle.std.specs.Cmp.Lexicographic.{pointwise}
use Rattle.std.proofs.lemmas.Bool.{true≢false}
use Rattle.std.proofs.lemmas.List.{length-take}
use Rattle.std.proofs.lemmas.Option.{same_Some}
use Rattle.limits.specs.declared.TheConstants.{BLOCK_BYTES, NODES, PARTITION_START}
use Rattle.dir.specs.declared.entry.Kind.TheVariants.{Directory}
use Rattle.dir.specs.Directory.{is_directory}
use Rattle.model.specs.Graph.{IsFunctional}
use Rattle.model.specs.Identities.{HasIdentities}
use Rattle.model.specs.Tree.{files_of, directories_of}
use Rattle.model.proofs.Lists.{bytes_same}
use Rattle.model.proofs.Made.{one_tree}
use Rattle.durability.specs.Volume.{HasTable, bytes_in_blocks, extent, graph_of}
use Rattle.durability.proofs.Stored.{stored_one}
use Rattle.udf.specs.Said.{said_fields, model_table}
use Rattle.udf.specs.Udf.{udf}
use Rattle.udf.proofs.Formats.{bounded, exact}
use Rattle.icb.specs.VatIcb.{IsVatIcb}
use Rattle.udf.proofs.Said.{imitation_agrees, entries_agree, tables_agree}
use Rattle.vat.specs.declared.table.Vat.{Vat}
use Rattle.vat.specs.Table.{IsTableAt, Table, view}
use Rattle.volume.specs.Front.{IsFront}
use Rattle.recover.specs.declared.fault.StoreFault.{StoreFault}
use Rattle.recover.specs.declared.fault.StoreFault.TheVariants.{Device, Memory, Damaged}
use Rattle.recover.specs.declared.state.State.{State}
use Rattle.recover.specs.declared.table.TableEntry.{TableEntry}
use Rattle.recover.specs.declared.walk.Named.{Named}
use Rattle.recover.specs.declared.walk.Walk.{Walk}
use Rattle.recover.specs.Forest.{Adds, AreAssigned, IsWholeForest, IsWalked, by_address, by_identity, directories_in, files_in, whole}
use Rattle.recover.specs.Forest.Forest.{End, Seen}
use Rattle.recover.specs.Laws.{LastRecovers}
use Rattle.recover.specs.State.{CountsTree, HasPlausibleCounts, IsDescribed, IsShown, IsTreeRefused}
use Rattle.recover.specs.Refused.{IsVisitRefused}
use Rattle.recover.specs.Tables.{HasDataBelow, IsEntryAt, table_data_of, table_fields}
use Rattle.recover.specs.Walk.{Visits, reached_in, uniques_in}
use Rattle.recover.proofs.Refused.{root_expects}
use Rattle.recover.proofs.Trees.{tree_of, makes_tree, is_tree, has_identities, files_are, directories_are}
use Rattle.recover.proofs.Walks.{adds_from, part_below}

-- labels that `!=` does not distinguish
pub same_label : (a b : List ℕ) (r : Bool) → r ≡ not (pointwise nat_eq a b) → r ≡ false → a ≡ b
same_label a b r e f = go (pointwise nat_eq a b) refl (sym e ∙ f)
  where
    go : (t : Bool) → pointwise nat_eq a b ≡ t → not (pointwise nat_eq a b) ≡ false → a ≡ b
    go true is n = bytes_same a b is
    go false is n = absurd (true≢false (sym (ap not is) ∙ n))

-- a table has few nodes
pub few_nodes : (icb : ℕ) (vat : Vat) (bytes : List ℕ) → IsTableAt icb (view vat) bytes → (16 ≤ vat.sessions.next_unique) × (vat.files + vat.directories ≤ NODES)
few_nodes icb vat bytes is = (is.table.fits.next_unique, let used = bounded.nodes (model_table (view vat)) icb bytes (tables_agree (view vat) icb bytes is) in let a = used.0 in let b = used.1 in omega (arith, a, b))

-- ---- the tree

module _ (medium : List (List ℕ)) (vat : Vat) (before after : Walk) (node : Named) (none_reached : (x : ℕ) → reached_in before x ≡ false) (none_unique : (x : ℕ) → uniques_in before x ≡ false)
    (kind : node.kind ≡ Directory) (address : node.address ≡ 1) (unique : node.unique ≡ 0) (above : node.above ≡ 1) (depth : node.depth ≡ 0)
    (next : before.next_unique ≡ vat.sessions.next_unique) (visits : Visits (graph_of udf medium vat.entries.items) before after node) where
  functional : IsFunctional (graph_of udf medium vat.entries.items)
  functional = stored_one udf exact medium vat.entries.items

  is_whole : IsWholeForest (graph_of udf medium vat.entries.items) vat.sessions.next_unique visits.stored visits.below
  is_whole = record {
    walked =
        subst (λ (i : ℕ). IsWalked (graph_of udf medium vat.entries.items) 1 (Seen [] i visits.stored visits.below End)) address
        (subst (λ (i : ℕ). IsWalked (graph_of udf medium vat.entries.items) i (Seen [] node.address visits.stored visits.below End)) above visits.walked);
    is_root = visits.kind ∙ ap is_directory kind;
    shallow = (let s = visits.counts.shallow in omega (arith, s, depth));
    drawn =
        subst (λ (k : ℕ). AreAssigned k (whole visits.stored visits.below)) next
        (subst (λ (i : ℕ). AreAssigned before.next_unique (Seen [] i visits.stored visits.below End)) address visits.counts.drawn);
    addresses = (
      reached_in after,
      subst (λ (i : ℕ). Adds by_address (λ x. false) (Seen [] i visits.stored visits.below End) (reached_in after)) address
          (adds_from by_address (λ x. false) (reached_in before) (reached_in after) (Seen [] node.address visits.stored visits.below End) (λ x. sym (none_reached x)) visits.counts.reached),
    );
    identities = (
      uniques_in after,
      subst (λ (i : ℕ). Adds by_identity (λ x. false) (Seen [] i visits.stored visits.below End) (uniques_in after)) address
          (adds_from by_identity (λ x. false) (uniques_in before) (uniques_in after) (Seen [] node.address visits.stored visits.below End) (λ x. sym (none_unique x)) visits.counts.uniques),
    );
  }

  pub has_tree : 16 ≤ vat.sessions.next_unique → vat.files + vat.directories ≤ NODES → before.files ≡ 0 → before.directories ≡ 0 → after.files ≡ vat.files → after.directories ≡ vat.directories
      → CountsTree medium vat
  has_tree enough few no_files no_directories files directories =
      let w = is_whole in
      let counted_files = files_are (graph_of udf medium vat.entries.items) functional vat.sessions.next_unique visits.stored visits.below w in
      let counted_directories = directories_are (graph_of udf medium vat.entries.items) functional vat.sessions.next_unique visits.stored visits.below w in
      let seen_files = visits.counts.files.1 (omega (arith, few, files)) in
      let seen_directories = visits.counts.directories.1 (omega (arith, few, directories)) in
      record {
        tree = tree_of visits.stored visits.below;
        is = is_tree (graph_of udf medium vat.entries.items) functional vat.sessions.next_unique visits.stored visits.below w;
        makes = makes_tree (graph_of udf medium vat.entries.items) functional vat.sessions.next_unique visits.stored visits.below w;
        identities = has_identities (graph_of udf medium vat.entries.items) functional vat.sessions.next_unique visits.stored visits.below w enough;
        files = omega (arith, files, no_files, seen_files, counted_files);
        directories = omega (arith, directories, no_directories, seen_directories, counted_directories);
      }

  -- what was counted is what the table counts, where the nodes make a tree that it counts
  pub counts_agree : vat.files + vat.directories ≤ NODES → before.files ≡ 0 → before.directories ≡ 0 → CountsTree medium vat → (after.files ≡ vat.files) × (after.directories ≡ vat.directories)
  counts_agree few no_files no_directories has =
      let w = is_whole in
      let graph = graph_of udf medium vat.entries.items in
      let made = makes_tree graph functional vat.sessions.next_unique visits.stored visits.below w in
      let same : tree_of visits.stored visits.below ≡ has.tree = one_tree graph (tree_of visits.stored visits.below) has.tree made has.makes in
      let files : files_in (whole visits.stored visits.below) ≡ vat.files = sym (files_are graph functional vat.sessions.next_unique visits.stored visits.below w) ∙ ap files_of same ∙ sym has.files in
      let directories : directories_in (whole visits.stored visits.below) ≡ vat.directories =
      sym (directories_are graph functional vat.sessions.next_unique visits.stored visits.below w) ∙ ap directories_of same ∙ sym has.directories in
      let few_files = visits.counts.files.2 in
      let few_directories = visits.counts.directories.2 in
      let all_files = visits.counts.files.1 (omega (arith, few_files, files, few, no_files)) in
      let all_directories = visits.counts.directories.1 (omega (arith, few_directories, directories, few, no_directories)) in
      (omega (arith, all_files, files, no_files), omega (arith, all_directories, directories, no_directories))

-- the nodes were refused
pub tree_refused : (medium : List (List ℕ)) (at : ℕ) (vat : Vat) (before : Walk) (node : Named) → ((x : ℕ) → reached_in before x ≡ false) → ((x : ℕ) → uniques_in before x ≡ false) → node.kind ≡ Directory
    → node.address ≡ 1 → node.unique ≡ 0 → node.above ≡ 1 → node.depth ≡ 0 → before.next_unique ≡ vat.sessions.next_unique → (fault : StoreFault)
    → IsVisitRefused (graph_of udf medium vat.entries.items) before node fault → IsTreeRefused medium at vat fault
tree_refused medium at vat before node none_reached none_unique kind address unique above depth next Device r = tt
tree_refused medium at vat before node none_reached none_unique kind address unique above depth next Memory r = tt
tree_refused medium at vat before node none_reached none_unique kind address unique above depth next (Damaged block cause) r = λ has commits few_unique.
    let identities = subst (HasIdentities has.tree) (sym next) has.identities in
    r has.tree [] has.is has.makes identities
    (root_expects (graph_of udf medium vat.entries.items) has.tree has.is has.makes before identities node none_reached none_unique kind address unique above depth)
tree_refused medium at vat before node none_reached none_unique kind address unique above depth next _ r = absurd r

-- ---- all of it

-- the table of an entry that was read, on the blocks below it
pub has_table : (medium : List (List ℕ)) (at : ℕ) (entry : TableEntry) (is : IsEntryAt medium at entry) (read : Table) → at ≤ length medium → HasDataBelow at entry
    → IsTableAt (at - PARTITION_START) read (table_data_of medium entry) → HasTable udf (take at medium) at is.block (model_table read) entry.moment
has_table medium at entry is read long below table = record {
  fields = said_fields (table_fields entry);
  kind = refl;
  entry = (entries_agree (table_fields entry) is.block (at - PARTITION_START)).0 is.is;
  moment_is = refl;
  first = entry.first;
  place = refl;
  within = (let l = length-take at medium in omega (arith, l, long, below));
  is =
      let part = part_below (entry.first + PARTITION_START) (div_ceil entry.size BLOCK_BYTES) at medium below in
      let same : table_data_of medium entry ≡ bytes_in_blocks entry.size (extent (take at medium) entry.first entry.size) = ap (λ (blocks : List (List ℕ)). take entry.size (flat_map (λ b. b) blocks)) (sym part) in
      tables_agree read (at - PARTITION_START) _ (subst (IsTableAt (at - PARTITION_START) read) same table);
}

pub is_shown : (capacity : ℕ) (medium : List (List ℕ)) (at : ℕ) (state : State) → PARTITION_START ≤ at → at < length medium → IsDescribed capacity medium at state
    → CountsTree (take at medium) state.vat → HasPlausibleCounts at state.vat → IsShown capacity medium at state
is_shown capacity medium at state low long described tree counted =
    let entry = described.entry in
    let is = described.is_entry in
    let label = described.label in
    let formatted = described.formatted in
    let front = described.front in
    let set = described.set in
    record {
      said = record {
        tree = tree.tree;
        records = (model_table (view state.vat)).records;
        commits = state.vat.sessions.commits;
        next_identity = state.vat.sessions.next_unique;
        table_length = length state.vat.entries.items;
        moment = entry.moment;
      };
      block = is.block;
      there = is.there;
      tells = record {
        table = model_table (view state.vat);
        has = has_table medium at entry is (view state.vat) (omega (arith, long)) described.below described.table;
        commits = refl;
        next_identity = refl;
        records = refl;
        table_length = refl;
        formatted = formatted;
        front = subst (λ (l : List ℕ). IsFront l formatted state.capacity (take PARTITION_START (take at medium))) (sym label) (subst (IsFront state.label formatted state.capacity) (sym (part_below 0 PARTITION_START at medium low)) front);
        fits = described.fits;
        set_number = set.number;
        set_used = set.used;
        set_block = set.block;
        set_there = set.there;
        set_is = subst (λ (l : List ℕ). udf.IsFileSet l formatted set.block) (sym label) set.is;
        tree = tree.is;
        makes = tree.makes;
        identities = tree.identities;
        files = tree.files;
        directories = tree.directories;
        few_commits = counted.few_commits;
        few_identities = counted.few_unique;
      };
      moment = described.moment;
      table = refl;
      label = label;
    }

-- at the last VAT ICB it is recovered
pub last_stands : LastRecovers
last_stands capacity medium at state shown (low, here, none) =
    let same = same_Some here.block shown.block (sym here.there ∙ shown.there) in
    record {
      at = at;
      block = shown.block;
      last = record {
        there = shown.there;
        is = (imitation_agrees shown.block at).1 (low, subst (λ (b : List ℕ). IsVatIcb b (at - PARTITION_START)) same here.is);
        no_later = λ later other lt there is. none later (omega (arith, lt)) (record { block = other; there = there; is = ((imitation_agrees other later).0 is).1 });
      };
      tells = shown.tells;
    }
