-- A file that was found under a name is a node of each tree whose table leads to it.
use Rattle.std.proofs.Common.{◌≡◌, ℕ, ◌+◌, ◌<◌, ◌≤◌, List, take, length, Option, Some, None, refl, sym, ap, subst, ◌∙◌, arith, length-take}
use Rattle.std.specs.Prelude.{IfSome}
use Rattle.std.proofs.lemmas.List.{take-take}
use Rattle.std.proofs.lemmas.Option.{slice_get_within}
use Rattle.limits.specs.declared.TheConstants.{PARTITION_START}
use Rattle.drive.specs.Journal.{Event, held, next_of}
use Rattle.dir.specs.declared.entry.Entry.{Entry as DirEntry}
use Rattle.dir.specs.declared.entry.Kind.TheVariants.{File}
use Rattle.model.specs.Graph.{Graph}
use Rattle.model.proofs.Lists.{get-take}
use Rattle.durability.specs.Volume.{graph_of}
use Rattle.udf.specs.Udf.{udf}
use Rattle.recover.specs.declared.directory.Extent.{Extent}
use Rattle.recover.specs.declared.checked.CheckedFile.{CheckedFile}
use Rattle.recover.specs.declared.checked.CheckedFiles.{CheckedFiles}
use Rattle.recover.specs.declared.walk.Named.{Named}
use Rattle.recover.specs.declared.walk.Walk.{Walk}
use Rattle.recover.specs.Forest.{IsAssigned, InsertsNumber}
use Rattle.recover.specs.Seen.{AreSeen, WalksOn, IsFileSeen, IsNameSeen, VisitsName}
use Rattle.recover.specs.Walk.{Begun, HasDescriptors, HasEntry, LeadsTo, LiesBelow, Tallied, Visits, extent_in, nodes_of, reached_in, uniques_in}
use Rattle.recover.proofs.LastExtent.{EndsBelow, ends_below}
use Rattle.recover.proofs.Held.{length-held, lies_there}
use Rattle.recover.proofs.Placed.{extent_same, listed_above}
use Rattle.recover.proofs.Walks.{begun_more, file_seen, file_visits, visits_same}

-- what lies below an address lies below those above it
lies_higher : (top at : ℕ) → top ≤ at → (o : Option Extent) → IfSome o (LiesBelow top) → IfSome o (LiesBelow at)
lies_higher top at low None h = tt
lies_higher top at low (Some e) h = record { some = h.some; first = h.first; below = let b = h.below in omega (arith, b, low) }

higher : (H : List (List ℕ)) (top at entry_at : ℕ) (node : Named) → top ≤ at → HasEntry (take top H) top entry_at node → HasEntry (take at H) at entry_at node
higher H top at entry_at node low (body, entry, below) =
    let within = slice_get_within (take top H) entry_at entry.block entry.there in
    let long = length-take top H in
    let here : entry_at < top = omega (arith, within, long) in
    let f = entry.fields in
    let ends = ends_below top (extent_in (take top H) f.size f.place) (subst (λ (o : Option Extent). IfSome o (LiesBelow top)) entry.extent below) in
    let same : take top (take at H) ≡ take top H = take-take top at H low in (
      body,
      record {
        block = entry.block;
        there = lies_there H at entry_at entry.block (omega (arith, here, low)) (sym (get-take top H entry_at here) ∙ entry.there);
        fields = entry.fields;
        is = entry.is;
        kind = entry.kind;
        unique = entry.unique;
        links = entry.links;
        file = entry.file;
        listed = listed_above top (take at H) f.size f.place (subst (λ (M : List (List ℕ)). HasDescriptors M f.size f.place) (sym same) entry.listed);
        extent =
            entry.extent ∙ sym (ap (λ (M : List (List ℕ)). extent_in M f.size f.place) same)
            ∙ extent_same top (take at H) f.size f.place (take top (take at H)) (subst (λ (M : List (List ℕ)). IfSome (extent_in M f.size f.place) (EndsBelow top)) (sym same) ends);
      },
      lies_higher top at low body.extent below,
    )

module _ (J : List Event) (before after : Walk) (file : CheckedFile) (seen : IsFileSeen (held J) file) where
  visits_file : before.at ≤ next_of J → (child : Named) → child.kind ≡ File → child.address ≡ file.address → child.unique ≡ file.unique → child.depth ≤ 16
      → LeadsTo before.entries.now file.address (file.number + PARTITION_START) → file.top ≤ before.at → file.unique < before.next_unique
      → InsertsNumber (reached_in before) file.address (reached_in after) → InsertsNumber (uniques_in before) file.unique (uniques_in after)
      → Tallied before.files 1 after.files → after.directories ≡ before.directories → Visits (nodes_of J before) before after child
  visits_file within child kind address unique deep leads low drawn reached uniques files directories =
      let long : before.at ≤ length (take before.at (held J)) = omega (arith, length-take before.at (held J), length-held J, within) in
      let (body, entry, below) = higher (held J) file.top before.at (file.number + PARTITION_START) child low (seen.has child kind address unique) in
      let there = subst (λ (a : ℕ). LeadsTo before.entries.now a (file.number + PARTITION_START)) (sym address) leads in
      let is_drawn : IsAssigned before.next_unique child.address child.unique =
      (λ one. absurd (seen.is_no_root (sym address ∙ one)), λ other. (let d = seen.drawn in omega (arith, d, unique), omega (arith, drawn, unique))) in
      file_visits (nodes_of J before) before after child (reached_in after) (uniques_in after)
      (file_seen (take before.at (held J)) before.entries.now child body (file.number + PARTITION_START) there entry before.at long kind below) kind deep is_drawn
      (subst (λ (a : ℕ). InsertsNumber (reached_in before) a (reached_in after)) (sym address) reached) (λ x. refl)
      (subst (λ (u : ℕ). InsertsNumber (uniques_in before) u (uniques_in after)) (sym unique) uniques) (λ x. refl)
      files (omega (arith, directories), (λ lt. omega (arith, directories)), omega (arith, directories))

pub visits_name : (J : List Event) (before after : Walk) (file : CheckedFile) (entries : List (List ℕ × DirEntry)) (index depth : ℕ) → IsNameSeen (held J) entries index file
    → before.at ≤ next_of J → depth < 16 → LeadsTo before.entries.now file.address (file.number + PARTITION_START) → file.top ≤ before.at → file.unique < before.next_unique
    → InsertsNumber (reached_in before) file.address (reached_in after) → InsertsNumber (uniques_in before) file.unique (uniques_in after)
    → Tallied before.files 1 after.files → after.directories ≡ before.directories → VisitsName (nodes_of J before) before after entries index (depth + 1)
visits_name J before after file entries index depth named within deep leads low drawn reached uniques files directories = (
  named.name,
  named.there,
  λ child kind address unique here.
      visits_file J before after file named.seen within child (kind ∙ named.kind) (address ∙ named.address) (unique ∙ named.unique) (omega (arith, here, deep))
      leads low drawn reached uniques files directories,
)

-- one more of a directory's
pub goes_on : (before now after : Walk) (files : CheckedFiles) (depth from index : ℕ) → now.at ≡ before.at → now.entries.now ≡ before.entries.now → now.next_unique ≡ before.next_unique
    → ((J : List Event) (entries : List (List ℕ × DirEntry)) → now.at ≤ next_of J → AreSeen (held J) entries files → VisitsName (nodes_of J now) now after entries index (depth + 1))
    → WalksOn before now files depth from index → WalksOn before after files depth from (index + 1)
goes_on before now after files depth from index at table next one before_it J start node entries within are here start_next begun =
    let (name, there, visits) = one J entries (omega (arith, at, within)) are in
    let child : Named = record { kind = name.1.kind; address = name.1.virtual_address; unique = name.1.unique; above = node.address; named_at = 0; depth = node.depth + 1 } in
    begun_more (nodes_of J before) start now after node child entries index name.0 name.1 there refl refl refl refl refl (next ∙ start_next)
    (before_it J start node entries within are here start_next begun)
    (visits_same J J now before _ _ _ refl at table (visits child refl refl refl (omega (arith, here))))

-- and so from what was seen of a directory under the same table
pub goes_on_same : (J : List Event) (now start after : Walk) (files : CheckedFiles) (from to : ℕ) (node : Named) (entries : List (List ℕ × DirEntry)) → now.at ≡ start.at
    → now.entries.now ≡ start.entries.now → now.next_unique ≡ start.next_unique → start.at ≤ next_of J → AreSeen (held J) entries files → WalksOn now after files node.depth from to
    → Begun (nodes_of J start) start now node entries from → Begun (nodes_of J start) start after node entries to
goes_on_same J now start after files from to node entries at table next within are on begun =
    let same : nodes_of J now ≡ nodes_of J start = λ i. graph_of udf (take (at i) (held J)) (table i) in
    subst (λ (graph : Graph). Begun graph start after node entries to) same
    (on J start node entries (omega (arith, at, within)) are refl next (subst (λ (graph : Graph). Begun graph start now node entries from) (sym same) begun))
