-- Nodes that are written: they are stored where their entries lead, and none of their blocks imitates.
use Rattle.std.proofs.Common.{◌≡◌, ℕ, zero, suc, ◌+◌, ◌-◌, ◌<◌, ◌≤◌, List, [], ◌∷◌, ◌++◌, length, take, drop, replicate, slice_get, Option, Some, refl, sym, ◌∙◌, ap, subst, arith, append_assoc, length-append}
use Rattle.std.specs.Prelude.{Contains}
use Rattle.std.proofs.lemmas.List.{length-replicate}
use Rattle.std.proofs.lemmas.Option.{none-some, same_Some}
use Rattle.model.specs.Graph.{Graph, Body, Entry}
use Rattle.model.specs.Graph.Body.{Bytes, Entries}
use Rattle.model.proofs.Lists.{contains_here, contains_there}
use Rattle.durability.specs.Formats.{Block, Kind, NodePlace, NodeFields, Formats, AreDistinct}
use Rattle.durability.specs.Formats.Kind.{Directory, File, Table}
use Rattle.durability.specs.Formats.NodePlace.{Extent}
use Rattle.durability.specs.Volume.{Medium, partition_start, blocks_for, IsWithin, extent, bytes_in_blocks, AreWithin, bytes_in_extents, descriptor_blocks, descriptors_at, firsts_at, HoldsFile, HoldsDirectory, HoldsBody, IsStoredAt, graph_of, IsVatIcbAt, NoneImitates}
use Rattle.durability.specs.Plan.{zeros, packed, kind_of_body, Writing, Written, IsPlaced, PlacesFile, PlacesBody, WritesNode, WritesNodes}
use Rattle.durability.specs.Plan.PlacesFile.{nowhere, inside, outside, appended}
use Rattle.durability.proofs.Extents.{extents_stay, one_more}
use Rattle.durability.proofs.Lists.{get_past}
use Rattle.durability.proofs.Packed.{part_at, length-packed, bytes-packed}
use Rattle.durability.proofs.Mediums.{none-append}
use Rattle.durability.proofs.Stored.{stored_more}

-- the table's entries of these addresses lead to where they were written
abbrev pub Lead : List (Option ℕ) → List Written → Type 0
Lead table [] = Unit {0}
Lead table (w ∷ written) = (slice_get table w.address ≡ Some (Some w.number)) × Lead table written

found : (xs : List Block) (k : ℕ) (block : Block) → slice_get xs k ≡ Some block → Contains xs block
found [] k block e = absurd (none-some block e)
found (x ∷ xs) zero block e = subst (λ (y : Block). Contains (x ∷ xs) y) (same_Some x block e) (contains_here x xs)
found (x ∷ xs) (suc k) block e = contains_there x xs block (found xs k block e)

-- what was written is under its addresses
abbrev pub AllIn : Graph → List Writing → Type 0
AllIn graph [] = Unit {0}
AllIn graph (node ∷ nodes) = graph node.address node.stored × AllIn graph nodes

module _ (formats : Formats) where
  -- data that was placed is read back
  pub placed_extent : (B : Medium) (bytes : List ℕ) (from first : ℕ) (blocks more : List Block) → partition_start ≤ length B → from ≡ length B - partition_start → IsPlaced formats bytes from first blocks
      → IsWithin (B ++ (blocks ++ more)) first (length bytes) × (extent (B ++ (blocks ++ more)) first (length bytes) ≡ packed bytes)
  placed_extent B bytes from first blocks more low is placed =
      let gap : List Block = replicate (first - from) zeros in
      let size = length-packed bytes in
      let front : first + partition_start ≡ length (B ++ gap) = omega (arith, length-append B gap, length-replicate (first - from) zeros, placed.start.low) in
      let whole : B ++ (blocks ++ more) ≡ (B ++ gap) ++ (packed bytes ++ more) =
      ap (λ (xs : List Block). B ++ (xs ++ more)) placed.whole ∙ ap (λ (xs : List Block). B ++ xs) (append_assoc gap (packed bytes) more) ∙ sym (append_assoc B gap (packed bytes ++ more)) in (
        omega (arith, ap (λ (M : Medium). length M) whole, length-append (B ++ gap) (packed bytes ++ more), length-append (packed bytes) more, front, size),
        ap (λ (M : Medium). take (blocks_for (length bytes)) (drop (first + partition_start) M)) whole ∙ part_at (first + partition_start) (blocks_for (length bytes)) (B ++ gap) (packed bytes) more front (sym size),
      )

  -- descriptor blocks are found where they were written
  listed_at : (M B : Medium) (placed listed more : List Block) → M ≡ B ++ (placed ++ (listed ++ more)) → (size : ℕ) (descriptors : List ℕ) → length listed ≡ descriptor_blocks size
      → (0 < length listed → formats.next descriptors + partition_start ≡ length B + length placed) → descriptors_at formats M size descriptors ≡ listed
  listed_at M B placed [] more on size descriptors many leads = ap (λ (n : ℕ). take n (drop (formats.next descriptors + partition_start) M)) (sym many)
  listed_at M B placed (b ∷ bs) more on size descriptors many leads =
      let start : formats.next descriptors + partition_start ≡ length (B ++ placed) = omega (arith, leads (omega arith), length-append B placed) in
      ap (λ (N : Medium). take (descriptor_blocks size) (drop (formats.next descriptors + partition_start) N)) (on ∙ sym (append_assoc B placed ((b ∷ bs) ++ more)))
      ∙ part_at (formats.next descriptors + partition_start) (descriptor_blocks size) (B ++ placed) (b ∷ bs) more start (sym many)

  file_held : (B : Medium) (kept : ℕ) (firsts : List ℕ) (bytes : List ℕ) (from : ℕ) (before : List Block) (place : NodePlace) (more : List Block) → partition_start ≤ length B → from ≡ length B - partition_start
      → PlacesFile formats B kept firsts bytes from before place → HoldsFile formats (B ++ (before ++ more)) (length bytes) place bytes
  file_held B kept firsts bytes from before place more low is (nowhere new size blocks at) = subst (λ p. HoldsFile formats (B ++ (before ++ more)) (length bytes) p bytes) (sym at) (empty bytes size)
    where
      empty : (xs : List ℕ) → length xs ≡ 0 → xs ≡ []
      empty [] e = refl
      empty (x ∷ xs) e = absurd (omega arith)
  file_held B kept firsts bytes from before place more low is (inside new some few blocks at) = subst (λ p. HoldsFile formats (B ++ (before ++ more)) (length bytes) p bytes) (sym at) refl
  file_held B kept firsts bytes from before place more low is (outside new many first placed at) =
      let held = placed_extent B bytes from first before more low is placed in
      subst (λ p. HoldsFile formats (B ++ (before ++ more)) (length bytes) p bytes) (sym at) (held.0, sym (ap (λ (xs : List Block). bytes_in_blocks (length bytes) xs) held.1 ∙ bytes-packed bytes))
  file_held B kept firsts bytes from before place more low is (appended front new whole size some-front count within holds some few first placed listed starts before_is many descriptors leads are names at) =
      let M : Medium = B ++ (before ++ more) in
      let on : M ≡ B ++ (placed ++ (listed ++ more)) = ap (λ (bs : List Block). B ++ (bs ++ more)) before_is ∙ ap (λ (bs : List Block). B ++ bs) (append_assoc placed listed more) in
      let held = placed_extent B new from first placed (listed ++ more) low is starts in
      let stay = extents_stay B (before ++ more) kept firsts within in
      let both = one_more M first new some few (subst (λ (N : Medium). IsWithin N first (length new)) (sym on) held.0) (ap (λ (N : Medium). extent N first (length new)) on ∙ held.1) firsts kept count stay.0 in
      let sum : kept + length new ≡ length bytes = omega (arith, ap (λ (xs : List ℕ). length xs) whole, length-append front new, size) in
      let there : descriptors_at formats M (length bytes) descriptors ≡ listed = listed_at M B placed listed more on (length bytes) descriptors many (λ some-listed. omega (arith, leads some-listed, low, is)) in
      let same : firsts_at formats M (length bytes) descriptors ≡ firsts ++ first ∷ [] = ap (λ (bs : List Block). formats.firsts descriptors bs) there ∙ names in
      let held_there = subst (λ (fs : List ℕ). AreWithin M (length bytes) fs × (bytes ≡ bytes_in_extents M (length bytes) fs)) (sym same) (
        subst (λ (n : ℕ). AreWithin M n (firsts ++ first ∷ [])) sum both.0,
        whole ∙ ap (λ (xs : List ℕ). xs ++ new) (holds ∙ sym stay.1) ∙ sym both.1 ∙ ap (λ (n : ℕ). bytes_in_extents M n (firsts ++ first ∷ [])) sum,
      ) in
      subst (λ p. HoldsFile formats M (length bytes) p bytes) (sym at) (
        record {
          there = ap (λ (bs : List Block). length bs) there ∙ many;
          are = subst (λ (bs : List Block). formats.HaveDescriptors (length bytes) (formats.next descriptors) bs) (sym there) are;
        },
        held_there.0,
        held_there.1,
      )

  directory_held : (B : Medium) (parent : ℕ) (entries : List Entry) (from : ℕ) (before : List Block) (place : NodePlace) (size : ℕ) (more : List Block) → partition_start ≤ length B → from ≡ length B - partition_start
      → (place ≡ Extent from) × (length before ≡ blocks_for size) × formats.IsDirectory parent entries from size before → HoldsDirectory formats (B ++ (before ++ more)) size place parent entries
  directory_held B parent entries from before place size more low is (at, count, holds) =
      let front : from + partition_start ≡ length B = omega arith in
      let same : extent (B ++ (before ++ more)) from size ≡ before = part_at (from + partition_start) (blocks_for size) B before more front (sym count) in
      subst (λ p. HoldsDirectory formats (B ++ (before ++ more)) size p parent entries) (sym at)
      (omega (arith, length-append B (before ++ more), length-append before more), subst (λ (xs : List Block). formats.IsDirectory parent entries from size xs) (sym same) holds)

  body_held : (B : Medium) (kept : ℕ) (firsts : List ℕ) (body : Body) (from : ℕ) (before : List Block) (place : NodePlace) (size : ℕ) (more : List Block) (moment links identity : ℕ) → partition_start ≤ length B → from ≡ length B - partition_start
      → PlacesBody formats B kept firsts body from before place size
      → HoldsBody formats (B ++ (before ++ more)) (record { kind = kind_of_body body; moment = moment; links = links; identity = identity; size = size; place = place }) body
  body_held B kept firsts (Bytes bytes) from before place size more moment links identity low is (count, places) =
      (refl, subst (λ n. HoldsFile formats (B ++ (before ++ more)) n place bytes) (sym count) (file_held B kept firsts bytes from before place more low is places))
  body_held B kept firsts (Entries parent entries) from before place size more moment links identity low is places = (refl, directory_held B parent entries from before place size more low is places)

  -- a node that was written is stored where its entry leads
  node_stored : (B : Medium) (node : Writing) (from : ℕ) (blocks : List Block) (number : ℕ) (table : List (Option ℕ)) → partition_start ≤ length B → from ≡ length B - partition_start
      → WritesNode formats B node from blocks number → slice_get table node.address ≡ Some (Some number) → IsStoredAt formats (B ++ blocks) table node.address node.stored
  node_stored B node from blocks number table low is w used =
      let there : slice_get (B ++ (w.before ++ w.entry ∷ [])) (number + partition_start) ≡ Some w.entry =
      get_past B (w.before ++ w.entry ∷ []) (number + partition_start) (length w.before) (omega (arith, w.number_is)) ∙ get_past w.before (w.entry ∷ []) (length w.before) 0 (omega arith) in
      subst (λ (xs : List Block). IsStoredAt formats (B ++ xs) table node.address node.stored) (sym w.blocks_are) (record {
        number = number;
        used = used;
        block = w.entry;
        there = there;
        fields = record { kind = kind_of_body node.stored.body; moment = node.stored.moment; links = node.stored.links; identity = node.stored.identity; size = w.size; place = w.place };
        entry = w.is;
        moment = refl;
        identity = refl;
        links = refl;
        body = body_held B node.kept node.firsts node.stored.body from w.before w.place w.size (w.entry ∷ []) node.stored.moment node.stored.links node.stored.identity low is w.body;
      })

  -- nodes that were written one after the other are stored
  pub nodes_stored : (nodes : List Writing) (B : Medium) (from : ℕ) (blocks : List Block) (written : List Written) (more : List Block) (table : List (Option ℕ)) → partition_start ≤ length B → from ≡ length B - partition_start
      → WritesNodes formats B nodes from blocks written → Lead table written → AllIn (graph_of formats (B ++ (blocks ++ more)) table) nodes
  nodes_stored [] B from blocks written more table low is w lead = tt
  nodes_stored (node ∷ nodes) B from blocks written more table low is (first, others, number, rest, blocks_are, written_is, one, all) lead =
      let leads = subst (λ (ws : List Written). Lead table ws) written_is lead in
      let whole : B ++ (blocks ++ more) ≡ (B ++ first) ++ (others ++ more) =
      ap (λ (xs : List Block). B ++ (xs ++ more)) blocks_are ∙ ap (λ (xs : List Block). B ++ xs) (append_assoc first others more) ∙ sym (append_assoc B first (others ++ more)) in
      subst (λ (M : Medium). AllIn (graph_of formats M table) (node ∷ nodes)) (sym whole) (
        stored_more formats (B ++ first) (others ++ more) table table node.address refl node.stored (node_stored B node from first number table low is one leads.0),
        nodes_stored nodes (B ++ first) (from + length first) others rest more table (omega (arith, length-append B first)) (omega (arith, length-append B first)) all leads.1,
      )

  module _ (distinct : AreDistinct formats) where
    is_table : Kind → ℕ
    is_table Directory = 0
    is_table File = 0
    is_table Table = 1

    -- an entry of a file or a directory imitates nowhere
    plain_entry : (body : Body) (fields : NodeFields) (block : Block) (location at : ℕ) → fields.kind ≡ kind_of_body body → formats.IsEntry fields block location → IsVatIcbAt formats block at → ⊥
    unfolding is_table
    plain_entry (Bytes bytes) fields block location at kind e (low, other, table, is) =
        let same = sym table ∙ sym (distinct.kind block location (at - partition_start) fields other e is) ∙ kind in omega (arith, ap is_table same)
    plain_entry (Entries parent entries) fields block location at kind e (low, other, table, is) =
        let same = sym table ∙ sym (distinct.kind block location (at - partition_start) fields other e is) ∙ kind in omega (arith, ap is_table same)

    none_zeros : (n at : ℕ) → NoneImitates formats at (replicate n zeros)
    none_zeros zero at = tt
    none_zeros (suc n) at = ((λ (low, fields, table, is). distinct.zeros (at - partition_start) fields is), none_zeros n (suc at))

    pub none_placed : (bytes : List ℕ) (from first : ℕ) (blocks : List Block) (at : ℕ) → at ≡ from + partition_start → IsPlaced formats bytes from first blocks → NoneImitates formats at blocks
    none_placed bytes from first blocks at is placed =
        let gap : List Block = replicate (first - from) zeros in
        let afterwards : first + partition_start ≡ at + length gap = omega (arith, placed.start.low, length-replicate (first - from) zeros) in
        subst (λ (xs : List Block). NoneImitates formats at xs) (sym placed.whole)
        (none-append formats at gap (packed bytes) (none_zeros (first - from) at) (subst (λ n. NoneImitates formats n (packed bytes)) afterwards placed.start.clear))

    none_all : (blocks : List Block) (at : ℕ) → ((block : Block) → (k : ℕ) → slice_get blocks k ≡ Some block → (location : ℕ) (fields : NodeFields) → formats.IsEntry fields block location → ⊥) → NoneImitates formats at blocks
    none_all [] at h = tt
    none_all (b ∷ blocks) at h = ((λ (low, fields, table, is). h b 0 refl (at - partition_start) fields is), none_all blocks (suc at) (λ block k e. h block (suc k) e))

    none_file : (medium : Medium) (kept : ℕ) (firsts : List ℕ) (bytes : List ℕ) (from : ℕ) (blocks : List Block) (place : NodePlace) (at : ℕ) → at ≡ from + partition_start → PlacesFile formats medium kept firsts bytes from blocks place → NoneImitates formats at blocks
    none_file medium kept firsts bytes from blocks place at is (nowhere new size blocks_are p) = subst (λ (xs : List Block). NoneImitates formats at xs) (sym blocks_are) tt
    none_file medium kept firsts bytes from blocks place at is (inside new some few blocks_are p) = subst (λ (xs : List Block). NoneImitates formats at xs) (sym blocks_are) tt
    none_file medium kept firsts bytes from blocks place at is (outside new many first placed p) = none_placed bytes from first blocks at is placed
    none_file medium kept firsts bytes from blocks place at is (appended front more whole size some-front count within holds some few first placed listed starts blocks_are many descriptors leads are names p) =
        subst (λ (xs : List Block). NoneImitates formats at xs) (sym blocks_are)
        (none-append formats at placed listed (none_placed more from first placed at is starts)
        (none_all listed (at + length placed) (λ block k e location fields entry. distinct.descriptors (length bytes) (formats.next descriptors) listed are block (found listed k block e) location fields entry)))

    none_body : (medium : Medium) (kept : ℕ) (firsts : List ℕ) (body : Body) (from : ℕ) (blocks : List Block) (place : NodePlace) (size at : ℕ) → at ≡ from + partition_start → PlacesBody formats medium kept firsts body from blocks place size → NoneImitates formats at blocks
    none_body medium kept firsts (Bytes bytes) from blocks place size at is (count, places) = none_file medium kept firsts bytes from blocks place at is places
    none_body medium kept firsts (Entries parent entries) from blocks place size at is (p, count, holds) =
        none_all blocks at (λ block k e location fields entry. distinct.directory parent from size entries blocks holds block (found blocks k block e) location fields entry)

    -- none of a node's blocks imitates
    none_node : (medium : Medium) (node : Writing) (from : ℕ) (blocks : List Block) (number at : ℕ) → at ≡ from + partition_start → WritesNode formats medium node from blocks number → NoneImitates formats at blocks
    none_node medium node from blocks number at is w =
        subst (λ (xs : List Block). NoneImitates formats at xs) (sym w.blocks_are)
        (none-append formats at w.before (w.entry ∷ []) (none_body medium node.kept node.firsts node.stored.body from w.before w.place w.size at is w.body)
        ((λ t. plain_entry node.stored.body _ w.entry node.address (at + length w.before) refl w.is t), tt))

    pub none_nodes : (medium : Medium) (nodes : List Writing) (from : ℕ) (blocks : List Block) (written : List Written) (at : ℕ) → at ≡ from + partition_start → WritesNodes formats medium nodes from blocks written → NoneImitates formats at blocks
    none_nodes medium [] from blocks written at is (blocks_are, written_is) = subst (λ (xs : List Block). NoneImitates formats at xs) (sym blocks_are) tt
    none_nodes medium (node ∷ nodes) from blocks written at is (first, others, number, rest, blocks_are, written_is, one, all) =
        subst (λ (xs : List Block). NoneImitates formats at xs) (sym blocks_are)
        (none-append formats at first others (none_node medium node from first number at is one) (none_nodes (medium ++ first) nodes (from + length first) others rest (at + length first) (omega arith) all))
