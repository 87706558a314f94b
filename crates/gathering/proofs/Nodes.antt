-- Nodes that are written after a medium are stored after one beside it too.
use Rattle.std.proofs.Common.{◌≡◌, ◌⊎◌, inl, inr, ℕ, ◌+◌, ◌*◌, ◌-◌, ◌≤◌, ◌<◌, min, List, [], ◌∷◌, ◌++◌, length, slice_get, Option, Some, refl, sym, ◌∙◌, ap, subst, arith, append_assoc, append-nil, length-append}
use Rattle.std.proofs.Math.Nat.{min-eq_left}
use Rattle.limits.specs.declared.TheConstants.{FILE_BYTES}
use Rattle.model.specs.Graph.{Stored, Body}
use Rattle.model.specs.Graph.Body.{Bytes, Entries}
use Rattle.model.specs.Change.{IsReached, IsKeptUnder}
use Rattle.durability.specs.Formats.{Block, NodePlace, NodeFields, Formats, AreExact, AreDistinct}
use Rattle.durability.specs.Formats.NodePlace.{Nowhere, Extent, Extents, Inside}
use Rattle.durability.specs.Volume.{Medium, partition_start, IsWithin, extent, bytes_in_blocks, AreWithin, bytes_in_extents, HoldsFile, HoldsBody, IsStoredAt, graph_of}
use Rattle.durability.specs.Plan.{Writing, Written, PlacesFile, PlacesBody, WritesNode, WritesNodes, firsts_of, KeepsPlace, KeepPlaces}
use Rattle.durability.specs.Plan.PlacesFile.{nowhere, inside, outside, appended}
use Rattle.durability.proofs.Extents.{extents_stay}
use Rattle.durability.proofs.Written.{nodes_stored}
use Rattle.gathering.proofs.Beside.{AreBeside, firsts_stay, same_body}
use Rattle.gathering.proofs.Entries.{IsWritten}

module _ (formats : Formats) where
  -- the bytes of a file of full extents
  in_extents : (M : Medium) (size : ℕ) (place : NodePlace) (bytes : List ℕ) → HoldsFile formats M size place bytes → 0 < size → size ≡ FILE_BYTES * length (firsts_of formats M size place)
      → AreWithin M size (firsts_of formats M size place) × (bytes ≡ bytes_in_extents M size (firsts_of formats M size place))
  in_extents M size Nowhere bytes holds some count = absurd (omega (arith, some, count))
  in_extents M size (Inside kept) bytes holds some count = absurd (omega (arith, some, count))
  in_extents M size (Extent first) bytes holds some count =
      let whole : min size FILE_BYTES ≡ size = min-eq_left (let h : size ≤ FILE_BYTES = omega (arith, count) in h) in (
        (some, subst (λ (n : ℕ). IsWithin M first n) (sym whole) holds.0, omega (arith, count)),
        holds.1 ∙ ap (λ (n : ℕ). bytes_in_blocks n (extent M first n)) (sym whole) ∙ sym (append-nil (bytes_in_blocks (min size FILE_BYTES) (extent M first (min size FILE_BYTES)))),
      )
  in_extents M size (Extents descriptors) bytes holds some count = (holds.1, holds.2)

  module _ (exact : AreExact formats) (distinct : AreDistinct formats) (below other : Medium) (all : AreBeside formats 0 below other) (V : List (Option ℕ))
      (keeps : (address : ℕ) → IsReached (graph_of formats below V) address → IsKeptUnder (graph_of formats below V) (graph_of formats other V) address) where
    -- the extents that an append leaves
    record Left (kept : ℕ) (firsts : List ℕ) : Type 0 where
      within : AreWithin below kept firsts
      within_other : AreWithin other kept firsts
      same : bytes_in_extents other kept firsts ≡ bytes_in_extents below kept firsts

    file_of : (M : Medium) (fields : NodeFields) (body : Body) (bytes : List ℕ) → body ≡ Bytes bytes → HoldsBody formats M fields body → HoldsFile formats M fields.size fields.place bytes
    file_of M fields body bytes is holds = (subst (λ (b : Body). HoldsBody formats M fields b) is holds).1

    left_extents : (node : Writing) → KeepsPlace formats below V node → 0 < node.kept → node.kept ≡ FILE_BYTES * length node.firsts → Left node.kept node.firsts
    left_extents node keep some count =
        let (path, file, bytes, address, body, size, same) = keep some in
        let many : file.is.fields.size ≡ FILE_BYTES * length (firsts_of formats below file.is.fields.size file.is.fields.place) = size ∙ count ∙ ap (λ (fs : List ℕ). FILE_BYTES * length fs) same in
        let kept = keeps file.address (path, file.reach) file.stored file.is in
        let holds = file_of below file.is.fields file.stored.body bytes body file.is.body in
        let stay : firsts_of formats other file.is.fields.size file.is.fields.place ≡ firsts_of formats below file.is.fields.size file.is.fields.place =
        firsts_stay formats distinct below other all file.is.fields.size file.is.fields.place bytes holds in
        let here = in_extents below file.is.fields.size file.is.fields.place bytes holds (omega (arith, size, some)) many in
        let there = in_extents other file.is.fields.size file.is.fields.place bytes
        (file_of other file.is.fields file.stored.body bytes body (same_body formats distinct exact below other all V file.address file.stored file.is kept)) (omega (arith, size, some))
        (many ∙ ap (λ (fs : List ℕ). FILE_BYTES * length fs) (sym stay)) in
        let there_too = subst (λ (fs : List ℕ). AreWithin other file.is.fields.size fs × (bytes ≡ bytes_in_extents other file.is.fields.size fs)) stay there in
        subst (λ (n : ℕ). Left n node.firsts) size (subst (λ (fs : List ℕ). Left file.is.fields.size fs) (sym same) (record { within = here.0; within_other = there_too.0; same = sym there_too.1 ∙ here.1 }))

    module _ (B C rest rest' : Medium) (goes_on : B ≡ below ++ rest) (other_goes_on : C ≡ other ++ rest') where
      file_beside : (node : Writing) (bytes : List ℕ) (from : ℕ) (blocks : List Block) (place : NodePlace) → KeepsPlace formats below V node
          → PlacesFile formats B node.kept node.firsts bytes from blocks place → PlacesFile formats C node.kept node.firsts bytes from blocks place
      file_beside node bytes from blocks place keep (nowhere new size blocks_are at) = nowhere new size blocks_are at
      file_beside node bytes from blocks place keep (inside new some few blocks_are at) = inside new some few blocks_are at
      file_beside node bytes from blocks place keep (outside new many first placed at) = outside new many first placed at
      file_beside node bytes from blocks place keep (appended front new whole size some-front count within holds some few first placed listed starts blocks_are many descriptors leads are names at) =
          let left = left_extents node keep some-front count in
          let here = extents_stay below rest node.kept node.firsts left.within in
          let there = extents_stay other rest' node.kept node.firsts left.within_other in
          let same : bytes_in_extents C node.kept node.firsts ≡ bytes_in_extents B node.kept node.firsts =
          ap (λ (M : Medium). bytes_in_extents M node.kept node.firsts) other_goes_on ∙ there.1 ∙ left.same ∙ sym here.1 ∙ ap (λ (M : Medium). bytes_in_extents M node.kept node.firsts) (sym goes_on) in
          appended front new whole size some-front count (subst (λ (M : Medium). AreWithin M node.kept node.firsts) (sym other_goes_on) there.0) (holds ∙ sym same) some few first placed listed starts blocks_are many descriptors leads are names at

      body_beside : (node : Writing) (body : Body) (from : ℕ) (blocks : List Block) (place : NodePlace) (size : ℕ) → KeepsPlace formats below V node
          → PlacesBody formats B node.kept node.firsts body from blocks place size → PlacesBody formats C node.kept node.firsts body from blocks place size
      body_beside node (Bytes bytes) from blocks place size keep (count, places) = (count, file_beside node bytes from blocks place keep places)
      body_beside node (Entries parent entries) from blocks place size keep places = places

      node_beside : (node : Writing) (from : ℕ) (blocks : List Block) (number : ℕ) (w : WritesNode formats B node from blocks number) → KeepsPlace formats below V node → WritesNode formats C node from blocks number
      node_beside node from blocks number w keep = record {
        before = w.before;
        entry = w.entry;
        blocks_are = w.blocks_are;
        number_is = w.number_is;
        place = w.place;
        size = w.size;
        body = body_beside node node.stored.body from w.before w.place w.size keep w.body;
        is = w.is;
      }

    -- what both media have under an address
    abbrev pub OnBoth : Medium → Medium → List (Option ℕ) → ℕ → Type 0
    OnBoth M N W address = (s : Stored) × IsStoredAt formats M W address s × IsStoredAt formats N W address s

    one_stored : (B : Medium) (node : Writing) (from : ℕ) (blocks : List Block) (number : ℕ) (more : List Block) (W : List (Option ℕ)) → partition_start ≤ length B → from ≡ length B - partition_start
        → WritesNode formats B node from blocks number → slice_get W node.address ≡ Some (Some number) → IsStoredAt formats (B ++ (blocks ++ more)) W node.address node.stored
    one_stored B node from blocks number more W low is one used =
        (nodes_stored formats (node ∷ []) B from blocks (record { address = node.address; number = number } ∷ []) more W low is
        (blocks, [], number, [], sym (append-nil blocks), refl, one, (refl, refl)) (used, tt)).0

    pub nodes_beside : (nodes : List Writing) (B C rest rest' : Medium) → B ≡ below ++ rest → C ≡ other ++ rest' → length C ≡ length B → partition_start ≤ length B
        → (from : ℕ) (blocks : List Block) (written : List Written) → from ≡ length B - partition_start → WritesNodes formats B nodes from blocks written → KeepPlaces formats below V nodes
        → (more : List Block) (W : List (Option ℕ)) (address number : ℕ) → slice_get W address ≡ Some (Some number) → IsWritten address number written → OnBoth (B ++ (blocks ++ more)) (C ++ (blocks ++ more)) W address
    nodes_beside [] B C rest rest' e e' size low from blocks written is (blocks_are, written_is) keep more W address number used there =
        absurd (subst (λ (ws : List Written). IsWritten address number ws) written_is there)
    nodes_beside (node ∷ nodes) B C rest rest' e e' size low from blocks written is (first, others, n, left, blocks_are, written_is, one, all_others) keep more W address number used there =
        let longer : (M : Medium) → (M ++ first) ++ (others ++ more) ≡ M ++ (blocks ++ more) = λ M. append_assoc M first (others ++ more) ∙ sym (split M) in
        go (subst (λ (ws : List Written). IsWritten address number ws) written_is there) (λ later.
        let found = nodes_beside nodes (B ++ first) (C ++ first) (rest ++ first) (rest' ++ first)
        (ap (λ (M : Medium). M ++ first) e ∙ append_assoc below rest first) (ap (λ (M : Medium). M ++ first) e' ∙ append_assoc other rest' first)
        (omega (arith, size, length-append B first, length-append C first)) (omega (arith, low, length-append B first))
        (from + length first) others left (omega (arith, is, low, length-append B first)) all_others keep.1 more W address number used later in (
          found.0,
          subst (λ (M : Medium). IsStoredAt formats M W address found.0) (longer B) found.1,
          subst (λ (M : Medium). IsStoredAt formats M W address found.0) (longer C) found.2,
        ))
      where
        split : (M : Medium) → M ++ (blocks ++ more) ≡ M ++ (first ++ (others ++ more))
        split M = ap (λ (xs : List Block). M ++ (xs ++ more)) blocks_are ∙ ap (λ (xs : List Block). M ++ xs) (append_assoc first others more)

        go : ((address ≡ node.address) × (number ≡ n)) ⊎ IsWritten address number left → (IsWritten address number left → OnBoth (B ++ (blocks ++ more)) (C ++ (blocks ++ more)) W address)
            → OnBoth (B ++ (blocks ++ more)) (C ++ (blocks ++ more)) W address
        go (inl (same, same_number)) later =
            let used_here : slice_get W node.address ≡ Some (Some n) = ap (λ (a : ℕ). slice_get W a) (sym same) ∙ used ∙ ap (λ (m : ℕ). Some (Some m)) same_number in
            subst (λ (a : ℕ). OnBoth (B ++ (blocks ++ more)) (C ++ (blocks ++ more)) W a) (sym same) (
              node.stored,
              subst (λ (M : Medium). IsStoredAt formats M W node.address node.stored) (sym (split B)) (one_stored B node from first n (others ++ more) W low is one used_here),
              subst (λ (M : Medium). IsStoredAt formats M W node.address node.stored) (sym (split C))
                  (one_stored C node from first n (others ++ more) W (omega (arith, size, low)) (omega (arith, is, size)) (node_beside B C rest rest' e e' node from first n one keep.0) used_here),
            )
        go (inr is_later) later = later is_later
