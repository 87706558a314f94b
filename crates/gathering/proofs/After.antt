-- A commit after two media that are beside one another: what it stores, and what its mark says, is on both.
use Rattle.std.proofs.Common.{◌≡◌, inl, inr, ℕ, ◌+◌, ◌-◌, ◌≤◌, ◌<◌, List, [], ◌∷◌, ◌++◌, length, take, drop, slice_get, Option, Some, refl, sym, ◌∙◌, ap, subst, subst₂, arith, append_assoc, append-nil, length-append}
use Rattle.std.proofs.lemmas.List.{take-append-drop, take-append-le, take-take, take_at}
use Rattle.std.proofs.lemmas.Option.{same_Some, slice_get_within}
use Rattle.model.specs.Session.{State, Request, after_one}
use Rattle.model.specs.Graph.{Stored, MakesTree}
use Rattle.model.specs.Change.{IsReached, IsKeptUnder}
use Rattle.durability.specs.Formats.{Block, NodePlace, NodeFields, Table_, Formats, AreExact, AreBounded, AreDistinct}
use Rattle.durability.specs.Formats.NodePlace.{Nowhere, Extent, Extents, Inside}
use Rattle.durability.specs.Volume.{Medium, partition_start, IsWithin, extent, bytes_in_blocks, IsStoredAt, graph_of, IsVatIcbAt, IsLast, HasTable, Describes, RecoversTo, LastTable}
use Rattle.durability.specs.Step.{CarriesOut}
use Rattle.durability.specs.Plan.{IsPlanned, packed}
use Rattle.durability.proofs.History.{last_table_one}
use Rattle.durability.proofs.Lists.{get-append, get_past}
use Rattle.durability.proofs.Mediums.{within}
use Rattle.durability.proofs.One.{last_one, table_one}
use Rattle.durability.proofs.Stored.{stored_one, stored_more, stored_same}
use Rattle.durability.proofs.Tables.{unused_least}
use Rattle.durability.proofs.Trees.{Made, made_after, makes_kept, few_after}
use Rattle.durability.proofs.Written.{placed_extent}
use Rattle.gathering.proofs.Beside.{part_same, AreBeside, beside_itself, beside_size, beside_append, beside_take, stays_there}
use Rattle.gathering.proofs.Entries.{used_after}
use Rattle.gathering.proofs.Nodes.{nodes_beside}
use Rattle.gathering.proofs.Reached as reached_in
use Rattle.gathering.proofs.Reached.{stored_there}

-- a medium that goes on, from any of its addresses on
split : (at : ℕ) (M more : Medium) → M ++ more ≡ take at M ++ (drop at M ++ more)
split at M more = ap (λ (N : Medium). N ++ more) (sym (take-append-drop at M)) ∙ append_assoc (take at M) (drop at M) more

first_in : NodePlace → ℕ
first_in Nowhere = 0
first_in (Inside bytes) = 0
first_in (Extents descriptors) = 0
first_in (Extent first) = first

same_first : (m n : ℕ) → Extent m ≡ Extent n → m ≡ n
unfolding first_in
same_first m n e = ap first_in e

module _ (formats : Formats) where
  -- what paths reach on the one medium is on the other
  abbrev pub Keeps : Medium → Medium → List (Option ℕ) → Type 0
  Keeps X Y table = (address : ℕ) → IsReached (graph_of formats X table) address → IsKeptUnder (graph_of formats X table) (graph_of formats Y table) address

  -- The second medium is beside the first, and has the nodes of the state to which that one recovers.
  pub record Follows (capacity volume : ℕ) (M N : Medium) (S : State) : Type 0 where
    pub beside : AreBeside formats 0 M N
    pub keeps : (stands : RecoversTo formats capacity volume M S) → Keeps (take stands.at M) (take stands.at N) stands.tells.table.entries

  pub follows_itself : (capacity volume : ℕ) (M : Medium) (S : State) → Follows capacity volume M M S
  follows_itself capacity volume M S = record { beside = beside_itself formats 0 M; keeps = λ stands address reached s there. there }

  module _ (exact : AreExact formats) (bounded : AreBounded formats) (distinct : AreDistinct formats) (capacity volume : ℕ) (M N : Medium) (S : State) (both : Follows capacity volume M N S)
      (stands : RecoversTo formats capacity volume M S) (r : Request) (blocks : List Block) (mark : Block) (p : IsPlanned formats capacity volume M S stands r blocks mark) where
    abbrev V : List (Option ℕ)
    V = stands.tells.table.entries

    abbrev W : List (Option ℕ)
    W = reached_in.W formats exact bounded distinct capacity volume M S stands r blocks mark p

    size : length N ≡ length M
    size = beside_size formats 0 M N both.beside

    low : partition_start ≤ length M
    low = reached_in.low formats exact bounded distinct capacity volume M S stands r blocks mark p

    inside : stands.at < length M
    inside = within formats M stands.at stands.block stands.last

    below : AreBeside formats 0 (take stands.at M) (take stands.at N)
    below = beside_take formats stands.at 0 M N both.beside

    abbrev out : CarriesOut formats capacity volume M S stands r blocks mark
    out = reached_in.carries formats exact bounded distinct capacity volume M S stands r blocks mark p

    module _ (address : ℕ) (s : Stored) (st : IsStoredAt formats (M ++ blocks) W address s) where
      -- a node that was written
      stays_written : (found : (t : Stored) × IsStoredAt formats (M ++ blocks) W address t × IsStoredAt formats (N ++ blocks) W address t) → IsStoredAt formats (N ++ blocks) W address s
      stays_written (t, here, there) = subst (λ (u : Stored). IsStoredAt formats (N ++ blocks) W address u) (stored_one formats exact (M ++ blocks) W address t s here st) there

      -- one that was there before
      stays_old : slice_get W address ≡ slice_get V address → IsReached (graph_of formats (take stands.at M) V) address → IsStoredAt formats (N ++ blocks) W address s
      stays_old same reached =
          let (t, there) = stored_there (graph_of formats (take stands.at M) V) S.tree (stored_one formats exact (take stands.at M) V) stands.tells.tree stands.tells.makes address reached in
          let old = (stored_same formats exact (take stands.at M) (drop stands.at M ++ blocks) V W address same t there s).1 (subst (λ (X : Medium). IsStoredAt formats X W address s) (split stands.at M blocks) st) in
          subst (λ (X : Medium). IsStoredAt formats X W address s) (sym (split stands.at N blocks))
          (stored_more formats (take stands.at N) (drop stands.at N ++ blocks) V W address same s (both.keeps stands address reached s old))

      stays : IsReached (graph_of formats (M ++ blocks) W) address → IsStoredAt formats (N ++ blocks) W address s
      stays reached = elim (used_after V p.written p.gone address st.number st.used) [
        | inl same ↦ elim (reached_in.reached_before formats exact bounded distinct capacity volume M S stands r blocks mark p address reached) [
          | inl before ↦ stays_old same before
          | inr new ↦ absurd (unused_least V st.number (ap (λ (a : ℕ). slice_get V a) (sym new) ∙ sym same ∙ st.used))
        ]
        | inr there ↦ stays_written (subst (λ (bs : List Block). (t : Stored) × IsStoredAt formats (M ++ bs) W address t × IsStoredAt formats (N ++ bs) W address t) (sym p.blocks_are)
            (nodes_beside formats exact distinct (take stands.at M) (take stands.at N) below V (both.keeps stands) p.nodes M N (drop stands.at M) (drop stands.at N)
            (sym (take-append-drop stands.at M)) (sym (take-append-drop stands.at N)) size low (length M - partition_start) p.node_blocks p.written refl p.writes p.keep p.table_blocks W address st.number st.used there))
      ]

    pub kept_after : Keeps (M ++ blocks) (N ++ blocks) W
    kept_after address reached s st = stays address s st reached

    -- ---- the mark

    -- the table's bytes are in the commit's own blocks
    held : (X : Medium) → length X ≡ length M → IsWithin (X ++ blocks) p.first (length p.bytes) × (extent (X ++ blocks) p.first (length p.bytes) ≡ packed p.bytes)
    held X same =
        let from = length M - partition_start + length p.node_blocks in
        let as_stored : (X ++ p.node_blocks) ++ (p.table_blocks ++ []) ≡ X ++ blocks =
        ap (λ (bs : List Block). (X ++ p.node_blocks) ++ bs) (append-nil p.table_blocks) ∙ append_assoc X p.node_blocks p.table_blocks ∙ ap (λ (bs : List Block). X ++ bs) (sym p.blocks_are) in
        subst (λ (Y : Medium). IsWithin Y p.first (length p.bytes) × (extent Y p.first (length p.bytes) ≡ packed p.bytes)) as_stored
        (placed_extent formats (X ++ p.node_blocks) p.bytes from p.first p.table_blocks [] (omega (arith, low, same, length-append X p.node_blocks)) (omega (arith, low, same, length-append X p.node_blocks)) p.placed)

    has_other : HasTable formats (N ++ blocks) (length M + length blocks) mark out.table (after_one S r).moment
    has_other =
        let fields = exact.entry mark (length M + length blocks - partition_start) out.has.fields _ out.has.entry p.mark_is in
        let count : out.has.fields.size ≡ length p.bytes = ap (λ (f : NodeFields). f.size) fields in
        let first : out.has.first ≡ p.first = same_first out.has.first p.first (sym out.has.place ∙ ap (λ (f : NodeFields). f.place) fields) in
        let same : extent (M ++ blocks) out.has.first out.has.fields.size ≡ extent (N ++ blocks) out.has.first out.has.fields.size =
        subst₂ (λ (f n : ℕ). extent (M ++ blocks) f n ≡ extent (N ++ blocks) f n) (sym first) (sym count) ((held M refl).1 ∙ sym (held N size).1) in
        record {
          fields = out.has.fields;
          kind = out.has.kind;
          entry = out.has.entry;
          moment_is = out.has.moment_is;
          first = out.has.first;
          place = out.has.place;
          within = subst₂ (λ (f n : ℕ). IsWithin (N ++ blocks) f n) (sym first) (sym count) (held N size).0;
          is = subst (λ (bs : List Block). formats.IsTable out.table (length M + length blocks - partition_start) (bytes_in_blocks out.has.fields.size bs)) same out.has.is;
        }

    front : take partition_start (take stands.at M) ≡ take partition_start (N ++ blocks)
    front =
        let same : take partition_start N ≡ take partition_start M = part_same 0 partition_start M N size (λ i b from high e. stays_there formats M N i b both.beside e (λ t. absurd (omega (arith, t.0, high)))) in
        take-take partition_start stands.at M stands.last.is.0 ∙ sym same ∙ sym (take-append-le partition_start N blocks (omega (arith, low, size)))

    set_stays : slice_get (N ++ blocks) (stands.tells.set_number + partition_start) ≡ Some stands.tells.set_block
    set_stays =
        let i = stands.tells.set_number + partition_start in
        let there = stays_there formats (take stands.at M) (take stands.at N) i stands.tells.set_block below stands.tells.set_there
        (λ (far, fields, table, is). distinct.set stands.tells.table.label stands.tells.formatted stands.tells.set_block stands.tells.set_is (i - partition_start) fields is) in
        ap (λ (X : Medium). slice_get X i) (split stands.at N blocks)
        ∙ get-append (take stands.at N) (drop stands.at N ++ blocks) i (slice_get_within (take stands.at N) i stands.tells.set_block there) ∙ there

    made : Made (graph_of formats (M ++ blocks) W) (after_one S r).tree (after_one S r).next_identity
    made = made_after (graph_of formats (take stands.at M) V) (graph_of formats (M ++ blocks) W) S r (stored_one formats exact (take stands.at M) V) (stored_one formats exact (M ++ blocks) W)
        (record { is = stands.tells.tree; makes = stands.tells.makes; identities = stands.tells.identities }) (reached_in.follows formats exact bounded distinct capacity volume M S stands r blocks mark p)

    same_entries : out.table.entries ≡ W
    same_entries = reached_in.same_entries formats exact bounded distinct capacity volume M S stands r blocks mark p

    tells_other : Describes formats capacity volume (N ++ blocks) (length M + length blocks) mark (after_one S r)
    tells_other = record {
      table = out.table;
      has = has_other;
      commits = out.commits;
      next_identity = out.next_identity;
      records = out.records;
      table_length = out.table_length;
      formatted = stands.tells.formatted;
      front = subst₂ (λ (l : List ℕ) (bs : List Block). formats.IsFront l stands.tells.formatted volume bs) (sym out.label) front stands.tells.front;
      fits = stands.tells.fits;
      set_number = stands.tells.set_number;
      set_used = out.set ∙ stands.tells.set_used;
      set_block = stands.tells.set_block;
      set_there = set_stays;
      set_is = subst (λ (l : List ℕ). formats.IsFileSet l stands.tells.formatted stands.tells.set_block) (sym out.label) stands.tells.set_is;
      tree = made.is;
      makes = subst (λ (X : List (Option ℕ)). MakesTree (graph_of formats (N ++ blocks) X) (after_one S r).tree) (sym same_entries)
          (makes_kept (graph_of formats (M ++ blocks) W) (graph_of formats (N ++ blocks) W) (after_one S r).tree (stored_one formats exact (M ++ blocks) W) (stored_one formats exact (N ++ blocks) W) made.is made.makes kept_after);
      identities = made.identities;
      files = out.files;
      directories = out.directories;
      few_commits = omega (arith, inside, out.some, stands.tells.few_commits);
      few_identities = few_after S r stands.tells.few_identities;
    }

    last_at : (X : Medium) → length X ≡ length M → IsLast formats ((X ++ blocks) ++ mark ∷ []) (length M + length blocks) mark
    last_at X same = record {
      there = get_past (X ++ blocks) (mark ∷ []) (length M + length blocks) 0 (omega (arith, same, length-append X blocks));
      is = (omega (arith, low), out.has.fields, out.has.kind, out.has.entry);
      no_later = λ later b lt e t. absurd (omega (arith, lt, same, slice_get_within ((X ++ blocks) ++ mark ∷ []) later b e, length-append (X ++ blocks) (mark ∷ []), length-append X blocks));
    }

    -- with its mark the commit is recovered on the second medium too
    pub stands_other : RecoversTo formats capacity volume (N ++ (blocks ++ mark ∷ [])) (after_one S r)
    stands_other = subst (λ (X : Medium). RecoversTo formats capacity volume X (after_one S r)) (append_assoc N blocks (mark ∷ [])) (record {
      at = length M + length blocks;
      block = mark;
      last = last_at N size;
      tells = subst (λ (X : Medium). Describes formats capacity volume X (length M + length blocks) mark (after_one S r))
          (sym (take_at (N ++ blocks) (mark ∷ []) (length M + length blocks) (let e : length (N ++ blocks) ≡ length M + length blocks = omega (arith, size, length-append N blocks) in e))) tells_other;
    })

    -- the last table of that medium
    pub table_other : (t : LastTable formats (N ++ (blocks ++ mark ∷ []))) → t.table ≡ out.table
    table_other t = last_table_one formats exact (N ++ (blocks ++ mark ∷ [])) t (record {
      at = length M + length blocks;
      block = mark;
      last = subst (λ (X : Medium). IsLast formats X (length M + length blocks) mark) (append_assoc N blocks (mark ∷ [])) (last_at N size);
      table = out.table;
      moment = (after_one S r).moment;
      has = subst (λ (X : Medium). HasTable formats X (length M + length blocks) mark out.table (after_one S r).moment)
          (sym (ap (λ (X : Medium). take (length M + length blocks) X) (sym (append_assoc N blocks (mark ∷ []))) ∙ take_at (N ++ blocks) (mark ∷ []) (length M + length blocks) (let e : length (N ++ blocks) ≡ length M + length blocks = omega (arith, size, length-append N blocks) in e)))
          has_other;
    })

    -- and whatever is in place of its mark, the second medium follows the first
    pub follows_next : (last : Block) → Follows capacity volume (M ++ (blocks ++ mark ∷ [])) (N ++ (blocks ++ last ∷ [])) (after_one S r)
    follows_next last = record {
      beside = beside_append formats 0 M N (blocks ++ mark ∷ []) (blocks ++ last ∷ []) both.beside
          (beside_append formats (0 + length M) blocks blocks (mark ∷ []) (last ∷ []) (beside_itself formats (0 + length M) blocks) (inr is_mark, tt));
      keeps = keeps_next;
    }
      where
        is_mark : IsVatIcbAt formats mark (0 + length M + length blocks)
        is_mark = subst (λ n. IsVatIcbAt formats mark n) (let e : length M + length blocks ≡ 0 + length M + length blocks = omega arith in e) (omega (arith, low), out.has.fields, out.has.kind, out.has.entry)

        cut : (X : Medium) (b : Block) (n : ℕ) → length X ≡ length M → n ≡ length M + length blocks → take n (X ++ (blocks ++ b ∷ [])) ≡ X ++ blocks
        cut X b n same is = ap (λ (Y : Medium). take n Y) (sym (append_assoc X blocks (b ∷ []))) ∙ take_at (X ++ blocks) (b ∷ []) n (let e : length (X ++ blocks) ≡ n = omega (arith, is, same, length-append X blocks) in e)

        keeps_next : (later : RecoversTo formats capacity volume (M ++ (blocks ++ mark ∷ [])) (after_one S r)) → Keeps (take later.at (M ++ (blocks ++ mark ∷ []))) (take later.at (N ++ (blocks ++ last ∷ []))) later.tells.table.entries
        keeps_next later =
            let all = M ++ (blocks ++ mark ∷ []) in
            let is_last : IsLast formats all (length M + length blocks) mark = subst (λ (X : Medium). IsLast formats X (length M + length blocks) mark) (append_assoc M blocks (mark ∷ [])) (last_at M refl) in
            let at : later.at ≡ length M + length blocks = last_one formats all later.at (length M + length blocks) later.block mark later.last is_last in
            let block : later.block ≡ mark = same_Some later.block mark (sym later.last.there ∙ ap (λ n. slice_get all n) at ∙ is_last.there) in
            let here : take later.at all ≡ M ++ blocks = cut M mark later.at refl at in
            let there : take later.at (N ++ (blocks ++ last ∷ [])) ≡ N ++ blocks = cut N last later.at size at in
            let has = subst₂ (λ (n : ℕ) (b : Block). HasTable formats (M ++ blocks) n b later.tells.table (after_one S r).moment) at block
            (subst (λ (X : Medium). HasTable formats X later.at later.block later.tells.table (after_one S r).moment) here later.tells.has) in
            let table = (table_one formats exact (M ++ blocks) (length M + length blocks) mark later.tells.table out.table (after_one S r).moment (after_one S r).moment has out.has).0 in
            let entries : later.tells.table.entries ≡ W = ap (λ (t : Table_). t.entries) table ∙ same_entries in
            subst (λ (T : List (Option ℕ)). Keeps (take later.at all) (take later.at (N ++ (blocks ++ last ∷ []))) T) (sym entries)
            (subst₂ (λ (X Y : Medium). Keeps X Y W) (sym here) (sym there) kept_after)
