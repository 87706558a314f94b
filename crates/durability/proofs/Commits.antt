-- A commit: at each prefix of it the old state is recovered, and at its end the state after the request.
use Rattle.std.proofs.Common.{◌≡◌, ◌⊎◌, inl, inr, ℕ, suc, ◌+◌, ◌-◌, ◌≤◌, ◌<◌, List, [], ◌∷◌, ◌++◌, length, take, drop, slice_get, Option, Some, refl, sym, ◌∙◌, ap, subst, subst₂, arith, append_assoc, length-append}
use Rattle.std.proofs.lemmas.Option.{slice_get_within}
use Rattle.std.proofs.lemmas.List.{take-append-le, take-take, take-append-drop, take_at, take_all}
use Rattle.model.specs.Session.{State, Request, after_one}
use Rattle.model.specs.Change.{IsReached, IsKeptUnder}
use Rattle.model.proofs.Maps.{some_at}
use Rattle.model.proofs.Made.{reach_has, reach_one}
use Rattle.durability.specs.Formats.{Block, Formats, AreExact}
use Rattle.durability.specs.Volume.{Medium, partition_start, graph_of, IsStoredAt, NoneImitates, IsLast, HasTable, Describes, RecoversTo, RecoveredBefore, RecoveredTo}
use Rattle.durability.specs.Step.{Moves, CarriesOut}
use Rattle.durability.proofs.Lists.{side, get-append, get_past, take_past}
use Rattle.durability.proofs.Mediums.{Before, none-take, within, stands_more, stood_less, past_both}
use Rattle.durability.proofs.History.{cut, none_after, before, cut_same, commits_of}
use Rattle.durability.proofs.Stored.{stored_one, stored_more}
use Rattle.durability.proofs.Trees.{Made, made_after, few_after}

-- a medium that goes on, from any of its addresses on
split : (at : ℕ) (B bs : Medium) → B ++ bs ≡ take at B ++ (drop at B ++ bs)
split at B bs = ap (λ (M : Medium). M ++ bs) (sym (take-append-drop at B)) ∙ append_assoc (take at B) (drop at B) bs

module _ (formats : Formats) (capacity volume : ℕ) where
  module _ (B bs : Medium) (S : State) (none : NoneImitates formats (length B) bs) (stands : RecoversTo formats capacity volume B S) where
    -- the old state is recovered at each prefix of blocks none of which imitates
    pub stands_front : (j : ℕ) → RecoversTo formats capacity volume (B ++ take j bs) S
    stands_front j = stands_more formats B (take j bs) (none-take formats j (length B) bs none) capacity volume S stands

    are_fields_at : (k : ℕ) (M : Medium) → length B ≤ k → take k M ≡ take k (B ++ bs) → RecoversTo formats capacity volume (take k M) S
    are_fields_at k M low e =
        let j : k ≡ length B + (k - length B) = omega arith in
        subst (λ (N : Medium). RecoversTo formats capacity volume N S) (sym (e ∙ take_past k (k - length B) B bs j)) (stands_front (k - length B))

  -- a prefix of a commit, without its last block
  pub moves_front : (B bs : Medium) (S : State) → NoneImitates formats (length B) bs → RecoversTo formats capacity volume B S → Moves formats capacity volume B S (B ++ bs) S
  moves_front B bs S none stands = record {
    more = (bs, refl);
    fronts = λ k low high. are_fields_at B bs S none stands k (B ++ bs) low refl;
    ends = stands_more formats B bs none capacity volume S stands;
    past = λ k T past. (past_both formats capacity volume T B bs none k).0 past;
  }

  module _ (exact : AreExact formats) (B bs : Medium) (mark : Block) (S : State) (r : Request) (stands : RecoversTo formats capacity volume B S) (out : CarriesOut formats capacity volume B S stands r bs mark) where
    inside : stands.at < length B
    inside = within formats B stands.at stands.block stands.last

    size : length (B ++ bs) ≡ length B + length bs
    size = length-append B bs

    last : IsLast formats ((B ++ bs) ++ mark ∷ []) (length B + length bs) mark
    last = record {
      there = get_past (B ++ bs) (mark ∷ []) (length B + length bs) 0 (omega (arith, size));
      is = (omega (arith, inside, stands.last.is.0), out.has.fields, out.has.kind, out.has.entry);
      no_later = λ later other lt e t. absurd (omega (arith, size, slice_get_within ((B ++ bs) ++ mark ∷ []) later other e, length-append (B ++ bs) (mark ∷ [])));
    }

    front : take partition_start (take stands.at B) ≡ take partition_start (B ++ bs)
    front = take-take partition_start stands.at B stands.last.is.0 ∙ sym (take-append-le partition_start B bs (omega (arith, inside, stands.last.is.0)))

    stays : (i : ℕ) (b : Block) → slice_get (take stands.at B) i ≡ Some b → slice_get (B ++ bs) i ≡ Some b
    stays i b e = ap (λ (M : Medium). slice_get M i) (split stands.at B bs) ∙ get-append (take stands.at B) (drop stands.at B ++ bs) i (slice_get_within (take stands.at B) i b e) ∙ e

    made : Made (graph_of formats (B ++ bs) out.table.entries) (after_one S r).tree (after_one S r).next_identity
    made = made_after (graph_of formats (take stands.at B) stands.tells.table.entries) (graph_of formats (B ++ bs) out.table.entries) S r
        (stored_one formats exact (take stands.at B) stands.tells.table.entries) (stored_one formats exact (B ++ bs) out.table.entries)
        (record { is = stands.tells.tree; makes = stands.tells.makes; identities = stands.tells.identities }) out.follows

    tells : Describes formats capacity volume (B ++ bs) (length B + length bs) mark (after_one S r)
    tells = record {
      table = out.table;
      has = out.has;
      commits = out.commits;
      next_identity = out.next_identity;
      records = out.records;
      table_length = out.table_length;
      formatted = stands.tells.formatted;
      front = subst₂ (λ (l : List ℕ) (blocks : List Block). formats.IsFront l stands.tells.formatted volume blocks) (sym out.label) front stands.tells.front;
      fits = stands.tells.fits;
      set_number = stands.tells.set_number;
      set_used = out.set ∙ stands.tells.set_used;
      set_block = stands.tells.set_block;
      set_there = stays (stands.tells.set_number + partition_start) stands.tells.set_block stands.tells.set_there;
      set_is = subst (λ (l : List ℕ). formats.IsFileSet l stands.tells.formatted stands.tells.set_block) (sym out.label) stands.tells.set_is;
      tree = made.is;
      makes = made.makes;
      identities = made.identities;
      files = out.files;
      directories = out.directories;
      few_commits = omega (arith, inside, out.some, stands.tells.few_commits);
      few_identities = few_after S r stands.tells.few_identities;
    }

    stands_end : RecoversTo formats capacity volume ((B ++ bs) ++ mark ∷ []) (after_one S r)
    stands_end = record {
      at = length B + length bs;
      block = mark;
      last = last;
      tells = subst (λ (M : Medium). Describes formats capacity volume M (length B + length bs) mark (after_one S r)) (sym (take_at (B ++ bs) (mark ∷ []) (length B + length bs) size)) tells;
    }

    -- the chain goes on from the old table entry
    past_end : (k : ℕ) (T : State) → RecoveredTo formats capacity volume B k T → RecoveredTo formats capacity volume ((B ++ bs) ++ mark ∷ []) k T
    past_end k T (old, steps, count, stood) =
        let same : take ((stands.at - partition_start) + 258) ((B ++ bs) ++ mark ∷ []) ≡ cut formats capacity volume B S stands =
        cut_same formats capacity volume B S stands (bs ++ mark ∷ []) ((B ++ bs) ++ mark ∷ []) (append_assoc B bs (mark ∷ [])) in
        let commits = commits_of formats exact capacity volume B S stands old in
        let tail = subst (Before formats steps capacity volume T (stands.at - partition_start + partition_start) out.table.commits) (sym same) (
          before formats capacity volume B S stands,
          omega (arith, stands.last.is.0),
          omega (arith, stands.tells.commits, out.commits),
          stood_less formats capacity volume T steps (cut formats capacity volume B S stands) (drop (stands.at + 1) B) (none_after formats capacity volume B S stands)
              (subst (λ (M : Medium). RecoveredBefore formats steps capacity volume M T) (sym (take-append-drop (stands.at + 1) B)) stood),
        ) in (
          record {
            at = length B + length bs;
            block = mark;
            last = last;
            table = out.table;
            moment = (after_one S r).moment;
            has = subst (λ (M : Medium). HasTable formats M (length B + length bs) mark out.table (after_one S r).moment) (sym (take_at (B ++ bs) (mark ∷ []) (length B + length bs) size)) out.has;
          },
          suc steps,
          omega (arith, count, commits, out.commits),
          (
            record {
              at = length B + length bs;
              block = mark;
              last = last;
              table = out.table;
              moment = (after_one S r).moment;
              has = subst (λ (M : Medium). HasTable formats M (length B + length bs) mark out.table (after_one S r).moment) (sym (take_at (B ++ bs) (mark ∷ []) (length B + length bs) size)) out.has;
            },
            stands.at - partition_start,
            out.previous,
            tail.0,
            tail.1,
            tail.2,
            tail.3,
          ),
        )

    -- a whole commit
    pub moves_whole : Moves formats capacity volume B S ((B ++ bs) ++ mark ∷ []) (after_one S r)
    moves_whole = record {
      more = (bs ++ mark ∷ [], append_assoc B bs (mark ∷ []));
      fronts = λ k low high. are_fields_at B bs S out.none stands k ((B ++ bs) ++ mark ∷ []) low (take-append-le k (B ++ bs) (mark ∷ []) (omega (arith, high, size, length-append (B ++ bs) (mark ∷ []))));
      ends = stands_end;
      past = past_end;
    }

    -- Whichever prefix of a commit's blocks is written: the old state is recovered after it, or all of them are there and the new one is.
    pub moves_some : (j : ℕ) → j ≤ length (bs ++ mark ∷ [])
        → Moves formats capacity volume B S (B ++ take j (bs ++ mark ∷ [])) S ⊎ ((j ≡ length (bs ++ mark ∷ [])) × Moves formats capacity volume B S (B ++ take j (bs ++ mark ∷ [])) (after_one S r))
    moves_some j le = go (side j (length (bs ++ mark ∷ [])))
      where
        go : (j < length (bs ++ mark ∷ [])) ⊎ (length (bs ++ mark ∷ []) ≤ j)
            → Moves formats capacity volume B S (B ++ take j (bs ++ mark ∷ [])) S ⊎ ((j ≡ length (bs ++ mark ∷ [])) × Moves formats capacity volume B S (B ++ take j (bs ++ mark ∷ [])) (after_one S r))
        go (inl lt) =
            let part : take j (bs ++ mark ∷ []) ≡ take j bs = take-append-le j bs (mark ∷ []) (omega (arith, lt, length-append bs (mark ∷ []))) in
            inl (subst (λ (cs : Medium). Moves formats capacity volume B S (B ++ cs) S) (sym part) (moves_front B (take j bs) S (none-take formats j (length B) bs out.none) stands))
        go (inr ge) =
            let whole : take j (bs ++ mark ∷ []) ≡ bs ++ mark ∷ [] = take_all j (bs ++ mark ∷ []) ge in
            let e : B ++ take j (bs ++ mark ∷ []) ≡ (B ++ bs) ++ mark ∷ [] = ap (λ (cs : Medium). B ++ cs) whole ∙ sym (append_assoc B bs (mark ∷ [])) in
            inr (omega arith, subst (λ (M : Medium). Moves formats capacity volume B S M (after_one S r)) (sym e) moves_whole)

  -- an address whose entry in a new table is the old one keeps what is stored
  pub keeps : (B bs : Medium) (S : State) (stands : RecoversTo formats capacity volume B S) (V : List (Option ℕ)) (address : ℕ) → slice_get V address ≡ slice_get stands.tells.table.entries address
      → IsKeptUnder (graph_of formats (take stands.at B) stands.tells.table.entries) (graph_of formats (B ++ bs) V) address
  keeps B bs S stands V address same s g = subst (λ (M : Medium). graph_of formats M V address s) (sym (split stands.at B bs))
      (stored_more formats (take stands.at B) (drop stands.at B ++ bs) stands.tells.table.entries V address same s g)

  -- an address that a path reaches has an entry in the table
  pub reached_used : AreExact formats → (B : Medium) (S : State) (stands : RecoversTo formats capacity volume B S) (address : ℕ)
      → IsReached (graph_of formats (take stands.at B) stands.tells.table.entries) address → (number : ℕ) × (slice_get stands.tells.table.entries address ≡ Some (Some number))
  reached_used exact B S stands address (path, reach) =
      let graph = graph_of formats (take stands.at B) stands.tells.table.entries in
      let one = stored_one formats exact (take stands.at B) stands.tells.table.entries in
      let h = reach_has graph S.tree one stands.tells.tree stands.tells.makes path address reach in
      let at = some_at S.tree path h in
      let found = (stands.tells.makes.reached path at.0).0 at.1 in
      let same = reach_one graph S.tree one stands.tells.tree stands.tells.makes path found.0 address found.1 reach in
      let stored = subst (λ (a : ℕ). IsStoredAt formats (take stands.at B) stands.tells.table.entries a found.2) same found.3 in
      (stored.number, stored.used)
