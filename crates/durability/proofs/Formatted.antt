-- A format: before its last block nothing is recovered, and then the new volume.
use Rattle.std.proofs.Common.{◌≡◌, ℕ, ◌+◌, ◌≤◌, ◌==◌, List, [], ◌∷◌, ◌++◌, take, slice_get, true, false, Bool, refl, sym, ◌∙◌, ap, subst, arith, length-append}
use Rattle.std.proofs.lemmas.Bool.{eqb-true}
use Rattle.std.proofs.lemmas.Option.{none-some, same_Some, slice_get_within}
use Rattle.std.proofs.lemmas.List.{take-append-le, take_at}
use Rattle.model.specs.Session.{State, formatted, root_alone}
use Rattle.model.specs.Graph.{Stored, as_stored}
use Rattle.model.specs.Graph.Body.{Entries}
use Rattle.model.specs.Change.{stored_in, root_stored}
use Rattle.model.proofs.Made.{one_in}
use Rattle.model.proofs.Fresh.{sound_fresh, made_fresh, no_files, one_directory}
use Rattle.durability.specs.Formats.{Block, Formats, AreExact}
use Rattle.durability.specs.Volume.{Medium, partition_start, graph_of, IsStoredAt, IsVatIcbAt, IsLast, Describes, RecoversTo}
use Rattle.durability.specs.Step.{IsFormat}
use Rattle.durability.proofs.Lists.{get_past}
use Rattle.durability.proofs.Mediums.{none_take_at}
use Rattle.durability.proofs.Stored.{stored_one}
use Rattle.durability.proofs.Trees.{makes_kept}

module _ (formats : Formats) (capacity volume : ℕ) (label : List ℕ) (moment : ℕ) (blocks : List Block) (mark : Block) (is : IsFormat formats capacity volume label moment blocks mark) where
  -- nothing is recovered before the last block
  pub none_before : (k : ℕ) (S : State) → k ≤ 261 → RecoversTo formats capacity volume (take k (blocks ++ mark ∷ [])) S → ⊥
  none_before k S le s =
      let front : take k (blocks ++ mark ∷ []) ≡ take k blocks = take-append-le k blocks (mark ∷ []) (omega (arith, is.long)) in
      none_take_at formats 0 k blocks is.none s.at s.block (ap (λ (M : Medium). slice_get M s.at) (sym front) ∙ s.last.there) (subst (λ n. IsVatIcbAt formats s.block n) (let e : s.at ≡ 0 + s.at = omega arith in e) s.last.is)

  pub last : IsLast formats (blocks ++ mark ∷ []) 261 mark
  last = record {
    there = get_past blocks (mark ∷ []) 261 0 (omega (arith, is.long));
    is = (omega arith, is.has.fields, is.has.kind, is.has.entry);
    no_later = λ later other lt e t. absurd (omega (arith, is.long, slice_get_within (blocks ++ mark ∷ []) later other e, length-append blocks (mark ∷ [])));
  }

  root_kept : (address : ℕ) (s : Stored) → stored_in (root_stored moment) address s → graph_of formats blocks is.table.entries address s
  root_kept address s e = go (address == 1) refl
    where
      go : (b : Bool) → (address == 1) ≡ b → graph_of formats blocks is.table.entries address s
      go true t =
          let one : address ≡ 1 = eqb-true address 1 t in
          let stored : as_stored 0 moment (Entries 1 []) ≡ s = same_Some (as_stored 0 moment (Entries 1 [])) s (rw t at e) in
          rw one (subst (λ (x : Stored). IsStoredAt formats blocks is.table.entries 1 x) stored is.root)
      go false f = absurd (none-some s (rw f at e))

  pub format_stands : AreExact formats → RecoversTo formats capacity volume (blocks ++ mark ∷ []) (formatted moment)
  format_stands exact = record {
    at = 261;
    block = mark;
    last = last;
    tells = subst (λ (M : Medium). Describes formats capacity volume M 261 mark (formatted moment)) (sym (take_at blocks (mark ∷ []) 261 is.long)) (record {
      table = is.table;
      has = is.has;
      commits = is.commits;
      next_identity = is.next_identity;
      records = is.records;
      table_length = is.table_length;
      formatted = moment;
      front = subst (λ (l : List ℕ). formats.IsFront l moment volume (take partition_start blocks)) (sym is.label_is) is.front;
      fits = is.fits;
      set_number = is.set_number;
      set_used = is.set_used;
      set_block = is.set_block;
      set_there = is.set_there;
      set_is = subst (λ (l : List ℕ). formats.IsFileSet l moment is.set_block) (sym is.label_is) is.set_is;
      tree = (sound_fresh moment).tree;
      makes = makes_kept (stored_in (root_stored moment)) (graph_of formats blocks is.table.entries) (root_alone moment) (one_in (root_stored moment)) (stored_one formats exact blocks is.table.entries) (sound_fresh moment).tree (made_fresh moment)
          (λ address reached s e. root_kept address s e);
      identities = (sound_fresh moment).identities;
      files = is.files ∙ sym (no_files moment);
      directories = is.directories ∙ sym (one_directory moment);
      few_commits = omega arith;
      few_identities = omega arith;
    });
  }
