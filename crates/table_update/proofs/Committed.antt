-- The planned blocks of a request on a journal, all of them or a prefix.
use Rattle.std.proofs.Common.{◌≡◌, ◌⊎◌, inl, inr, ℕ, suc, ◌+◌, ◌<◌, ◌≤◌, List, [], ◌∷◌, ◌++◌, length, refl, sym, ap, ◌∙◌, subst, arith, append_assoc, length-append}
use Rattle.std.proofs.lemmas.List.{take_at}
use Rattle.std.proofs.lemmas.Option.{slice_get_within}
use Rattle.limits.specs.declared.TheConstants.{PARTITION_START}
use Rattle.drive.specs.Journal.{Event, held, Once, AddsPrefix, written}
use Rattle.drive.proofs.Fronts.{front_whole, front_keeps, front_once, front_grows, held_write}
use Rattle.model.specs.Session.{State, Request, after_one}
use Rattle.durability.specs.Formats.{Block}
use Rattle.durability.specs.Volume.{Medium, IsLast, HasTable, LastTable, RecoversTo}
use Rattle.durability.specs.Step.{Moves}
use Rattle.durability.specs.Plan.{IsPlanned}
use Rattle.durability.specs.Commit.{need}
use Rattle.durability.specs.Journal.{Advances}
use Rattle.durability.proofs.Commits.{moves_whole}
use Rattle.durability.proofs.History.{last_table_one}
use Rattle.durability.proofs.Lists.{get_past}
use Rattle.durability.proofs.Mediums.{within}
use Rattle.durability.proofs.Needs.{planned_short}
use Rattle.durability.proofs.One.{last_one}
use Rattle.durability.proofs.OnJournals.{commit_advances}
use Rattle.durability.proofs.Planned.{has_table, planned_carries}
use Rattle.udf.specs.Udf.{udf, spelled_length}
use Rattle.udf.proofs.Formats.{exact, bounded, distinct, short}
use Rattle.table_update.specs.Commits.{IsPart, CommitsArePart, CommitsAreWhole, TablesRecover}

module _ (capacity volume : ℕ) (J K : List Event) (S : State) (r : Request) (blocks : List Block) (mark : Block) (once : Once J) (stands : RecoversTo udf capacity volume (held J) S) (plan : IsPlanned udf capacity volume (held J) S stands r blocks mark) where
  abbrev all : List Block
  all = blocks ++ mark ∷ []

  some_all : 1 ≤ length all
  some_all = omega (arith, length-append blocks (mark ∷ []))

  few_all : length all ≤ need spelled_length S r
  few_all = planned_short udf spelled_length short capacity volume exact bounded distinct (held J) S stands r blocks mark plan

  pub whole : K ≡ J ++ written (length J) all → Advances udf capacity volume J S K (after_one S r) × (length J < length K) × (length K ≤ length J + need spelled_length S r)
  whole is =
      let front : AddsPrefix J (length J) all K = subst (λ (L : List Event). AddsPrefix J (length J) all L) (sym is) (front_whole J (length J) all) in
      let now : held K ≡ (held J ++ blocks) ++ mark ∷ [] = held_write J K (length J) all once refl is ∙ sym (append_assoc (held J) blocks (mark ∷ [])) in
      let size : length K ≡ length J + length all = whole_length is in (
        record {
          front = front_keeps J K (length J) all front;
          once = front_once J K (length J) all once refl front;
          moves = subst (λ (M : Medium). Moves udf capacity volume (held J) S M (after_one S r)) (sym now)
              (moves_whole udf capacity volume exact (held J) blocks mark S r stands (planned_carries udf capacity volume exact distinct (held J) S stands bounded r blocks mark plan));
        },
        omega (arith, size, some_all),
        omega (arith, size, few_all),
      )
    where
      long_written : (at : ℕ) (bs : List Block) → length (written at bs) ≡ length bs
      long_written at [] = refl
      long_written at (b ∷ bs) = omega (arith, long_written (suc at) bs)

      whole_length : K ≡ J ++ written (length J) all → length K ≡ length J + length all
      whole_length e = ap (λ (L : List Event). length L) e ∙ length-append J (written (length J) all) ∙ ap (λ (n : ℕ). length J + n) (long_written (length J) all)

  pub part : AddsPrefix J (length J) all K → IsPart capacity volume J S r K
  part front = go (commit_advances udf capacity volume exact bounded distinct J K S r blocks mark once stands plan front)
    where
      few : length K ≤ length J + need spelled_length S r
      few = omega (arith, (front_grows J K (length J) all front).1, few_all)

      go : Advances udf capacity volume J S K S ⊎ ((length K ≡ length J + length all) × Advances udf capacity volume J S K (after_one S r)) → IsPart capacity volume J S r K
      go (inl stays) = record { done = []; whether = inl refl; advances = stays; few = few }
      go (inr goes) = record { done = r ∷ []; whether = inr (refl, omega (arith, goes.0, some_all)); advances = goes.1; few = few }

pub commits_are_whole : CommitsAreWhole
commits_are_whole capacity volume before afterwards S r blocks mark once stands plan is =
    let w = whole capacity volume before afterwards S r blocks mark once stands plan is in
    record { advances = w.0; some = w.1; few = w.2 }

pub commits_are_part : CommitsArePart
commits_are_part capacity volume before afterwards S r blocks mark once stands plan front = part capacity volume before afterwards S r blocks mark once stands plan front

-- ---- the table after a whole commit

module _ (capacity volume : ℕ) (B : Medium) (S : State) (r : Request) (blocks : List Block) (mark : Block) (stands : RecoversTo udf capacity volume B S) (plan : IsPlanned udf capacity volume B S stands r blocks mark) where
  has : HasTable udf (B ++ blocks) (length B + length blocks) mark plan.table (after_one S r).moment
  has = has_table udf capacity volume exact distinct B S stands bounded r blocks mark plan

  abbrev mark_at : ℕ
  mark_at = length B + length blocks

  abbrev M : Medium
  M = (B ++ blocks) ++ mark ∷ []

  size : length (B ++ blocks) ≡ length B + length blocks
  size = length-append B blocks

  low : PARTITION_START ≤ length B
  low = omega (arith, within udf B stands.at stands.block stands.last, stands.last.is.0)

  last : IsLast udf M mark_at mark
  last = record {
    there = get_past (B ++ blocks) (mark ∷ []) mark_at 0 (omega (arith, size));
    is = (omega (arith, low), has.fields, has.kind, has.entry);
    no_later = λ later other past there is. absurd (omega (arith, past, size, slice_get_within M later other there, length-append (B ++ blocks) (mark ∷ [])));
  }

  abbrev new_table : LastTable udf M
  new_table = record {
    at = mark_at;
    block = mark;
    last = last;
    table = plan.table;
    moment = (after_one S r).moment;
    has = subst (λ (N : Medium). HasTable udf N mark_at mark plan.table (after_one S r).moment) (sym (take_at (B ++ blocks) (mark ∷ []) mark_at size)) has;
  }

  pub table_stands : (T : State) (later : RecoversTo udf capacity volume M T) → (later.at ≡ mark_at) × (later.tells.table ≡ plan.table)
  table_stands T later = (
    last_one udf M later.at mark_at later.block mark later.last last,
    last_table_one udf exact M (record { at = later.at; block = later.block; last = later.last; table = later.tells.table; moment = T.moment; has = later.tells.has }) new_table,
  )

pub tables_stand : TablesRecover
tables_stand capacity volume medium S r blocks mark stands plan T later = table_stands capacity volume medium S r blocks mark stands plan T later
