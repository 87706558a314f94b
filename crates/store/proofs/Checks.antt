-- The states of a chain, as they are shown one by one from the newest back.
use Rattle.std.proofs.Common.{◌≡◌, ◌⊎◌, inl, inr, ℕ, ◌+◌, ◌-◌, ◌<◌, ◌≤◌, List, [], ◌∷◌, ◌++◌, length, Option, Some, None, IsNone, IfSome, Result, Ok, Err, ◌↔◌, refl, sym, ap, subst, ◌∙◌, arith, append_assoc, slice_index_or}
use Rattle.std.specs.Prelude.{IfOk, IfErr, OnOk}
use Rattle.std.proofs.Math.Seq.{get_or-append_seam}
use Rattle.std.proofs.lemmas.List.{length-append}
use Rattle.std.proofs.lemmas.List.Elements.{All-append, All-cons, All-nil}
use Rattle.std.proofs.lemmas.Option.{none-some, same_Some}
use Rattle.limits.specs.declared.TheConstants.{PARTITION_START}
use Rattle.drive.specs.Journal.{Event, held}
use Rattle.durability.specs.Formats.{Table_}
use Rattle.durability.specs.Volume.{RecoversTo}
use Rattle.model.specs.Session as model
use Rattle.udf.specs.Udf.{udf}
use Rattle.vat.specs.Table.{Table}
use Rattle.recover.specs.declared.fault.StoreFault.{StoreFault}
use Rattle.recover.specs.declared.fault.StoreFault.TheVariants.{Device, Memory, Damaged}
use Rattle.recover.specs.declared.state.State.{State}
use Rattle.recover.specs.State.{IsShown, IsStateRefused, DescribesNoState}
use Rattle.recover.specs.Tables.{HasTableAt, IsLastVatIcb}
use Rattle.recover.proofs.States.{last_stands}
use Rattle.recover.proofs.Told.{one_read}
use Rattle.store.specs.declared.history.Commit.{Commit}
use Rattle.store.specs.History.{AreShown, HasUntold, IsChain, IsChecked, IsHistory, IsUnchecked, report_of}
use Rattle.store.specs.Opened.{IsOpenRefused}
use Rattle.store.specs.Past.{CountsCommits, IsCheckRefused, IsRecoveredCheckRefused}
use Rattle.store.proofs.Histories.{GoesOn, ends, goes_on}
use Rattle.store.proofs.Opening.{at_last, not_read, table_is}
use Rattle.store.proofs.Pasts.{IsNewest}
use Rattle.store.proofs.Wholes.{history_stood, unshown, whole}

-- a list ends with all that the chain of a table goes on to
abbrev pub IsLeftToCheck : List (List ℕ) → Table → List Commit → Type 0
IsLeftToCheck M t all = (before : List Commit) × (rest : List Commit) × (all ≡ before ++ rest) × IsChain M t.previous t.commits rest

-- Of these commits the states were shown, the last of them that of this table: with those that its chain goes on to they are
-- all, and whatever list is all ends with those.
pub record Seen (M : List (List ℕ)) (capacity at : ℕ) (t : Table) : Type 0 where
  pub seen : List Commit
  pub goes : GoesOn M at t seen
  pub shown : AreShown capacity M seen
  pub left : (all : List Commit) → IsHistory M at all → IsLeftToCheck M t all

-- what a link leads to, below the address of its VAT ICB
pub link_within : (link : Option ℕ) (at : ℕ) → PARTITION_START ≤ at → IfSome link (λ n. n < at - PARTITION_START) → IfSome link (λ n. n + PARTITION_START < at)
link_within None at low below = tt
link_within (Some n) at low below = omega (arith, low, below)

pub link_under : (link : Option ℕ) (number at : ℕ) → IfSome link (λ n. n < number + PARTITION_START - PARTITION_START) → number + PARTITION_START < at → IfSome link (λ n. n + PARTITION_START < at)
link_under None number at less below = tt
link_under (Some n) number at less below = omega (arith, less, below)

module _ (M : List (List ℕ)) (capacity at : ℕ) where
  abbrev IsAt : Commit → Type 0
  IsAt c = (state : State) × IsShown capacity M c.vat_icb_address state

  -- ---- the states that were shown

  pub first_seen : (t : Table) → HasTableAt M at t → (state : State) → IsShown capacity M at state → Seen M capacity at t
  first_seen t has state shown = record {
    seen = report_of at t ∷ [];
    goes = λ rest chain. (t, has, rest, refl, chain);
    shown = All-cons IsAt (report_of at t) [] (state, shown) (All-nil IsAt);
    left = λ all (u, there, earlier, is, chain). (report_of at u ∷ [], earlier, is, subst (λ (x : Table_). IsChain M x.previous x.commits earlier) (one_read M at u t there has) chain);
  }

  next_left : (number : ℕ) (t u : Table) → t.previous ≡ Some number → HasTableAt M (number + PARTITION_START) u → (all : List Commit) → IsLeftToCheck M t all → IsLeftToCheck M u all
  next_left number t u link has all (before, rest, same, left) = by rest same left
    where
      by : (rest : List Commit) → all ≡ before ++ rest → IsChain M t.previous t.commits rest → IsLeftToCheck M u all
      by [] same (none, count) = absurd (none-some number (sym none ∙ link))
      by (c ∷ earlier) same (n, is, v, there, fewer, says, chain) =
          let place : n ≡ number = same_Some n number (sym is ∙ link) in
          let one = one_read M (number + PARTITION_START) v u (subst (λ (k : ℕ). HasTableAt M (k + PARTITION_START) v) place there) has in
          (before ++ c ∷ [], earlier, same ∙ sym (append_assoc before (c ∷ []) earlier), subst (λ (x : Table_). IsChain M x.previous x.commits earlier) one chain)

  pub next_seen : (number : ℕ) (t u : Table) → Seen M capacity at t → t.previous ≡ Some number → HasTableAt M (number + PARTITION_START) u → u.commits + 1 ≡ t.commits → (state : State) → IsShown capacity M (number + PARTITION_START) state
      → Seen M capacity at u
  next_seen number t u so_far link has fewer state shown =
      let c = report_of (number + PARTITION_START) u in record {
        seen = so_far.seen ++ c ∷ [];
        goes = goes_on M at number t u so_far.seen (so_far.seen ++ c ∷ []) c so_far.goes link has fewer refl refl;
        shown = All-append IsAt so_far.seen (c ∷ []) so_far.shown (All-cons IsAt c [] (state, shown) (All-nil IsAt));
        left = λ all is. next_left number t u link has all (so_far.left all is);
      }

  pub all_seen : (t : Table) → Seen M capacity at t → t.previous ≡ None → (IsNone t.previous ↔ (t.commits ≡ 0)) → IsChecked capacity M at
  all_seen t so_far none first = record { commits = so_far.seen; history = ends M at t so_far.seen so_far.goes none first; shown = so_far.shown }

  -- ---- one that was not

  pub first_unseen : (fault : StoreFault) → IsStateRefused capacity M at fault → IsUnchecked capacity M at fault
  first_unseen Device r = tt
  first_unseen Memory r = tt
  first_unseen (Damaged b c) r = λ all (t, has, earlier, is, chain). (
    0,
    (let some : 0 < length all = omega (arith, ap (λ (cs : List Commit). length cs) is) in some),
    λ d. subst (λ (cs : List Commit). DescribesNoState capacity M (slice_index_or cs 0 d).vat_icb_address) (sym is) r,
  )
  first_unseen _ r = absurd r

  pub next_unseen : (number : ℕ) (t : Table) → Seen M capacity at t → t.previous ≡ Some number → (fault : StoreFault) → IsStateRefused capacity M (number + PARTITION_START) fault → IsUnchecked capacity M at fault
  next_unseen number t so_far link Device r = tt
  next_unseen number t so_far link Memory r = tt
  next_unseen number t so_far link (Damaged b cause) r = λ all is. by all (so_far.left all is)
    where
      by : (all : List Commit) → IsLeftToCheck M t all → HasUntold capacity M all
      by all (before, [], same, (none, count)) = absurd (none-some number (sym none ∙ link))
      by all (before, (c ∷ earlier), same, (n, is, v, there, fewer, says, chain)) =
          let place : number + PARTITION_START ≡ c.vat_icb_address = ap (λ (k : ℕ). k + PARTITION_START) (sym (same_Some n number (sym is ∙ link))) ∙ sym (ap (λ (e : Commit). e.vat_icb_address) says) in (
            length before,
            (let less : length before < length all = omega (arith, length-append before (c ∷ earlier), ap (λ (cs : List Commit). length cs) same) in less),
            λ d. subst (λ (cs : List Commit). DescribesNoState capacity M (slice_index_or cs (length before) d).vat_icb_address) (sym same)
                (subst (λ (e : Commit). DescribesNoState capacity M e.vat_icb_address) (sym (get_or-append_seam before c earlier d)) (subst (DescribesNoState capacity M) place r)),
          )
  next_unseen number t so_far link _ r = absurd r

  -- a link that leads to no table of one commit less
  pub link_unseen : (number : ℕ) (t u : Table) → Seen M capacity at t → t.previous ≡ Some number → HasTableAt M (number + PARTITION_START) u → (u.commits + 1 ≡ t.commits → ⊥) → (b c : ℕ) → IsUnchecked capacity M at (Damaged b c)
  link_unseen number t u so_far link has other b c = λ all is. by (so_far.left all is)
    where
      by : {all : List Commit} → IsLeftToCheck M t all → HasUntold capacity M all
      by (before, [], same, (none, count)) = absurd (none-some number (sym none ∙ link))
      by (before, (d ∷ earlier), same, (n, is, v, there, fewer, says, chain)) =
          let place : n ≡ number = same_Some n number (sym is ∙ link) in
          let one = one_read M (number + PARTITION_START) u v has (subst (λ (k : ℕ). HasTableAt M (k + PARTITION_START) v) place there) in
          absurd (other (ap (λ (x : Table_). x.commits + 1) one ∙ fewer))

-- where one of them is not, no state was recovered after some commit
pub unchecked : (capacity volume : ℕ) (J : List Event) (T : model.State) (top : ℕ) → IsNewest capacity volume (held J) T top → (fault : StoreFault) → IsUnchecked capacity (held J) top fault
    → IsCheckRefused capacity volume (held J) T.commits fault
unchecked capacity volume J T top newest Device r = tt
unchecked capacity volume J T top newest Memory r = tt
unchecked capacity volume J T top newest (Damaged b c) r = λ whole.
    let all = history_stood capacity volume J T top newest whole in
    unshown capacity volume J T top newest all.0 all.1 (r all.0 all.1) whole
unchecked capacity volume J T top newest _ r = absurd r

-- ---- from the last VAT ICB back

module _ (capacity : ℕ) (J : List Event) (at : ℕ) (h : Type 0) (last : h → IsLastVatIcb (held J) (Some at)) where
  -- a state is shown there, which has so many commits
  abbrev IsCounted : ℕ → Type 0
  IsCounted n = (state : State) × IsShown capacity (held J) at state × (n ≡ state.vat.sessions.commits)

  newest_there : (volume : ℕ) (S : model.State) → h → RecoversTo udf capacity volume (held J) S → IsNewest capacity volume (held J) S at
  newest_there volume S honest stands = record { stands = stands; at = at_last capacity volume (held J) S stands at (last honest) }

  pub counts : (volume : ℕ) (S : model.State) (result : Result ℕ StoreFault) → OnOk result (h → IsChecked capacity (held J) at) → IfOk result (λ n. h → IsCounted n) → IfErr result (λ fault. h → IsUnchecked capacity (held J) at fault)
      → h → RecoversTo udf capacity volume (held J) S → CountsCommits capacity volume (held J) S.commits result
  counts volume S (Ok n) checked counted refused honest stands =
      let all = checked honest in
      let (state, shown, same) = counted honest in (
        same ∙ ap (λ (t : Table_). t.commits) (table_is capacity volume (held J) S stands at state (last honest) shown) ∙ stands.tells.commits,
        whole capacity volume J S at (newest_there volume S honest stands) all.commits (last honest).0 all.history all.shown,
      )
  counts volume S (Err fault) checked counted refused honest stands = unchecked capacity volume J S at (newest_there volume S honest stands) fault (refused honest)

  pub recovers : (result : Result ℕ StoreFault) → IfOk result (λ n. h → IsCounted n) → OnOk result (h → (volume : ℕ) × (S : model.State) × RecoversTo udf capacity volume (held J) S)
  recovers (Ok n) counted = λ honest. let (state, shown, same) = counted honest in (state.capacity, shown.said, last_stands capacity (held J) at state shown (last honest))
  recovers (Err fault) counted = tt

  pub leads_back : (result : Result ℕ StoreFault) → OnOk result (h → IsChecked capacity (held J) at) → OnOk result (h → (top : ℕ) × IsLastVatIcb (held J) (Some top) × IsChecked capacity (held J) top)
  leads_back (Ok n) checked = λ honest. (at, last honest, checked honest)
  leads_back (Err fault) checked = tt

  pub not_counted : (result : Result ℕ StoreFault) → IfErr result (λ fault. h → IsUnchecked capacity (held J) at fault)
      → IfErr result (λ fault. h → IsStateRefused capacity (held J) at fault ⊎ ((state : State) × IsShown capacity (held J) at state)) → IfErr result (λ fault. h → IsOpenRefused capacity (held J) fault ⊎ IsRecoveredCheckRefused capacity (held J) fault)
  not_counted (Ok n) refused newest = tt
  not_counted (Err fault) refused newest = λ honest. elim (newest honest) [
    | inl unread ↦ inl (not_read capacity (held J) at fault (last honest) unread)
    | inr (state, shown) ↦ let stands = last_stands capacity (held J) at state shown (last honest) in
        inr (state.capacity, shown.said, stands, unchecked capacity state.capacity J shown.said at (newest_there state.capacity shown.said honest stands) fault (refused honest))
  ]
