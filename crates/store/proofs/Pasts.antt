-- The states before the one to which a medium recovers.
use Rattle.std.proofs.Common.{◌≡◌, ℕ, suc, ◌+◌, ◌-◌, ◌<◌, ◌≤◌, List, take, Some, refl, sym, ap, subst, ◌∙◌, arith}
use Rattle.std.specs.Prelude.{slice_get}
use Rattle.limits.specs.declared.TheConstants.{PARTITION_START}
use Rattle.drive.specs.Journal.{Event, held, next_of}
use Rattle.durability.specs.Formats.{Table_}
use Rattle.durability.specs.Volume.{RecoversTo, RecoveredTo, RecoveredBefore}
use Rattle.durability.specs.Volume as volumes
use Rattle.model.specs.Graph.{MakesTree}
use Rattle.model.specs.Session as model
use Rattle.udf.specs.Said.{model_table}
use Rattle.udf.specs.Udf.{udf}
use Rattle.vat.specs.Table.{Table, view}
use Rattle.vat.specs.declared.table.Vat.{Vat}
use Rattle.recover.specs.declared.fault.StoreFault.{StoreFault}
use Rattle.recover.specs.declared.fault.StoreFault.TheVariants.{Device, Memory, Damaged}
use Rattle.recover.specs.declared.state.State.{State}
use Rattle.recover.specs.State.{IsShown, IsStateRefused}
use Rattle.recover.specs.Tables.{HasTableAt}
use Rattle.recover.proofs.Told.{IsTableTold, one_told, read, told}
use Rattle.store.specs.declared.store.Store.{Store}
use Rattle.store.specs.Calls.{IsOpenOn}
use Rattle.store.specs.History.{IsTableOf, IsWayRefused}
use Rattle.store.specs.Past.{IsPast, IsPastRefused}
use Rattle.lookup.specs.Shows.{graph_below}
use Rattle.store.proofs.Chains.{EndsAt, count_along, goes_back, last_in, last_is, shown_stood, stands_after, stood_along, stood_told}
use Rattle.store.proofs.Opening.{one_volume}

-- a medium recovers to the state, whose VAT ICB is at an address
pub record IsNewest (capacity volume : ℕ) (M : List (List ℕ)) (T : model.State) (top : ℕ) : Type 0 where
  pub stands : RecoversTo udf capacity volume M T
  pub at : top ≡ stands.at

-- so is the one that a store knows
pub newest_known : (capacity volume : ℕ) (J : List Event) (T : model.State) (store : Store) → IsOpenOn capacity volume J T store → IsNewest capacity volume (held J) T store.vat_icb_address
newest_known capacity volume J T store knows = record { stands = knows.stands; at = knows.at }

module _ (capacity volume : ℕ) (J : List Event) (T : model.State) (top : ℕ) (newest : IsNewest capacity volume (held J) T top) where
  pub ends_here : EndsAt (held J) top (held J)
  ends_here = record { same = refl; none = λ later other lt there is. newest.stands.last.no_later later other (omega (arith, lt, newest.at)) there is }

  pub low_here : PARTITION_START ≤ top
  low_here = omega (arith, newest.at, newest.stands.last.is.0)

  told_here : IsTableTold (held J) top newest.stands.tells.table
  told_here = record {
    block = newest.stands.block;
    moment = T.moment;
    low = low_here;
    there = subst (λ (n : ℕ). slice_get (held J) n ≡ Some newest.stands.block) (sym newest.at) newest.stands.last.there;
    has = subst (λ (n : ℕ). volumes.HasTable udf (take n (held J)) n newest.stands.block newest.stands.tells.table T.moment) (sym newest.at) newest.stands.tells.has;
  }

  -- its table is there
  pub table_here : (t : Table) × HasTableAt (held J) top t × (model_table t ≡ newest.stands.tells.table)
  table_here = read (held J) top newest.stands.tells.table told_here

  pub commits_here : table_here.0.commits ≡ T.commits
  commits_here = ap (λ (t : Table_). t.commits) table_here.2 ∙ newest.stands.tells.commits

  -- so many steps lead to the state after so many commits
  pub steps_past : (k : ℕ) (S : model.State) (past : RecoveredTo udf capacity volume (held J) k S) → k + past.1 ≡ T.commits
  steps_past k S past =
      let same : past.0.table.commits ≡ table_here.0.commits = ap (λ (t : Table_). t.commits) (last_is (held J) top (held J) ends_here (model_table table_here.0) (told (held J) top table_here.0 table_here.1) past.0) in
      past.2 ∙ same ∙ commits_here

  pub past_of : (k steps : ℕ) (S : model.State) → k + steps ≡ T.commits → RecoveredBefore udf steps capacity volume (held J) S → RecoveredTo udf capacity volume (held J) k S
  past_of k steps S count stood = (last_in (held J) top (held J) ends_here (model_table table_here.0) (told (held J) top table_here.0 table_here.1), steps, count ∙ sym commits_here, stood)

  -- what is described anywhere is described of this volume
  pub volume_told : (at : ℕ) (state : State) → PARTITION_START ≤ at → IsShown capacity (held J) at state → state.capacity ≡ volume
  volume_told at state low shown =
      one_volume (held J) at newest.stands.at low newest.stands.last.is.0 capacity state.capacity capacity volume shown.block newest.stands.block shown.said T shown.tells newest.stands.tells

  -- ---- a state that was shown

  module _ (k at : ℕ) (vat : Vat) (found : IsTableOf (held J) top k at vat) where
    steps_found : k + found.steps ≡ T.commits
    steps_found = omega (arith, count_along (held J) top found.steps at (view vat) table_here.0 found.leads found.table table_here.1, found.commits_are, commits_here)

    pub past_shown : (state : State) → PARTITION_START ≤ at → at < next_of J → IsShown capacity (held J) at state → (S : model.State) × IsPast capacity volume J k S at state.vat
    past_shown state low high shown =
        let S = shown.said in
        let stood : RecoveredBefore udf (found.steps + 0) capacity volume (held J) S =
        stood_along capacity volume (held J) top found.steps at 0 S found.leads (shown_stood capacity volume (held J) at state low shown (volume_told at state low shown)) (held J) ends_here in
        let all : found.steps + 0 ≡ found.steps = omega arith in
        let shown_there : IsTableTold (held J) at shown.tells.table = record { block = shown.block; moment = S.moment; low = low; there = shown.there; has = shown.tells.has } in
        let same : model_table (view state.vat) ≡ model_table (view vat) = sym shown.table ∙ one_told (held J) at shown.tells.table (model_table (view vat)) shown_there (told (held J) at (view vat) found.table) in (
          S,
          record {
            past = past_of k found.steps S steps_found (subst (λ (n : ℕ). RecoveredBefore udf n capacity volume (held J) S) all stood);
            tree = shown.tells.tree;
            makes = subst (λ (t : Table_). MakesTree (graph_below at t.entries J) S.tree) shown.table shown.tells.makes;
            root = shown.tells.identities.root;
            within = high;
            records = ap (λ (t : Table_). t.records) (sym shown.table) ∙ shown.tells.records;
            next = ap (λ (t : Table_). t.next_identity) (sym shown.table) ∙ shown.tells.next_identity;
            commits_are = ap (λ (t : Table_). t.commits) same ∙ found.commits_are;
          },
        )

    -- ---- one that was not

    pub state_refused : (fault : StoreFault) → IsStateRefused capacity (held J) at fault → IsPastRefused capacity volume (held J) T.commits k fault
    state_refused Device r = tt
    state_refused Memory r = tt
    state_refused (Damaged b c) r = λ S past.
        let steps : past.1 ≡ found.steps + 0 = omega (arith, steps_past k S past, steps_found) in
        let there = stands_after capacity volume (held J) top found.steps at 0 S (held J) found.leads ends_here (subst (λ (n : ℕ). RecoveredBefore udf n capacity volume (held J) S) steps past.3) in
        let is = stood_told capacity volume (held J) at (view vat) S there.0 found.table there.1 there.2 in
        r volume there.2.block S is.0 is.1
    state_refused _ r = absurd r

  pub way_refused : (k : ℕ) → k ≤ T.commits → (fault : StoreFault) → IsWayRefused (held J) top k fault → IsPastRefused capacity volume (held J) T.commits k fault
  way_refused k le Device r = tt
  way_refused k le Memory r = tt
  way_refused k le (Damaged b c) r = λ S past.
      let less : k ≤ table_here.0.commits = omega (arith, le, commits_here) in
      let breaks = r table_here.0 table_here.1 less in
      let more = breaks.more in
      let count = count_along (held J) top breaks.steps breaks.at breaks.table table_here.0 breaks.leads breaks.there table_here.1 in
      let steps : past.1 ≡ breaks.steps + suc (past.1 - (breaks.steps + 1)) = omega (arith, count, more, commits_here, steps_past k S past) in
      let there = stands_after capacity volume (held J) top breaks.steps breaks.at (suc (past.1 - (breaks.steps + 1))) S (held J) breaks.leads ends_here
      (subst (λ (n : ℕ). RecoveredBefore udf n capacity volume (held J) S) steps past.3) in
      let on = goes_back capacity volume (held J) breaks.at (past.1 - (breaks.steps + 1)) S there.0 there.1 breaks.table breaks.there there.2 in
      breaks.none on.0 on.1
  way_refused k le _ r = absurd r
