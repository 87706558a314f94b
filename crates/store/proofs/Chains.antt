-- The past states along the chain of tables of a medium.
use Rattle.std.proofs.Common.{◌≡◌, ℕ, zero, suc, ◌+◌, ◌-◌, ◌<◌, ◌≤◌, take, Option, Some, refl, sym, ap, subst, ◌∙◌, arith}
use Rattle.std.specs.Prelude.{IfSome, slice_get}
use Rattle.std.proofs.lemmas.List.{length-take, take-take}
use Rattle.std.proofs.lemmas.Option.{same_Some, slice_get_within}
use Rattle.limits.specs.declared.TheConstants.{PARTITION_START}
use Rattle.durability.specs.Formats.{Block, Table_}
use Rattle.durability.specs.Volume.{IsVatIcbAt, LastTable, Medium, RecoversTo, RecoveredBefore, Describes}
use Rattle.durability.specs.Volume as volumes
use Rattle.durability.proofs.History.{last_table_one}
use Rattle.durability.proofs.One.{last_one}
use Rattle.model.specs.Session as model
use Rattle.model.proofs.Lists.{get-take}
use Rattle.udf.specs.Udf.{udf}
use Rattle.udf.specs.Said.{model_table}
use Rattle.udf.proofs.Formats.{exact}
use Rattle.vat.specs.Table.{Table}
use Rattle.recover.specs.declared.state.State.{State}
use Rattle.recover.specs.State.{IsShown}
use Rattle.recover.specs.Tables.{HasTableAt, IsBefore}
use Rattle.recover.proofs.Told.{IsTableTold, one_read, read, told}
use Rattle.store.specs.History.{ChainLeads}

-- ---- prefixes of a medium

-- a medium with the same blocks up to an address, after which it has no VAT ICB
pub record EndsAt (M : Medium) (at : ℕ) (N : Medium) : Type 0 where
  pub same : take (at + 1) N ≡ take (at + 1) M
  pub none : (later : ℕ) (other : Block) → at < later → slice_get N later ≡ Some other → IsVatIcbAt udf other later → ⊥

module _ (M : Medium) (at : ℕ) (N : Medium) (ends : EndsAt M at N) where
  pub block_same : slice_get N at ≡ slice_get M at
  block_same =
      let less : at < at + 1 = omega arith in
      sym (get-take (at + 1) N at less) ∙ ap (λ (B : Medium). slice_get B at) ends.same ∙ get-take (at + 1) M at less

  part_same : (n : ℕ) → n ≤ at + 1 → take n N ≡ take n M
  part_same n le = sym (take-take n (at + 1) N le) ∙ ap (λ (B : Medium). take n B) ends.same ∙ take-take n (at + 1) M le

  pub below_same : take at N ≡ take at M
  below_same = part_same at (omega arith)

  -- its last table is the one whose entry is there
  abbrev pub last_in : (t : Table_) → IsTableTold M at t → LastTable udf N
  last_in t is = record {
    at = at;
    block = is.block;
    last = record { there = block_same ∙ is.there; is = (is.low, is.has.fields, is.has.kind, is.has.entry); no_later = ends.none };
    table = t;
    moment = is.moment;
    has = subst (λ (B : Medium). volumes.HasTable udf B at is.block t is.moment) (sym below_same) is.has;
  }

  last_at : (t : Table_) → IsTableTold M at t → (last : LastTable udf N) → last.at ≡ at
  last_at t is last = last_one udf N last.at at last.block is.block last.last (last_in t is).last

  pub last_is : (t : Table_) → IsTableTold M at t → (last : LastTable udf N) → last.table ≡ t
  last_is t is last = last_table_one udf exact N last (last_in t is)

  -- the last table is described there
  last_told : (last : LastTable udf N) → last.at ≡ at → IsTableTold M at last.table
  last_told last same = record {
    block = last.block;
    moment = last.moment;
    low = (let low = last.last.is.0 in omega (arith, low, same));
    there = sym block_same ∙ subst (λ (n : ℕ). slice_get N n ≡ Some last.block) same last.last.there;
    has = subst (λ (B : Medium). volumes.HasTable udf B at last.block last.table last.moment) below_same
        (subst (λ (n : ℕ). volumes.HasTable udf (take n N) n last.block last.table last.moment) same last.has);
  }

  -- a prefix of it
  cut : (number : ℕ) → number + PARTITION_START < at → EndsAt M (number + PARTITION_START) (take (number + 258) N)
  cut number less = record {
    same = take-take (number + PARTITION_START + 1) (number + 258) N (omega arith) ∙ part_same (number + PARTITION_START + 1) (omega (arith, less));
    none = λ later other lt there is.
        let within = slice_get_within (take (number + 258) N) later other there in
        let long = length-take (number + 258) N in
        omega (arith, within, long, lt);
  }

-- ---- one step of the chain

link_less : (M : Medium) (at number : ℕ) (t : Table) → HasTableAt M at t → t.previous ≡ Some number → number + PARTITION_START < at
link_less M at number t has link =
    let low = (told M at t has).low in
    let less : number < at - PARTITION_START = subst (λ (p : Option ℕ). IfSome p (λ n. n < at - PARTITION_START)) link has.is.previous in
    omega (arith, low, less)

module _ (capacity volume : ℕ) (M : Medium) where
  -- so many steps back along the chain from this address, the state was recovered
  abbrev pub StoodAt : ℕ → ℕ → model.State → Type 0
  StoodAt at steps S = (N : Medium) → EndsAt M at N → RecoveredBefore udf steps capacity volume N S

  pub step_back : (at to steps : ℕ) (S : model.State) → IsBefore M at (Some to) → StoodAt to steps S → StoodAt at (suc steps) S
  step_back at to steps S (t, has, number, link, there, u, before, fewer) stood N ends =
      let less = link_less M at number t has link in
      let earlier = cut M at N ends number less in
      let is_before = subst (λ (n : ℕ). HasTableAt M n u) there before in
      let there_stood : StoodAt (number + PARTITION_START) steps S = subst (λ (n : ℕ). StoodAt n steps S) there stood in (
        last_in M at N ends (model_table t) (told M at t has),
        number,
        link,
        last_in M (number + PARTITION_START) (take (number + 258) N) earlier (model_table u) (told M (number + PARTITION_START) u is_before),
        refl,
        fewer,
        there_stood (take (number + 258) N) earlier,
      )

  -- where more steps were taken the chain goes on
  pub goes_back : (at steps : ℕ) (S : model.State) (N : Medium) → EndsAt M at N → (t : Table) → HasTableAt M at t → RecoveredBefore udf (suc steps) capacity volume N S
      → (to : ℕ) × IsBefore M at (Some to) × (N' : Medium) × EndsAt M to N' × RecoveredBefore udf steps capacity volume N' S
  goes_back at steps S N ends t has (last, previous, link, before, there, fewer, stood) =
      let same : last.table ≡ model_table t = last_is M at N ends (model_table t) (told M at t has) last in
      let is_link : t.previous ≡ Some previous = sym (ap (λ (x : Table_). x.previous) same) ∙ link in
      let less = link_less M at previous t has is_link in
      let earlier = cut M at N ends previous less in
      let u = read M (previous + PARTITION_START) before.table (last_told M (previous + PARTITION_START) (take (previous + 258) N) earlier before there) in
      let commits : u.0.commits + 1 ≡ t.commits = ap (λ (x : Table_). x.commits + 1) u.2 ∙ fewer ∙ ap (λ (x : Table_). x.commits) same in
      (previous + PARTITION_START, (t, has, previous, is_link, refl, u.0, u.1, commits), take (previous + 258) N, earlier, stood)

  same_step : (at to other : ℕ) → IsBefore M at (Some to) → IsBefore M at (Some other) → to ≡ other
  same_step at to other (t, has, number, link, there, u, before, fewer) (t', has', number', link', there', u', before', fewer') =
      let same : number ≡ number' = same_Some number number' (sym link ∙ ap (λ (x : Table_). x.previous) (one_read M at t t' has has') ∙ link') in
      omega (arith, same, there, there')

  pub step_on : (at to steps : ℕ) (S : model.State) (N : Medium) → EndsAt M at N → IsBefore M at (Some to) → RecoveredBefore udf (suc steps) capacity volume N S
      → (N' : Medium) × EndsAt M to N' × RecoveredBefore udf steps capacity volume N' S
  step_on at to steps S N ends before stood =
      let on = goes_back at steps S N ends before.0 before.1 stood in
      let same = same_step at on.0 to on.1 before in
      (on.2, subst (λ (n : ℕ). EndsAt M n on.2) same on.3, on.4)

  -- ---- so many steps

  pub stood_along : (from steps to rest : ℕ) (S : model.State) → ChainLeads M from steps to → StoodAt to rest S → StoodAt from (steps + rest) S
  stood_along from zero to rest S same stood =
      let none : rest ≡ 0 + rest = omega arith in
      subst (λ (k : ℕ). StoodAt from k S) none (subst (λ (n : ℕ). StoodAt n rest S) (sym same) stood)
  stood_along from (suc steps) to rest S (at, leads, before) stood =
      let count : steps + suc rest ≡ suc steps + rest = omega arith in
      subst (λ (n : ℕ). StoodAt from n S) count (stood_along from steps at (suc rest) S leads (step_back at to rest S before stood))

  pub stands_after : (from steps to rest : ℕ) (S : model.State) (N : Medium) → ChainLeads M from steps to → EndsAt M from N → RecoveredBefore udf (steps + rest) capacity volume N S
      → (N' : Medium) × EndsAt M to N' × RecoveredBefore udf rest capacity volume N' S
  stands_after from zero to rest S N same ends stood =
      let none : 0 + rest ≡ rest = omega arith in
      (N, subst (λ (n : ℕ). EndsAt M n N) same ends, subst (λ (k : ℕ). RecoveredBefore udf k capacity volume N S) none stood)
  stands_after from (suc steps) to rest S N (at, leads, before) ends stood =
      let count : suc steps + rest ≡ steps + suc rest = omega arith in
      let there = stands_after from steps at (suc rest) S N leads ends (subst (λ (n : ℕ). RecoveredBefore udf n capacity volume N S) count stood) in
      step_on at to rest S there.0 there.1 before there.2

  -- ---- what is reported at an address

  pub shown_stood : (at : ℕ) (state : State) → PARTITION_START ≤ at → (shown : IsShown capacity M at state) → state.capacity ≡ volume → StoodAt at 0 shown.said
  shown_stood at state low shown size N ends =
      let has = shown.tells.has in
      record {
        at = at;
        block = shown.block;
        last = record { there = block_same M at N ends ∙ shown.there; is = (low, has.fields, has.kind, has.entry); no_later = ends.none };
        tells = subst (λ (B : Medium). Describes udf capacity volume B at shown.block shown.said) (sym (below_same M at N ends))
            (subst (λ (n : ℕ). Describes udf capacity n (take at M) at shown.block shown.said) size shown.tells);
      }

  pub stood_told : (at : ℕ) (t : Table) (S : model.State) (N : Medium) → HasTableAt M at t → EndsAt M at N → (stands : RecoversTo udf capacity volume N S)
      → (slice_get M at ≡ Some stands.block) × Describes udf capacity volume (take at M) at stands.block S
  stood_told at t S N has ends stands =
      let is = told M at t has in
      let same : stands.at ≡ at = last_one udf N stands.at at stands.block is.block stands.last (last_in M at N ends (model_table t) is).last in (
        sym (block_same M at N ends) ∙ subst (λ (n : ℕ). slice_get N n ≡ Some stands.block) same stands.last.there,
        subst (λ (B : Medium). Describes udf capacity volume B at stands.block S) (below_same M at N ends)
            (subst (λ (n : ℕ). Describes udf capacity volume (take n N) n stands.block S) same stands.tells),
      )

-- ---- how many steps

module _ (M : Medium) where
  -- each step is one commit less
  pub count_along : (from steps to : ℕ) (t u : Table) → ChainLeads M from steps to → HasTableAt M to t → HasTableAt M from u → t.commits + steps ≡ u.commits
  count_along from zero to t u same has first =
      let one = ap (λ (x : Table_). x.commits) (one_read M from t u (subst (λ (n : ℕ). HasTableAt M n t) (sym same) has) first) in
      omega (arith, one)
  count_along from (suc steps) to t u (at, leads, (x, here, number, link, there, v, before, fewer)) has first =
      let one = ap (λ (y : Table_). y.commits) (one_read M to t v has before) in
      let earlier = count_along from steps at x u leads here first in
      omega (arith, one, fewer, earlier)
