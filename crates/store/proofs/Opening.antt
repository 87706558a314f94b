-- A store that is opened where a state is recovered knows it, and where none is opened nothing is recovered.
use Rattle.std.proofs.Common.{◌≡◌, inl, inr, ℕ, ◌≤◌, List, take, refl, sym, ap, subst, ◌∙◌, arith}
use Rattle.std.specs.Prelude.{Some, slice_get, Result, Ok, Err, IfErr, IsErr}
use Rattle.std.proofs.lemmas.Bool.{false≢true}
use Rattle.std.proofs.lemmas.Option.{same_Some}
use Rattle.limits.specs.declared.TheConstants.{PARTITION_START}
use Rattle.drive.specs.Journal.{Event, Once, held}
use Rattle.durability.specs.Formats.{Block}
use Rattle.durability.specs.Volume.{HasTable, Medium, RecoversTo, Describes}
use Rattle.durability.specs.Volume as volumes
use Rattle.durability.proofs.History.{last_table_one}
use Rattle.durability.proofs.One.{last_one}
use Rattle.model.specs.Session as model
use Rattle.recover.specs.Faults.{IsShortage}
use Rattle.recover.specs.declared.fault.StoreFault.{StoreFault}
use Rattle.recover.specs.declared.fault.StoreFault.TheVariants.{Device, Memory, NotFormatted, Damaged}
use Rattle.recover.specs.declared.state.State.{State}
use Rattle.recover.specs.State.{IsShown, IsStateRefused}
use Rattle.recover.specs.Tables.{HasVatIcb, HasNoneFrom, IsLastVatIcb}
use Rattle.recover.proofs.Walks.{part_below}
use Rattle.udf.specs.Udf.{udf}
use Rattle.udf.specs.Said.{model_table}
use Rattle.udf.proofs.Formats.{exact}
use Rattle.udf.proofs.Said.{imitation_agrees}
use Rattle.vat.specs.Table.{view}
use Rattle.volume.specs.declared.front.Front.{Front}
use Rattle.volume.specs.Front.{IsFront}
use Rattle.volume.proofs.ReadingLaws.{front_tells, one_told}
use Rattle.store.specs.declared.store.Store.{Store}
use Rattle.lookup.specs.Cache.{AreKept}
use Rattle.store.specs.Calls.{IsOpenOn, Opens}
use Rattle.store.specs.Opened.{IsOpenRefused}

-- ---- what was read

-- all states that are described on a medium have one volume, that of its header
pub one_volume : (M : Medium) (at here : ℕ) → PARTITION_START ≤ at → PARTITION_START ≤ here → (capacity volume other size : ℕ) (a b : Block) (S T : model.State) → Describes udf capacity volume (take at M) at a S
    → Describes udf other size (take here M) here b T → volume ≡ size
one_volume M at here low high capacity volume other size a b S T x y =
    let one : IsFront x.table.label x.formatted volume (take PARTITION_START M) = subst (IsFront x.table.label x.formatted volume) (part_below 0 PARTITION_START at M low) x.front in
    let two : IsFront y.table.label y.formatted size (take PARTITION_START M) = subst (IsFront y.table.label y.formatted size) (part_below 0 PARTITION_START here M high) y.front in
    let f : Front = record { label = x.table.label; moment = x.formatted; capacity = volume } in
    let g : Front = record { label = y.table.label; moment = y.formatted; capacity = size } in
    ap (λ (z : Front). z.capacity) (one_told f g _ _ (front_tells f (take PARTITION_START M) one) (front_tells g (take PARTITION_START M) two))

last_there : (M : Medium) (at : ℕ) (last : IsLastVatIcb M (Some at)) → volumes.IsLast udf M at last.1.block
last_there M at (low, here, none) = record {
  there = here.there;
  is = (imitation_agrees here.block at).1 (low, here.is);
  no_later = λ later other lt there is. none later (omega (arith, lt)) (record { block = other; there = there; is = ((imitation_agrees other later).0 is).1 });
}

module _ (capacity volume : ℕ) (M : Medium) (S : model.State) (stands : RecoversTo udf capacity volume M S) where
  -- its VAT ICB is one
  stands_entry : (PARTITION_START ≤ stands.at) × HasVatIcb M stands.at
  stands_entry = let is = (imitation_agrees stands.block stands.at).0 stands.last.is in (is.0, record { block = stands.block; there = stands.last.there; is = is.1 })

  -- and the last
  pub at_last : (at : ℕ) → IsLastVatIcb M (Some at) → at ≡ stands.at
  at_last at last = last_one udf M at stands.at last.1.block stands.block (last_there M at last) stands.last

  pub some_entry : HasNoneFrom M PARTITION_START → ⊥
  some_entry none = none stands.at stands_entry.0 stands_entry.1

  -- so it is reported there
  pub told_there : (at : ℕ) → at ≡ stands.at → (slice_get M at ≡ Some stands.block) × Describes udf capacity volume (take at M) at stands.block S
  told_there at same = subst (λ (n : ℕ). (slice_get M n ≡ Some stands.block) × Describes udf capacity volume (take n M) n stands.block S) (sym same) (stands.last.there, stands.tells)

  module _ (at : ℕ) (state : State) (last : IsLastVatIcb M (Some at)) (shown : IsShown capacity M at state) where
    pub table_is : model_table (view state.vat) ≡ stands.tells.table
    table_is =
        let block : last.1.block ≡ shown.block = same_Some last.1.block shown.block (sym last.1.there ∙ shown.there) in
        let has = subst (λ (b : Block). HasTable udf (take at M) at b shown.tells.table shown.said.moment) (sym block) shown.tells.has in
        sym shown.table
        ∙ last_table_one udf exact M (record { at = at; block = last.1.block; last = last_there M at last; table = shown.tells.table; moment = shown.said.moment; has = has })
        (record { at = stands.at; block = stands.block; last = stands.last; table = stands.tells.table; moment = S.moment; has = stands.tells.has })

    -- the volume header that was read is the one that is there
    pub volume_is : state.capacity ≡ volume
    volume_is = one_volume M at stands.at last.0 stands_entry.0 capacity state.capacity capacity volume shown.block stands.block shown.said S shown.tells stands.tells

pub knows_opened : (capacity volume : ℕ) (J : List Event) (S : model.State) (once : Once J) (stands : RecoversTo udf capacity volume (held J) S) (at : ℕ) (state : State) → IsLastVatIcb (held J) (Some at) → IsShown capacity (held J) at state
    → (store : Store) → store.vat_icb_address ≡ at → store.vat ≡ state.vat → store.capacity ≡ state.capacity → AreKept J store.directories → IsOpenOn capacity volume J S store
knows_opened capacity volume J S once stands at state last shown store there vat size kept = record {
  once = once;
  stands = stands;
  at = there ∙ at_last capacity volume (held J) S stands at last;
  table = ap (λ v. model_table (view v)) vat ∙ table_is capacity volume (held J) S stands at state last shown;
  capacity_is = size ∙ volume_is capacity volume (held J) S stands at state last shown;
  kept = kept;
}

-- ---- where nothing is opened

pub not_read : (capacity : ℕ) (M : Medium) (at : ℕ) (fault : StoreFault) → IsLastVatIcb M (Some at) → IsStateRefused capacity M at fault → IsOpenRefused capacity M fault
not_read capacity M at Device last refused = tt
not_read capacity M at Memory last refused = tt
not_read capacity M at (Damaged block cause) last refused = (
  (at, last.0, last.1),
  λ volume S stands.
      let told = told_there capacity volume M S stands at (at_last capacity volume M S stands at last) in
      refused volume stands.block S told.0 told.1,
)
not_read capacity M at _ last refused = absurd refused

pub shortage_opened : (capacity : ℕ) (M : Medium) (fault : StoreFault) → IsShortage fault → IsOpenRefused capacity M fault
shortage_opened capacity M fault (inl e) = subst (λ (f : StoreFault). IsOpenRefused capacity M f) (sym e) tt
shortage_opened capacity M fault (inr e) = subst (λ (f : StoreFault). IsOpenRefused capacity M f) (sym e) tt

-- where a state is recovered, the drive failed or memory was short
pub short_opened : (capacity volume : ℕ) (M : Medium) (S : model.State) (fault : StoreFault) → RecoversTo udf capacity volume M S → IsOpenRefused capacity M fault → IsShortage fault
short_opened capacity volume M S Device stands refused = inl refl
short_opened capacity volume M S Memory stands refused = inr refl
short_opened capacity volume M S NotFormatted stands refused = absurd (some_entry capacity volume M S stands refused)
short_opened capacity volume M S (Damaged block cause) stands refused = absurd (refused.1 volume S stands)
short_opened capacity volume M S _ stands refused = absurd refused

pub opened_short : (capacity volume : ℕ) (J : List Event) (S : model.State) (result : Result Store StoreFault) (h : Type 0) → IsErr result → IfErr result (λ fault. h → IsOpenRefused capacity (held J) fault) → h → RecoversTo udf capacity volume (held J) S
    → Opens capacity volume J S result
opened_short capacity volume J S (Ok store) h failed refused honest stands = absurd (false≢true failed)
opened_short capacity volume J S (Err fault) h failed refused honest stands = short_opened capacity volume (held J) S fault stands (refused honest)
