-- What opening a medium gives where a state is recovered, and where none is.
use Rattle.std.proofs.Common.{◌≡◌, ℕ, List, sym, ap}
use Rattle.std.specs.Prelude.{Result, Ok, Err, IfOk, IfErr, is_err}
use Rattle.std.proofs.lemmas.Bool.{false≢true}
use Rattle.drive.specs.Journal.{Event, Once, held}
use Rattle.model.specs.Session.{State}
use Rattle.recover.specs.Faults.{IsShortage}
use Rattle.recover.specs.declared.fault.StoreFault.{StoreFault}
use Rattle.store.specs.declared.store.Store.{Store}
use Rattle.store.specs.Calls.{IsOpenOn, Opens}
use Rattle.store.specs.Opened.{RecoversToNothingHere}

module _ (capacity volume : ℕ) (J : List Event) (S : State) where
  pub opened_knows : (result : Result Store StoreFault) → Opens capacity volume J S result → IfOk result (IsOpenOn capacity volume J S)
  opened_knows (Ok store) opens = opens.0
  opened_knows (Err refusal) opens = tt

  pub opened_short : (result : Result Store StoreFault) → Opens capacity volume J S result → IfErr result IsShortage
  opened_short (Ok store) opens = tt
  opened_short (Err refusal) opens = opens

-- where nothing is recovered none is opened
pub nothing_opened : (capacity : ℕ) (J : List Event) (result : Result Store StoreFault) {Honest : Type 0}
    → IfOk result (λ store. Honest → Once J → (S : State) × IsOpenOn capacity store.capacity J S store) → Honest → Once J → RecoversToNothingHere capacity (held J) → IfOk result (λ store. ⊥)
nothing_opened capacity J (Ok store) stands honest once nothing = let state = stands honest once in nothing store.capacity state.0 state.1.stands
nothing_opened capacity J (Err refusal) stands honest once nothing = tt

-- what was not opened is no store
pub not_opened : (refusal : StoreFault) (kept : Store) → ◌≡◌ {A = Result Store StoreFault} (Err refusal) (Ok kept) → ⊥
not_opened refusal kept e = false≢true (sym (ap (λ (r : Result Store StoreFault). is_err r) e))
