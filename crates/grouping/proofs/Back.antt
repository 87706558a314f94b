-- What holds where a group was taken back, and how it is taken back.
use Rattle.std.proofs.Common.{◌≡◌, inl, inr, ℕ, List, ◌++◌, length, take, Option, Some, None, sym, ap, subst, ◌∙◌}
use Rattle.std.proofs.Math.Seq.{take-append_seam}
use Rattle.std.specs.Prelude.{IfSome}
use Rattle.drive.specs.Journal.{Event, Once, next_of, held}
use Rattle.drive.proofs.Once.{next_once}
use Rattle.model.specs.Session.{State}
use Rattle.durability.specs.Volume.{RecoversTo}
use Rattle.udf.specs.Udf.{udf}
use Rattle.store.specs.declared.store.Store.{Store}
use Rattle.store.specs.Agrees.{IsStoreOn}
use Rattle.store.specs.Opened.{RecoversToNothingHere}
use Rattle.engine.specs.Situation.{Situation, HoldsNothing, IsOpen, IsReady}
use Rattle.engine.specs.Steps.{HoldsState}
use Rattle.grouping.specs.Groups.{IsTakenBack, TakingBackHolds}

not_open : (s : Situation) → s.store ≡ None → (store : Store) → IsOpen s store → ⊥
not_open s none store kept = let both : ◌≡◌ {A = Option Store} None (Some store) = sym none ∙ kept.0 in cc

pub back_ready : (s : Situation) → s.store ≡ None → IsReady s
back_ready s none = subst (λ (o : Option Store). IfSome o (IsStoreOn s.journal s.capacity)) (sym none) tt

back_state : (before start : Situation) → IsTakenBack before start → (volume : ℕ) (S : State) → HoldsState volume S before → HoldsState volume S start
back_state before start back volume S at = record {
  once = subst Once (sym back.journal) at.once;
  stands = subst (λ (n : ℕ). RecoversTo udf n volume (held start.journal) S) (sym back.capacity) (subst (λ (J : List Event). RecoversTo udf before.capacity volume (held J) S) (sym back.journal) at.stands);
  knows = λ store kept. absurd (not_open start back.store store kept);
}

back_nothing : (before start : Situation) → IsTakenBack before start → HoldsNothing before → HoldsNothing start
back_nothing before start back at = record {
  once = subst Once (sym back.journal) at.once;
  nothing = subst (λ (n : ℕ). RecoversToNothingHere n (held start.journal)) (sym back.capacity) (subst (λ (J : List Event). RecoversToNothingHere before.capacity (held J)) (sym back.journal) at.nothing);
  closed = not_open start back.store;
}

pub taking_back : TakingBackHolds
taking_back before start (inl same) =
    (subst (λ (s : Situation). IsReady s) (sym same), λ volume S. subst (λ (s : Situation). HoldsState volume S s) (sym same), subst (λ (s : Situation). HoldsNothing s) (sym same))
taking_back before start (inr back) = (λ ready. back_ready start back.store, back_state before start back, back_nothing before start back)

-- the first blocks of a journal that goes on
pub front_back : (J K L : List Event) (from : ℕ) → Once J → from ≡ next_of J → (written : List Event) × (K ≡ J ++ written) → L ≡ take from K → L ≡ J
front_back J K L from once is goes cut =
    cut ∙ ap (λ n. take n K) (is ∙ next_once J once) ∙ ap (λ (M : List Event). take (length J) M) goes.1 ∙ take-append_seam J goes.0
