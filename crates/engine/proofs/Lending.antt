-- A store that was opened to be lent.
use Rattle.std.proofs.Common.{◌≡◌, ℕ, List, Option, Some, None, sym, ap, subst, ◌∙◌}
use Rattle.std.specs.Prelude.{is_some, unwrap_or}
use Rattle.std.proofs.lemmas.Bool.{false≢true}
use Rattle.drive.specs.Journal.{Event, Once, held}
use Rattle.model.specs.Session.{State}
use Rattle.durability.specs.Volume.{RecoversTo}
use Rattle.udf.specs.Udf.{udf}
use Rattle.store.specs.declared.store.Store.{Store}
use Rattle.store.specs.Calls.{IsOpenOn}
use Rattle.engine.specs.Situation.{Situation}
use Rattle.engine.specs.Steps.{HoldsState}

-- the recovered state is known to the store that is open then
pub holds_opened : (volume : ℕ) (S : State) (before afterwards : Situation) (store : Store) → afterwards.store ≡ Some store → afterwards.journal ≡ before.journal → afterwards.capacity ≡ before.capacity
    → HoldsState volume S before → IsOpenOn before.capacity volume before.journal S store → HoldsState volume S afterwards
holds_opened volume S before afterwards store is journal size at knows = record {
  once = subst (λ (J : List Event). Once J) (sym journal) at.once;
  stands = subst (λ (c : ℕ). RecoversTo udf c volume (held afterwards.journal) S) (sym size) (subst (λ (J : List Event). RecoversTo udf before.capacity volume (held J) S) (sym journal) at.stands);
  knows = λ kept there. subst (λ (k : Store). IsOpenOn afterwards.capacity volume afterwards.journal S k) (ap (λ (o : Option Store). unwrap_or o store) (sym is ∙ there.0))
      (subst (λ (c : ℕ). IsOpenOn c volume afterwards.journal S store) (sym size) (subst (λ (J : List Event). IsOpenOn before.capacity volume J S store) (sym journal) knows));
}

-- and it is where none is
pub holds_closed : (volume : ℕ) (S : State) (before afterwards : Situation) → afterwards.store ≡ None → afterwards.journal ≡ before.journal → afterwards.capacity ≡ before.capacity → HoldsState volume S before → HoldsState volume S afterwards
holds_closed volume S before afterwards is journal size at = record {
  once = subst (λ (J : List Event). Once J) (sym journal) at.once;
  stands = subst (λ (c : ℕ). RecoversTo udf c volume (held afterwards.journal) S) (sym size) (subst (λ (J : List Event). RecoversTo udf before.capacity volume (held J) S) (sym journal) at.stands);
  knows = λ kept there. absurd (false≢true (ap (λ (o : Option Store). is_some o) (sym is ∙ there.0)));
}
