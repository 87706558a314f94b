-- A session that was opened begins the run.
use Rattle.std.proofs.Common.{◌≡◌, ℕ, [], Option, Some, None, sym, ap, subst, ◌∙◌}
use Rattle.std.specs.Prelude.{IsTrue, Result, Ok, Err, IfErr, OnOk}
use Rattle.model.specs.Session.{State}
use Rattle.store.specs.declared.store.Store.{Store}
use Rattle.engine.specs.declared.engine.Engine.{Engine}
use Rattle.engine.specs.Situation.{Situation, HoldsNothing, IsOpen, situation}
use Rattle.engine.specs.Steps.{HoldsState}
use Rattle.embedding.specs.declared.fault.Fault.{Fault}
use Rattle.embedding.specs.declared.medium.Medium.{Medium}
use Rattle.embedding.specs.declared.session.Session.{Session}
use Rattle.embedding.specs.Media.{journal_on, failures_on, capacity_on, honest_on, writes_on, in_memory, seen_by}
use Rattle.embedding.specs.Sessions.{seen, waiting}
use Rattle.embedding.specs.Opens.{Opened, RefusesToOpen, TurnsTo, fresh}

-- an engine that keeps no store sees the medium as it is
pub fresh_is : (engine : Engine) (medium : Medium) → engine.store ≡ None → fresh medium ≡ seen_by engine medium
fresh_is engine medium none = ap (λ (kept : Option Store). situation kept (journal_on medium) (failures_on medium) (capacity_on medium) (honest_on medium) (writes_on medium)) (sym none)

module _ (first engine : Engine) (before afterwards : Medium) (s : Session) (engine_is : s.engine ≡ engine) (medium_is : s.medium ≡ afterwards) where
  seen_is : seen s ≡ seen_by engine afterwards
  seen_is = ap (λ (e : Engine). seen_by e s.medium) engine_is ∙ ap (λ (m : Medium). seen_by engine m) medium_is

  honest_is : IsTrue (seen s).honest → IsTrue (honest_on afterwards)
  honest_is h = subst (λ (x : Situation). IsTrue x.honest) seen_is h

  pub opened : s.frames ≡ Some [] → waiting s ≡ [] → s.given ≡ 0 → s.ended ≡ None → s.group ≡ None → first.store ≡ None → (store : Store) × IsOpen (seen_by engine afterwards) store
      → journal_on afterwards ≡ journal_on before → writes_on afterwards ≡ writes_on before → capacity_on afterwards ≡ capacity_on before → (IsTrue (honest_on afterwards) → IsTrue (honest_on before)) → in_memory afterwards ≡ in_memory before
      → (IsTrue (honest_on afterwards) → HoldsNothing (seen_by first before) → ⊥)
      → ((volume : ℕ) (S : State) → IsTrue (honest_on afterwards) → HoldsState volume S (seen_by first before) → HoldsState volume S (seen_by engine afterwards)) → Opened before s
  opened frames waits given ended group none kept journal writes capacity honest kind nothing holds = record {
    frames = frames;
    waits = waits;
    given = given;
    ended = ended;
    group = group;
    kept = (kept.0, subst (λ (x : Situation). IsOpen x kept.0) (sym seen_is) kept.1);
    journal = ap (λ (x : Situation). x.journal) seen_is ∙ journal;
    writes = ap (λ (x : Situation). x.writes) seen_is ∙ writes;
    capacity = ap (λ (x : Situation). x.capacity) seen_is ∙ capacity;
    honest = λ h. honest (honest_is h);
    recovers = λ h empty. nothing (honest_is h) (subst (λ (x : Situation). HoldsNothing x) (fresh_is first before none) empty);
    kind = ap (λ (m : Medium). in_memory m) medium_is ∙ kind;
    holds = λ volume S h at. subst (λ (x : Situation). HoldsState volume S x) (sym seen_is)
        (holds volume S (honest_is h) (subst (λ (x : Situation). HoldsState volume S x) (fresh_is first before none) at));
  }

-- a session was opened in the place of another, or that one stayed
pub turned : {T : Type 0} (medium : Medium) (outcome : Result T Fault) (old new : Session) → OnOk outcome (Opened medium new) → IfErr outcome (λ fault. RefusesToOpen medium fault × (new ≡ old)) → TurnsTo medium outcome old new
turned medium (Ok x) old new opens refuses = opens
turned medium (Err fault) old new opens refuses = refuses
