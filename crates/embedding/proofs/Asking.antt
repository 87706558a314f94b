-- What an open store knows of a client is what the state does.
use Rattle.std.proofs.Common.{◌≡◌, ℕ, List, Option, Some, None, sym, ap, subst, ◌∙◌}
use Rattle.std.proofs.lemmas.Option.{none-some}
use Rattle.std.specs.Prelude.{false, unwrap_or, Result, Ok, Err, IfOk, IfErr, OnErr}
use Rattle.drive.specs.Journal.{Event, Once, held}
use Rattle.model.specs.Session.{State, ClientRecord, record_of}
use Rattle.durability.specs.Volume.{RecoversTo}
use Rattle.udf.specs.Udf.{udf}
use Rattle.durability.specs.Formats.{Table_}
use Rattle.store.specs.declared.store.Store.{Store}
use Rattle.store.specs.Calls.{IsOpenOn}
use Rattle.engine.specs.declared.engine.Engine.{Engine}
use Rattle.engine.specs.Situation.{Situation, IsOpen}
use Rattle.engine.specs.Steps.{HoldsState}
use Rattle.embedding.specs.declared.session.Session.{Session}
use Rattle.embedding.specs.Sessions.{seen}
use Rattle.embedding.specs.Questions.{Asked, IsLast, latest, last_kept}

module _ (client number : ℕ) (old new : Session) (lent : Store) (is : new.engine.store ≡ Some lent) where
  pub is_last : (kept : (store : Store) × IsOpen (seen new) store) → number ≡ last_kept client lent.vat.sessions.records.items → Asked old new → IsLast client number old new
  is_last kept told asked =
      let same : kept.0 ≡ lent = ap (λ (o : Option Store). unwrap_or o lent) (sym kept.1.0 ∙ is) in
      let opened : IsOpen (seen new) lent = (is, subst (λ (s : Store). s.is_stopped ≡ false) same kept.1.1) in
      record {
        store = lent;
        opened = opened;
        number_is = told;
        of_state = λ volume S honest at.
            let knows = (asked.holds volume S honest at).knows lent opened in
            told ∙ ap (λ (rs : List ClientRecord). latest (record_of client rs)) (ap (λ (b : Table_). b.records) knows.table ∙ knows.stands.tells.records);
      }

-- a recovered state is known to the same store beside a medium that shows the same
pub holds_same : (volume : ℕ) (S : State) (before afterwards : Situation) → afterwards.store ≡ before.store → afterwards.journal ≡ before.journal → afterwards.capacity ≡ before.capacity → HoldsState volume S before → HoldsState volume S afterwards
holds_same volume S before afterwards kept journal size at = record {
  once = subst (λ (J : List Event). Once J) (sym journal) at.once;
  stands = subst (λ (c : ℕ). RecoversTo udf c volume (held afterwards.journal) S) (sym size) (subst (λ (J : List Event). RecoversTo udf before.capacity volume (held J) S) (sym journal) at.stands);
  knows = λ store there. subst (λ (c : ℕ). IsOpenOn c volume afterwards.journal S store) (sym size)
      (subst (λ (J : List Event). IsOpenOn before.capacity volume J S store) (sym journal) (at.knows store (sym kept ∙ there.0, there.1)));
}

-- what holds of an outcome holds of it in other words
pub if_ok : {T E : Type 0} {P Q : T → Type 0} (outcome : Result T E) → ((x : T) → P x → Q x) → IfOk outcome P → IfOk outcome Q
if_ok (Ok x) other h = other x h
if_ok (Err fault) other h = tt

pub if_err : {T E : Type 0} {P Q : E → Type 0} (outcome : Result T E) → ((x : E) → P x → Q x) → IfErr outcome P → IfErr outcome Q
if_err (Ok x) other h = tt
if_err (Err fault) other h = other fault h

-- an engine that keeps no store after it would have stayed with an open one had none
module _ (old new : Engine) (stays : (kept : Store) → (old.store ≡ Some kept) × (kept.is_stopped ≡ false) → new ≡ old) where
  pub had_none : new.store ≡ None → (kept : Store) → (old.store ≡ Some kept) × (kept.is_stopped ≡ false) → ⊥
  had_none closed kept there = none-some kept (sym closed ∙ ap (λ (e : Engine). e.store) (stays kept there) ∙ there.0)

  pub shuts : {T E : Type 0} (outcome : Result T E) → OnErr outcome (new.store ≡ None) → OnErr outcome ((kept : Store) → (old.store ≡ Some kept) × (kept.is_stopped ≡ false) → ⊥)
  shuts (Ok x) closed = tt
  shuts (Err fault) closed = had_none closed
