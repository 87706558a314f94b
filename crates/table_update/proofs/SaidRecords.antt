-- The clients' records with one more reply, in the model's words.
use Rattle.std.proofs.Common.{◌≡◌, ℕ, zero, suc, ◌==◌, cond, Bool, true, false, List, [], ◌∷◌, ◌++◌, take, map, refl, ap, ◌∙◌}
use Rattle.std.specs.Prelude.{◌||◌}
use Rattle.std.specs.List.{list_any}
use Rattle.vat.specs.declared.record.Record.{Record}
use Rattle.vat.specs.declared.record.Reply.{Reply}
use Rattle.model.specs.Session.{ClientRecord}
use Rattle.model.specs.Session as model
use Rattle.udf.specs.Said.{said_reply, model_record}
use Rattle.table_update.specs.TableChange.{table_record_answered, table_record_answered_if, first_record, table_with_reply}

taken : (n : ℕ) (replies : List Reply) → map said_reply (take n replies) ≡ take n (map said_reply replies)
taken zero replies = refl
taken (suc n) [] = refl
taken (suc n) (reply ∷ replies) = ap (λ (rs : List model.Reply). said_reply reply ∷ rs) (taken n replies)

pushed : (rs : List Record) (r : Record) → map model_record (rs ++ r ∷ []) ≡ map model_record rs ++ model_record r ∷ []
pushed [] r = refl
pushed (x ∷ rs) r = ap (λ (ys : List ClientRecord). model_record x ∷ ys) (pushed rs r)

module _ (client number : ℕ) (reply : Reply) where
  said_answered : (r : Record) → model_record (table_record_answered_if client number reply r) ≡ model.answered_if client number (said_reply reply) (model_record r)
  said_answered r = go (r.client == client)
    where
      go : (b : Bool) → model_record (cond b (table_record_answered number reply r) r) ≡ cond b (model.answered number (said_reply reply) (model_record r)) (model_record r)
      go true = ap (λ (xs : List model.Reply). record { client = r.client; latest = number; replies = xs }) (taken 4 (reply ∷ r.replies))
      go false = refl

  all_answered : (rs : List Record) → map model_record (map (table_record_answered_if client number reply) rs) ≡ map (model.answered_if client number (said_reply reply)) (map model_record rs)
  all_answered [] = refl
  all_answered (r ∷ rs) = λ i. said_answered r i ∷ all_answered rs i

  some_client : (rs : List Record) → list_any (λ r. r.client == client) rs ≡ list_any (λ r. r.client == client) (map model_record rs)
  some_client [] = refl
  some_client (r ∷ rs) = ap (λ (b : Bool). (r.client == client) || b) (some_client rs)

  abbrev afterwards : List Record → Bool → List ClientRecord
  afterwards rs b = cond b (map (model.answered_if client number (said_reply reply)) (map model_record rs)) (map model_record rs ++ record { client = client; latest = number; replies = said_reply reply ∷ [] } ∷ [])

  -- as the model keeps it
  pub said_with_reply : (rs : List Record) → map model_record (table_with_reply client number reply rs) ≡ model.with_reply client number (said_reply reply) (map model_record rs)
  said_with_reply rs = go (list_any (λ r. r.client == client) rs) ∙ ap (afterwards rs) (some_client rs)
    where
      go : (b : Bool) → map model_record (cond b (map (table_record_answered_if client number reply) rs) (rs ++ first_record client number reply ∷ [])) ≡ afterwards rs b
      go true = all_answered rs
      go false = pushed rs (first_record client number reply)
