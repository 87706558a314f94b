-- The reply of each of a client's last four requests is kept.
use Rattle.std.proofs.Common.{◌≡◌, ℕ, suc, ◌+◌, ◌-◌, ◌<◌, ◌==◌, if◌then◌else◌, nat_lt, cond, Bool, true, false, List, [], ◌∷◌, ◌++◌, length, map, slice_get, Option, Some, None, refl, sym, ◌∙◌, ap, subst, arith, eq-eqb, le-ltb}
use Rattle.std.specs.List.{list_any}
use Rattle.std.proofs.lemmas.Bool.{true≢false, eqb-true, eqb-false}
use Rattle.std.proofs.lemmas.Option.{none-some, same_Some}
use Rattle.model.specs.Session.{State, Request, Reply, ClientRecord, due, due_by, kept_or_stale, record_of, answered, reply_to, after_one, after}
use Rattle.model.specs.Session.Due.{Repeat, Gap, New}
use Rattle.model.specs.Runs.{AllNew, commits_of_client}
use Rattle.model.proofs.Lists.{get-take}
use Rattle.model.proofs.Sessions.{turn, next_other}

-- the reply is kept so many places back
record Keeps (S : State) (client number back : ℕ) (reply : Reply) : Type 0 where
  kept : ClientRecord
  is : record_of client S.records ≡ Some kept
  latest : kept.latest ≡ number + back
  there : slice_get kept.replies back ≡ Some reply

due_kept : (S : State) (client number back : ℕ) (reply : Reply) → Keeps S client number back reply → due S client number ≡ Repeat reply
due_kept S client number back reply k =
    let old : nat_lt k.kept.latest number ≡ false = le-ltb k.kept.latest number (omega (arith, k.latest)) in
    let place : k.kept.latest - number ≡ back = omega (arith, k.latest) in
    let same : due_by number (length S.records) (record_of client S.records) ≡ due_by number (length S.records) (Some k.kept) = ap (λ (o : Option ClientRecord). due_by number (length S.records) o) k.is in
    same ∙ go (nat_lt k.kept.latest number) (slice_get k.kept.replies (k.kept.latest - number)) old (ap (λ i. slice_get k.kept.replies i) place ∙ k.there)
  where
    go : (b : Bool) (o : Option Reply) → b ≡ false → o ≡ Some reply
        → (if b then (if number == k.kept.latest + 1 then New else Gap k.kept.latest) else kept_or_stale k.kept.latest o) ≡ Repeat reply
    go true o e f = absurd (true≢false e)
    go false None e f = absurd (none-some reply f)
    go false (Some r) e f = ap Repeat (same_Some r reply f)

find_turned : (client number : ℕ) (reply : Reply) (rs : List ClientRecord) (kept : ClientRecord) → record_of client rs ≡ Some kept
    → (list_any (λ r. r.client == client) rs ≡ true) × (record_of client (map (turn client number reply) rs) ≡ Some (answered number reply kept))
find_turned client number reply [] kept e = absurd (none-some kept e)
find_turned client number reply (x ∷ rs) kept e = go (x.client == client) refl (find_turned client number reply rs kept)
  where
    go : (b : Bool) → (x.client == client) ≡ b
        → (record_of client rs ≡ Some kept → (list_any (λ r. r.client == client) rs ≡ true) × (record_of client (map (turn client number reply) rs) ≡ Some (answered number reply kept)))
        → (list_any (λ r. r.client == client) (x ∷ rs) ≡ true) × (record_of client (map (turn client number reply) (x ∷ rs)) ≡ Some (answered number reply kept))
    go true t rest = (simp t, simp t (ap (λ (k : ClientRecord). Some (answered number reply k)) (same_Some x kept (simp t at e))))
    go false f rest = let r = rest (simp f at e) in (simp f r.0, simp f r.1)

find_added : (client number : ℕ) (reply : Reply) (rs : List ClientRecord) → record_of client rs ≡ None
    → (list_any (λ r. r.client == client) rs ≡ false) × (record_of client (rs ++ record { client = client; latest = number; replies = reply ∷ [] } ∷ []) ≡ Some (record { client = client; latest = number; replies = reply ∷ [] }))
find_added client number reply [] e = (refl, simp (eq-eqb client client refl))
find_added client number reply (x ∷ rs) e = go (x.client == client) refl (find_added client number reply rs)
  where
    new : ClientRecord
    new = record { client = client; latest = number; replies = reply ∷ [] }

    go : (b : Bool) → (x.client == client) ≡ b
        → (record_of client rs ≡ None → (list_any (λ r. r.client == client) rs ≡ false) × (record_of client (rs ++ record { client = client; latest = number; replies = reply ∷ [] } ∷ []) ≡ Some (record { client = client; latest = number; replies = reply ∷ [] })))
        → (list_any (λ r. r.client == client) (x ∷ rs) ≡ false) × (record_of client ((x ∷ rs) ++ record { client = client; latest = number; replies = reply ∷ [] } ∷ []) ≡ Some (record { client = client; latest = number; replies = reply ∷ [] }))
    go true t rest = absurd (none-some x (sym (simp t at e)))
    go false f rest = let r = rest (simp f at e) in (simp f r.0, simp f r.1)

kept_first : (S : State) (r : Request) → Keeps (after_one S r) r.client r.number 0 (reply_to S r)
kept_first S r = go (record_of r.client S.records) refl
  where
    go : (o : Option ClientRecord) → record_of r.client S.records ≡ o → Keeps (after_one S r) r.client r.number 0 (reply_to S r)
    go (Some kept) e =
        let f = find_turned r.client r.number (reply_to S r) S.records kept e in
        record { kept = answered r.number (reply_to S r) kept; is = rw f.0 f.1; latest = omega arith; there = refl }
    go None e =
        let f = find_added r.client r.number (reply_to S r) S.records e in
        record { kept = record { client = r.client; latest = r.number; replies = reply_to S r ∷ [] }; is = rw f.0 f.1; latest = omega arith; there = refl }

-- a new request has the next number
pub new_number : (S : State) (client number : ℕ) (kept : ClientRecord) → record_of client S.records ≡ Some kept → due S client number ≡ New → number ≡ kept.latest + 1
new_number S client number kept e n =
    let same : due_by number (length S.records) (record_of client S.records) ≡ due_by number (length S.records) (Some kept) = ap (λ (o : Option ClientRecord). due_by number (length S.records) o) e in
    go (nat_lt kept.latest number) (number == kept.latest + 1) (slice_get kept.replies (kept.latest - number)) refl (sym same ∙ n)
  where
    go : (b c : Bool) (o : Option Reply) → (number == kept.latest + 1) ≡ c
        → (if b then (if c then New else Gap kept.latest) else kept_or_stale kept.latest o) ≡ New → number ≡ kept.latest + 1
    go true true o at m = eqb-true number (kept.latest + 1) at
    go true false o at m = cc
    go false c None at m = cc
    go false c (Some reply) at m = cc

module _ (client number : ℕ) (reply : Reply) where
  kept_other : (S : State) (s : Request) (back : ℕ) → (client ≡ s.client → ⊥) → Keeps S client number back reply → Keeps (after_one S s) client number back reply
  kept_other S s back apart k = record { kept = k.kept; is = next_other s.client s.number (reply_to S s) client apart S.records ∙ k.is; latest = k.latest; there = k.there }

  kept_same : (S : State) (s : Request) (back : ℕ) → s.client ≡ client → due S s.client s.number ≡ New → back < 3 → Keeps S client number back reply → Keeps (after_one S s) client number (suc back) reply
  kept_same S s back same new few k =
      let is : record_of s.client S.records ≡ Some k.kept = subst (λ c. record_of c S.records ≡ Some k.kept) (sym same) k.is in
      let next = new_number S s.client s.number k.kept is new in
      let f = find_turned s.client s.number (reply_to S s) S.records k.kept is in
      record {
        kept = answered s.number (reply_to S s) k.kept;
        is = subst (λ c. record_of c (after_one S s).records ≡ Some (answered s.number (reply_to S s) k.kept)) same (rw f.0 f.1);
        latest = omega (arith, next, k.latest);
        there = get-take 3 k.kept.replies back few ∙ k.there;
      }

  kept_after : (D : List Request) (S : State) (back : ℕ) → AllNew S D → back + commits_of_client client D < 4 → Keeps S client number back reply → due (after S D) client number ≡ Repeat reply
  kept_after [] S back new few k = due_kept S client number back reply k
  kept_after (s ∷ D) S back new few k = go (s.client == client) refl few (kept_after D (after_one S s))
    where
      go : (b : Bool) → (s.client == client) ≡ b → back + (cond b 1 0 + commits_of_client client D) < 4
          → ((n : ℕ) → AllNew (after_one S s) D → n + commits_of_client client D < 4 → Keeps (after_one S s) client number n reply → due (after (after_one S s) D) client number ≡ Repeat reply)
          → due (after S (s ∷ D)) client number ≡ Repeat reply
      go true e small rest = rest (suc back) new.1 (omega arith) (kept_same S s back (eqb-true s.client client e) new.0 (omega arith) k)
      go false e small rest = rest back new.1 (omega arith) (kept_other S s back (λ same. eqb-false s.client client e (sym same)) k)

-- a request that was committed is answered by its reply, while its client committed fewer than four since
pub repeat_kept : (S : State) (r : Request) (D : List Request) → AllNew S (r ∷ D) → commits_of_client r.client D < 4 → due (after S (r ∷ D)) r.client r.number ≡ Repeat (reply_to S r)
repeat_kept S r D new few = kept_after r.client r.number (reply_to S r) D (after_one S r) 0 new.1 (omega arith) (kept_first S r)
