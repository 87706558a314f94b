-- No request of a client is committed twice.
use Rattle.std.proofs.Common.{◌≡◌, ℕ, ◌+◌, ◌-◌, ◌≤◌, ◌==◌, if◌then◌else◌, nat_lt, cond, Bool, true, false, List, [], ◌∷◌, ◌++◌, length, map, slice_get, Option, Some, None, refl, sym, ◌∙◌, ap, subst, arith, eq-eqb}
use Rattle.std.specs.List.{list_any}
use Rattle.std.proofs.lemmas.Bool.{true≢false, eqb-true, eqb-false}
use Rattle.model.specs.Session.{State, Request, Reply, ClientRecord, due, due_by, kept_or_stale, record_of, answered, with_reply, reply_to, after_one, after}
use Rattle.model.specs.Session.Due.{Gap, New}
use Rattle.model.specs.Runs.{AllNew, IsNotAmong, EachOnce}

-- the least number that a client has not used
abbrev pub next_in : Option ClientRecord → ℕ
next_in None = 0
next_in (Some kept) = kept.latest + 1

new_next : (S : State) (client number : ℕ) → due S client number ≡ New → next_in (record_of client S.records) ≤ number
new_next S client number e = go (record_of client S.records) e
  where
    kept_new : (kept : ClientRecord) (b c : Bool) (o : Option Reply) → (number == kept.latest + 1) ≡ c
        → (if b then (if c then New else Gap kept.latest) else kept_or_stale kept.latest o) ≡ New → kept.latest + 1 ≤ number
    kept_new kept true true o at n = let same = eqb-true number (kept.latest + 1) at in omega arith
    kept_new kept true false o at n = cc
    kept_new kept false c None at n = cc
    kept_new kept false c (Some reply) at n = cc

    go : (o : Option ClientRecord) → due_by number (length S.records) o ≡ New → next_in o ≤ number
    go None n = omega arith
    go (Some kept) n = kept_new kept (nat_lt kept.latest number) (number == kept.latest + 1) (slice_get kept.replies (kept.latest - number)) refl n

module _ (client number : ℕ) (reply : Reply) where
  abbrev pub turn : ClientRecord → ClientRecord
  turn r = if r.client == client then answered number reply r else r

  abbrev fresh : ClientRecord
  fresh = record { client = client; latest = number; replies = reply ∷ [] }

  turned_same : (rs : List ClientRecord) → list_any (λ r. r.client == client) rs ≡ true → next_in (record_of client (map turn rs)) ≡ number + 1
  turned_same [] h = absurd (true≢false (sym h))
  turned_same (x ∷ rs) h = go (x.client == client) refl (turned_same rs)
    where
      go : (b : Bool) → (x.client == client) ≡ b → (list_any (λ r. r.client == client) rs ≡ true → next_in (record_of client (map turn rs)) ≡ number + 1) → next_in (record_of client (map turn (x ∷ rs))) ≡ number + 1
      go true e rest = simp e
      go false e rest = simp e (rest (simp e at h))

  pub added_same : (rs : List ClientRecord) → list_any (λ r. r.client == client) rs ≡ false → next_in (record_of client (rs ++ fresh ∷ [])) ≡ number + 1
  added_same [] h = simp (eq-eqb client client refl)
  added_same (x ∷ rs) h = go (x.client == client) refl (added_same rs)
    where
      go : (b : Bool) → (x.client == client) ≡ b → (list_any (λ r. r.client == client) rs ≡ false → next_in (record_of client (rs ++ fresh ∷ [])) ≡ number + 1) → next_in (record_of client ((x ∷ rs) ++ fresh ∷ [])) ≡ number + 1
      go true e rest = absurd (true≢false (simp e at h))
      go false e rest = simp e (rest (simp e at h))

  -- the client's next number
  next_same : (rs : List ClientRecord) → next_in (record_of client (with_reply client number reply rs)) ≡ number + 1
  next_same rs = go (list_any (λ r. r.client == client) rs) refl
    where
      go : (b : Bool) → list_any (λ r. r.client == client) rs ≡ b → next_in (record_of client (if b then map turn rs else rs ++ fresh ∷ [])) ≡ number + 1
      go true e = turned_same rs e
      go false e = added_same rs e

  module _ (other : ℕ) (apart : other ≡ client → ⊥) where
    apart_test : (x : ℕ) → (x == client) ≡ true → (x == other) ≡ false
    apart_test x e = go (x == other) refl
      where
        go : (b : Bool) → (x == other) ≡ b → b ≡ false
        go true f = absurd (apart (sym (eqb-true x other f) ∙ eqb-true x client e))
        go false f = refl

    turned_other : (rs : List ClientRecord) → record_of other (map turn rs) ≡ record_of other rs
    turned_other [] = refl
    turned_other (x ∷ rs) = go (x.client == client) refl (turned_other rs)
      where
        go : (b : Bool) → (x.client == client) ≡ b → record_of other (map turn rs) ≡ record_of other rs → record_of other (map turn (x ∷ rs)) ≡ record_of other (x ∷ rs)
        go true e rest = simp (e, apart_test x.client e) rest
        go false e rest = simp e (ap (λ (o : Option ClientRecord). cond (x.client == other) (Some x) o) rest)

    pub added_other : (rs : List ClientRecord) → record_of other (rs ++ fresh ∷ []) ≡ record_of other rs
    added_other [] = simp (apart_test client (eq-eqb client client refl))
    added_other (x ∷ rs) = ap (λ (o : Option ClientRecord). cond (x.client == other) (Some x) o) (added_other rs)

    pub next_other : (rs : List ClientRecord) → record_of other (with_reply client number reply rs) ≡ record_of other rs
    next_other rs = go (list_any (λ r. r.client == client) rs)
      where
        go : (b : Bool) → record_of other (if b then map turn rs else rs ++ fresh ∷ []) ≡ record_of other rs
        go true = turned_other rs
        go false = added_other rs

-- each request's number is one that its client has not used
abbrev Above : State → List Request → Type 0
Above S [] = Unit {0}
Above S (s ∷ C) = (next_in (record_of s.client S.records) ≤ s.number) × Above S C

-- what is carried through a list
record OnceFrom (S : State) (C : List Request) : Type 0 where
  above : Above S C
  once : EachOnce C

once_none : (S : State) → OnceFrom S []
once_none S = record { above = tt; once = tt }

module _ (S : State) (r : Request) where
  next_client : next_in (record_of r.client (after_one S r).records) ≡ r.number + 1
  next_client = next_same r.client r.number (reply_to S r) S.records

  above_before : next_in (record_of r.client S.records) ≤ r.number → (C : List Request) → Above (after_one S r) C → Above S C
  above_before first [] a = tt
  above_before first (s ∷ C) a = (go (s.client == r.client) refl, above_before first C a.1)
    where
      go : (b : Bool) → (s.client == r.client) ≡ b → next_in (record_of s.client S.records) ≤ s.number
      go true e =
          let same = eqb-true s.client r.client e in
          let afterwards : r.number + 1 ≤ s.number = subst (λ n. n ≤ s.number) (ap (λ c. next_in (record_of c (after_one S r).records)) same ∙ next_client) a.0 in
          let before : next_in (record_of s.client S.records) ≤ r.number = subst (λ c. next_in (record_of c S.records) ≤ r.number) (sym same) first in
          omega arith
      go false e = subst (λ o. next_in o ≤ s.number) (next_other r.client r.number (reply_to S r) s.client (eqb-false s.client r.client e) S.records) a.0

  not_among : (C : List Request) → Above (after_one S r) C → IsNotAmong r C
  not_among [] a = tt
  not_among (s ∷ C) a = (
    (λ client number. let afterwards : r.number + 1 ≤ s.number = subst (λ n. n ≤ s.number) (ap (λ c. next_in (record_of c (after_one S r).records)) client ∙ next_client) a.0 in absurd (omega arith)),
    not_among C a.1,
  )

  -- a new request goes before later ones
  once_more : due S r.client r.number ≡ New → (C : List Request) → OnceFrom (after_one S r) C → OnceFrom S (r ∷ C)
  once_more new C later =
      let first = new_next S r.client r.number new in
      record { above = (first, above_before first C later.above); once = (not_among C later.above, later.once) }

once_all : (C : List Request) (S : State) → AllNew S C → OnceFrom S C
once_all [] S new = once_none S
once_all (r ∷ C) S new = once_more S r new.0 C (once_all C (after_one S r) new.1)

-- where each is new none is twice
pub each_once : (S : State) (C : List Request) → AllNew S C → EachOnce C
each_once S C new = (once_all C S new).once

-- what is after a request does not take its number back
next_grows : (client : ℕ) (C : List Request) (S : State) → AllNew S C → next_in (record_of client S.records) ≤ next_in (record_of client (after S C).records)
next_grows client [] S new = omega arith
next_grows client (r ∷ C) S new = go (r.client == client) refl (next_grows client C (after_one S r) new.1)
  where
    go : (b : Bool) → (r.client == client) ≡ b → next_in (record_of client (after_one S r).records) ≤ next_in (record_of client (after S (r ∷ C)).records)
        → next_in (record_of client S.records) ≤ next_in (record_of client (after S (r ∷ C)).records)
    go true e rest =
        let same = eqb-true r.client client e in
        let step : next_in (record_of client (after_one S r).records) ≡ r.number + 1 = subst (λ c. next_in (record_of c (after_one S r).records) ≡ r.number + 1) same (next_client S r) in
        let before : next_in (record_of client S.records) ≤ r.number = subst (λ c. next_in (record_of c S.records) ≤ r.number) same (new_next S r.client r.number new.0) in
        omega arith
    go false e rest =
        let step : next_in (record_of client (after_one S r).records) ≡ next_in (record_of client S.records) =
        ap next_in (next_other r.client r.number (reply_to S r) client (λ s. eqb-false r.client client e (sym s)) S.records) in
        omega arith

-- a request that was committed is not new again
pub never_new : (S : State) (r : Request) (C : List Request) → AllNew S (r ∷ C) → due (after S (r ∷ C)) r.client r.number ≡ New → ⊥
never_new S r C new again =
    let first = next_client S r in
    let more = next_grows r.client C (after_one S r) new.1 in
    let last = new_next (after S (r ∷ C)) r.client r.number again in
    absurd (omega arith)
