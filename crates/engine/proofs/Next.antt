-- A request that is due as a new one has its client's next number.
use Rattle.std.proofs.Common.{◌≡◌, ◌≢◌, ℕ, suc, ◌+◌, ◌<◌, Bool, true, false, cond, nat_lt, nat_le, ◌==◌, List, [], ◌∷◌, length, map, Option, Some, None, refl, sym, ap, ◌∙◌, arith, rules}
use Rattle.std.specs.Prelude.{AllPairs}
use Rattle.std.specs.List.{AllByRecursion}
use Rattle.std.proofs.lemmas.Bool.{eqb-true}
use Rattle.std.proofs.lemmas.Bool.Decides.{nat_tests}
use Rattle.std.proofs.lemmas.List.Elements.{All-from_recursion, recursion_from_All}
use Rattle.model.specs.Session.{Due, Reply, due_by, record_of, kept_or_stale}
use Rattle.model.specs.Session.Due.{Repeat, Stale, Gap, ClientsFull, New}
use Rattle.vat.specs.declared.record.Record.{Record}
use Rattle.udf.specs.Said.{model_record}
use Rattle.table_update.specs.TableChange.{IsNext}

abbrev is_new : Due → Bool
is_new (Repeat reply) = false
is_new (Stale latest) = false
is_new (Gap latest) = false
is_new ClientsFull = false
is_new New = true

not_new : (due : Due) → is_new due ≡ false → due ≡ New → ⊥
not_new due h e = let bad : ◌≡◌ {A = Bool} false true = sym h ∙ ap is_new e in absurd (search rules)

-- a client that has a record
next_of : (later same : Bool) (latest : ℕ) (kept : Option Reply) → cond later (cond same New (Gap latest)) (kept_or_stale latest kept) ≡ New → same ≡ true
next_of true true latest kept e = refl
next_of true false latest kept e = absurd (not_new (Gap latest) refl e)
next_of false same latest None e = absurd (not_new (Stale latest) refl e)
next_of false same latest (Some reply) e = absurd (not_new (Repeat reply) refl e)

-- a client that has none
first_of : (zero more full : Bool) → cond zero (Stale 0) (cond more (Gap 0) (cond full ClientsFull New)) ≡ New → (zero ≡ false) × (more ≡ false) × (full ≡ false)
first_of true more full e = absurd (not_new (Stale 0) refl e)
first_of false true full e = absurd (not_new (Gap 0) refl e)
first_of false false true e = absurd (not_new ClientsFull refl e)
first_of false false false e = (refl, refl, refl)

module _ (client number clients : ℕ) where
  abbrev IsKnown : Record → Type 0
  IsKnown r = r.client ≡ client → number ≡ r.latest + 1

  others : (r : Record) (rs : List Record) → r.client ≡ client → AllByRecursion (λ x. r.client ≢ x.client) rs → AllByRecursion IsKnown rs
  others r [] same h = tt
  others r (x ∷ rs) same h = (λ e. absurd (h.0 (same ∙ sym e)), others r rs same h.1)

  known : (rs : List Record) → AllPairs (λ a b. a.client ≢ b.client) rs → due_by number clients (record_of client (map model_record rs)) ≡ New → AllByRecursion IsKnown rs
  known [] apart e = tt
  known (r ∷ rs) apart e =
      go (r.client == client) refl (known rs (λ i j d lt within. apart (suc i) (suc j) d (omega arith) (omega arith))) e
    where
      go : (t : Bool) → (r.client == client) ≡ t → (due_by number clients (record_of client (map model_record rs)) ≡ New → AllByRecursion IsKnown rs)
          → due_by number clients (cond t (Some (model_record r)) (record_of client (map model_record rs))) ≡ New → AllByRecursion IsKnown (r ∷ rs)
      go true q rest e = (
        λ same. eqb-true number (r.latest + 1) (next_of (nat_lt r.latest number) (number == r.latest + 1) r.latest _ e),
        others r rs (eqb-true r.client client q) (recursion_from_All _ rs (λ k d lt. apart 0 (suc k) d (omega arith) (omega arith))),
      )
      go false q rest e =
          (λ same. let bad : (r.client == client) ≡ true = grind (arith, nat_tests) in absurd (search rules), rest e)

  unfound : (rs : List Record) → AllByRecursion (λ r. r.client ≢ client) rs → record_of client (map model_record rs) ≡ None
  unfound [] h = refl
  unfound (r ∷ rs) h =
      let no : (r.client == client) ≡ false = grind (arith, nat_tests, h.0) in
      ap (λ (b : Bool). cond b (Some (model_record r)) (record_of client (map model_record rs))) no ∙ unfound rs h.1

  first : due_by number clients None ≡ New → (number ≡ 1) × (clients < 64)
  first e =
      let tests = first_of (number == 0) (nat_lt 1 number) (nat_le 64 clients) e in
      let zero : (number == 0) ≡ false = tests.0 in
      let more : nat_lt 1 number ≡ false = tests.1 in
      let full : nat_le 64 clients ≡ false = tests.2 in
      (grind (arith, nat_tests), grind (arith, nat_tests))

-- what is due is new, so that the number is the client's next one
pub is_next : (client number : ℕ) (rs : List Record) → AllPairs (λ a b. a.client ≢ b.client) rs
    → due_by number (length rs) (record_of client (map model_record rs)) ≡ New → IsNext client number rs
is_next client number rs apart e = record {
  known = All-from_recursion _ rs (known client number (length rs) rs apart e);
  unknown = λ none. first client number (length rs) (ap (due_by number (length rs)) (sym (unfound client number (length rs) rs (recursion_from_All _ rs none))) ∙ e);
}
