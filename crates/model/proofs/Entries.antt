-- Which addresses of the table are used after an operation.
use Rattle.std.proofs.Common.{◌≡◌, ◌↔◌, ◌⊎◌, inl, inr, ℕ, zero, suc, ◌<◌, ◌==◌, Bool, true, false, if◌then◌else◌, nat_lt, [], ◌∷◌, ◌++◌, length, Option, Some, None, refl, sym, ◌∙◌, ap, subst, arith, ne_eqb}
use Rattle.std.specs.Prelude.{slice_set}
use Rattle.std.proofs.lemmas.Bool.{false≢true, eqb-true, eqb-false, ltb-true, ltb-false}
use Rattle.model.specs.Tree.{Tree, IsTree}
use Rattle.model.specs.Operation.{Operation, code_of}
use Rattle.model.specs.Operation.Operation.{Create, Replace, Append, MakeDir, Rename, Remove}
use Rattle.model.specs.Graph.{Graph, Stored, MakesTree}
use Rattle.model.specs.Change.{ChangesNodes, IsReached, stored_in}
use Rattle.model.specs.Addresses.{AddressTable, HoldsNodes, UsedAfter, is_used, with_address, without_entry}
use Rattle.model.proofs.Made.{one_in}
use Rattle.model.proofs.Operations.{reached_after}

set_here : (table : AddressTable) (a start : ℕ) → a < length table → is_used (slice_set table a (Some start)) a ≡ true
set_here [] a start l = absurd (omega arith)
set_here (x ∷ table) zero start l = refl
set_here (x ∷ table) (suc a) start l = set_here table a start (omega arith)

pub out_here : (table : AddressTable) (a : ℕ) → is_used (slice_set table a None) a ≡ false
out_here [] a = refl
out_here (x ∷ table) zero = refl
out_here (x ∷ table) (suc a) = out_here table a

pub set_beside : (table : AddressTable) (a : ℕ) (entry : Option ℕ) (b : ℕ) → (b ≡ a → ⊥) → is_used (slice_set table a entry) b ≡ is_used table b
set_beside [] a entry b apart = refl
set_beside (x ∷ table) zero entry zero apart = absurd (apart refl)
set_beside (x ∷ table) zero entry (suc b) apart = refl
set_beside (x ∷ table) (suc a) entry zero apart = refl
set_beside (x ∷ table) (suc a) entry (suc b) apart = set_beside table a entry b (λ e. apart (ap suc e))

push_here : (table : AddressTable) (start : ℕ) → is_used (table ++ Some start ∷ []) (length table) ≡ true
push_here [] start = refl
push_here (x ∷ table) start = push_here table start

push_beside : (table : AddressTable) (start b : ℕ) → (b ≡ length table → ⊥) → is_used (table ++ Some start ∷ []) b ≡ is_used table b
push_beside [] start zero apart = absurd (apart refl)
push_beside [] start (suc b) apart = refl
push_beside (x ∷ table) start zero apart = refl
push_beside (x ∷ table) start (suc b) apart = push_beside table start b (λ e. apart (ap suc e))

-- one value at an address, and another elsewhere
by_test : (a other : ℕ) (got new old : Bool) → (other ≡ a → got ≡ new) → ((other ≡ a → ⊥) → got ≡ old) → got ≡ (if other == a then new else old)
by_test a other got new old here beside = go (other == a) refl
  where
    go : (b : Bool) → (other == a) ≡ b → got ≡ (if b then new else old)
    go true e = here (eqb-true other a e)
    go false e = beside (eqb-false other a e)

-- the address is used then, and any other as before
pub with_used : (table : AddressTable) (address start other : ℕ) → (address < length table) ⊎ (address ≡ length table) → is_used (with_address address start table) other ≡ (if other == address then true else is_used table other)
with_used table address start other at = go (nat_lt address (length table)) refl at
  where
    go : (b : Bool) → nat_lt address (length table) ≡ b → (address < length table) ⊎ (address ≡ length table)
        → is_used (if b then slice_set table address (Some start) else table ++ Some start ∷ []) other ≡ (if other == address then true else is_used table other)
    go true e m = by_test address other _ true (is_used table other)
        (λ s. ap (is_used (slice_set table address (Some start))) s ∙ set_here table address start (ltb-true address (length table) e)) (λ s. set_beside table address (Some start) other s)
    go false e (inl l) = let past = ltb-false address (length table) e in absurd (omega arith)
    go false e (inr t) = by_test address other _ true (is_used table other)
        (λ s. ap (is_used (table ++ Some start ∷ [])) (s ∙ t) ∙ push_here table start) (λ s. push_beside table start other (λ u. s (u ∙ sym t)))

pub without_used : (table : AddressTable) (address other : ℕ) → is_used (without_entry address table) other ≡ (if other == address then false else is_used table other)
without_used table address other = by_test address other _ false (is_used table other)
    (λ s. ap (is_used (without_entry address table)) s ∙ out_here table address) (λ s. set_beside table address None other s)

module _ (graph graph' : Graph) (table table' : AddressTable) (holds : HoldsNodes graph table) where
  -- the same addresses are reached and used
  same_follow : ((a : ℕ) → IsReached graph' a ↔ IsReached graph a) → ((a : ℕ) → is_used table' a ≡ is_used table a) → HoldsNodes graph' table'
  same_follow reached used = record {
    set = used 0 ∙ holds.set;
    apart = λ r. holds.apart ((reached 0).0 r);
    nodes = λ a above. ((λ e. (reached a).1 ((holds.nodes a above).0 (sym (used a) ∙ e))), (λ r. used a ∙ (holds.nodes a above).1 ((reached a).0 r)));
  }

  -- one more is
  more_follow : (new : ℕ) → 0 < new → ((a : ℕ) → IsReached graph' a ↔ (IsReached graph a ⊎ (a ≡ new))) → ((a : ℕ) → is_used table' a ≡ (if a == new then true else is_used table a)) → HoldsNodes graph' table'
  more_follow new some reached used = record {
    set = used 0 ∙ ap (λ b. if b then true else is_used table 0) (ne_eqb 0 new (λ e. absurd (omega arith))) ∙ holds.set;
    apart = λ r. elim ((reached 0).0 r) [ inl s ↦ holds.apart s | inr e ↦ absurd (omega arith) ];
    nodes = λ a above. (
      (λ e. (reached a).1 (go a above (a == new) refl (sym (used a) ∙ e))),
      (λ r. used a ∙ back a above (a == new) refl ((reached a).0 r)),
    );
  }
    where
      go : (a : ℕ) → 0 < a → (b : Bool) → (a == new) ≡ b → (if b then true else is_used table a) ≡ true → IsReached graph a ⊎ (a ≡ new)
      go a above true t e = inr (eqb-true a new t)
      go a above false t e = inl ((holds.nodes a above).0 e)

      back : (a : ℕ) → 0 < a → (b : Bool) → (a == new) ≡ b → IsReached graph a ⊎ (a ≡ new) → (if b then true else is_used table a) ≡ true
      back a above true t r = refl
      back a above false t (inl r) = (holds.nodes a above).1 r
      back a above false t (inr e) = absurd (eqb-false a new t e)

  -- one less is
  less_follow : (gone : ℕ) → IsReached graph gone → ((a : ℕ) → IsReached graph' a ↔ (IsReached graph a × (a ≡ gone → ⊥))) → ((a : ℕ) → is_used table' a ≡ (if a == gone then false else is_used table a)) → HoldsNodes graph' table'
  less_follow gone there reached used = record {
    set = used 0 ∙ ap (λ b. if b then false else is_used table 0) (ne_eqb 0 gone (λ e. holds.apart (subst (IsReached graph) (sym e) there))) ∙ holds.set;
    apart = λ r. holds.apart ((reached 0).0 r).0;
    nodes = λ a above. (
      (λ e. (reached a).1 (go a above (a == gone) refl (sym (used a) ∙ e))),
      (λ r. used a ∙ back a above (a == gone) refl ((reached a).0 r)),
    );
  }
    where
      go : (a : ℕ) → 0 < a → (b : Bool) → (a == gone) ≡ b → (if b then false else is_used table a) ≡ true → IsReached graph a × (a ≡ gone → ⊥)
      go a above true t e = absurd (false≢true e)
      go a above false t e = ((holds.nodes a above).0 e, eqb-false a gone t)

      back : (a : ℕ) → 0 < a → (b : Bool) → (a == gone) ≡ b → IsReached graph a × (a ≡ gone → ⊥) → (if b then false else is_used table a) ≡ true
      back a above true t r = absurd (r.1 (eqb-true a gone t))
      back a above false t r = (holds.nodes a above).1 r.0

pub entries_follow : (op : Operation) (moment identity : ℕ) (tree : Tree) (before after : ℕ → Option Stored) (table table' : AddressTable) → IsTree tree → code_of op tree ≡ 0
    → MakesTree (stored_in before) tree → HoldsNodes (stored_in before) table → (change : ChangesNodes (stored_in before) (stored_in after) op moment identity)
    → UsedAfter (stored_in before) (stored_in after) op moment identity change table table' → HoldsNodes (stored_in after) table'
entries_follow (Create path bytes) moment identity tree before after table table' is e makes holds change used =
    more_follow (stored_in before) (stored_in after) table table' holds change.address used.0
    (reached_after (Create path bytes) moment identity tree (stored_in before) (stored_in after) is (one_in before) (one_in after) makes e change) used.1
entries_follow (MakeDir path) moment identity tree before after table table' is e makes holds change used =
    more_follow (stored_in before) (stored_in after) table table' holds change.address used.0
    (reached_after (MakeDir path) moment identity tree (stored_in before) (stored_in after) is (one_in before) (one_in after) makes e change) used.1
entries_follow (Replace path bytes) moment identity tree before after table table' is e makes holds change used =
    same_follow (stored_in before) (stored_in after) table table' holds
    (reached_after (Replace path bytes) moment identity tree (stored_in before) (stored_in after) is (one_in before) (one_in after) makes e change) used
entries_follow (Append path offset bytes) moment identity tree before after table table' is e makes holds change used =
    same_follow (stored_in before) (stored_in after) table table' holds
    (reached_after (Append path offset bytes) moment identity tree (stored_in before) (stored_in after) is (one_in before) (one_in after) makes e change) used
entries_follow (Rename from to) moment identity tree before after table table' is e makes holds change used =
    same_follow (stored_in before) (stored_in after) table table' holds
    (reached_after (Rename from to) moment identity tree (stored_in before) (stored_in after) is (one_in before) (one_in after) makes e change) used
entries_follow (Remove path) moment identity tree before after table table' is e makes holds change used =
    less_follow (stored_in before) (stored_in after) table table' holds change.gone.address (path, change.gone.reach)
    (reached_after (Remove path) moment identity tree (stored_in before) (stored_in after) is (one_in before) (one_in after) makes e change) used
