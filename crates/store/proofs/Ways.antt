-- Where a chain of tables breaks off.
use Rattle.std.proofs.Common.{◌≡◌, ℕ, ◌+◌, ◌<◌, ◌≤◌, inl, inr, List, Option, Some, None, IsNone, ◌↔◌, refl, sym, ap, subst, ◌∙◌, arith, eq-or-lt_of_le}
use Rattle.std.proofs.lemmas.Option.{same_Some}
use Rattle.limits.specs.declared.TheConstants.{PARTITION_START}
use Rattle.durability.specs.Formats.{Table_}
use Rattle.vat.specs.Table.{Table}
use Rattle.recover.specs.declared.fault.StoreFault.{StoreFault}
use Rattle.recover.specs.declared.fault.StoreFault.TheVariants.{Device, Memory, Damaged}
use Rattle.recover.specs.Tables.{HasTableAt, IsAtRefused, IsBefore, IsLinkRefused}
use Rattle.recover.proofs.Told.{is_read, one_read}
use Rattle.store.specs.History.{IsWayRefused, ChainLeads}

-- no table of one commit less is where a link leads that was refused
pub link_refused : (M : List (List ℕ)) (there commits : ℕ) (b c : ℕ) → IsLinkRefused M there commits (Damaged b c) → (u : Table) → HasTableAt M there u → u.commits + 1 ≡ commits → ⊥
link_refused M there commits b c refused u has fewer =
    elim refused [
      | inl none ↦ is_read M there u has b c none
      | inr other ↦ other.3 (ap (λ (x : Table_). x.commits + 1) (one_read M there other.1 u other.2 has) ∙ fewer)
    ]

no_step : (M : List (List ℕ)) (at number : ℕ) (t : Table) → HasTableAt M at t → t.previous ≡ Some number → (b c : ℕ) → IsLinkRefused M (number + PARTITION_START) t.commits (Damaged b c) → (earlier : ℕ) → IsBefore M at (Some earlier) → ⊥
no_step M at number t has link b c refused earlier (s, here, n, is, there, u, before, fewer) =
    let same = one_read M at s t here has in
    let one : n ≡ number = same_Some n number (sym is ∙ ap (λ (x : Table_). x.previous) same ∙ link) in
    let place : earlier ≡ number + PARTITION_START = omega (arith, there, one) in
    link_refused M (number + PARTITION_START) t.commits b c refused u (subst (λ (a : ℕ). HasTableAt M a u) place before) (fewer ∙ ap (λ (x : Table_). x.commits) same)

-- the first table was not read
pub way_first : (M : List (List ℕ)) (from commits : ℕ) (fault : StoreFault) → IsAtRefused M from fault → IsWayRefused M from commits fault
way_first M from commits Device r = tt
way_first M from commits Memory r = tt
way_first M from commits (Damaged b c) r = λ t has le. absurd (is_read M from t has b c r)
way_first M from commits _ r = elim r [ inl entry ↦ absurd entry | inr table ↦ absurd table.3 ]

-- nor a later one
pub way_link : (M : List (List ℕ)) (from commits steps at number : ℕ) (t : Table) → ChainLeads M from steps at → HasTableAt M at t → t.previous ≡ Some number
    → ((first : Table) → HasTableAt M from first → commits ≤ first.commits → commits < t.commits) → (fault : StoreFault) → IsLinkRefused M (number + PARTITION_START) t.commits fault → IsWayRefused M from commits fault
way_link M from commits steps at number t leads has link more Device r = tt
way_link M from commits steps at number t leads has link more Memory r = tt
way_link M from commits steps at number t leads has link more (Damaged b c) r = λ first there le. record {
  steps = steps;
  at = at;
  leads = leads;
  table = t;
  there = has;
  more = more first there le;
  none = no_step M at number t has link b c r;
}
way_link M from commits steps at number t leads has link more _ r =
    elim r [ inl none ↦ elim none [ inl entry ↦ absurd entry | inr table ↦ absurd table.3 ] | inr other ↦ (let is = other.0 in cc) ]

-- at the first table of all, no more commits are wanted
pub way_end : (M : List (List ℕ)) (from commits : ℕ) (t : Table) → t.previous ≡ None → (IsNone t.previous ↔ (t.commits ≡ 0)) → (t.commits ≡ commits → ⊥)
    → ((first : Table) → HasTableAt M from first → commits ≤ first.commits → commits ≤ t.commits) → (b c : ℕ) → IsWayRefused M from commits (Damaged b c)
way_end M from commits t none first other more b c head there le =
    let no_more = more head there le in
    let zero = first.0 (subst (λ (p : Option ℕ). IsNone p) (sym none) refl) in
    absurd (other (omega (arith, no_more, zero)))

-- more than are wanted
pub more_than : (wanted now : ℕ) → wanted ≤ now → (now ≡ wanted → ⊥) → wanted < now
more_than wanted now le other = elim (eq-or-lt_of_le le) [ inl same ↦ absurd (other (sym same)) | inr less ↦ less ]
