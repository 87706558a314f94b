-- The table after a commit: an entry that is used was there before, or leads to a node that was written.
use Rattle.std.proofs.Common.{◌≡◌, ◌⊎◌, inl, inr, ℕ, ◌+◌, ◌≤◌, ◌==◌, cond, Bool, List, [], ◌∷◌, length, slice_get, Option, Some, None, sym, ◌∙◌, ap, arith}
use Rattle.std.proofs.lemmas.Option.{none-some, same_Some, slice_get_within}
use Rattle.durability.specs.Plan.{Written, with_entry, with_written, without_all, entries_after}
use Rattle.durability.proofs.Tables.{longer_by, length_longer, entry_there, entry_elsewhere, IsNotWritten, written_elsewhere}

pub same_or : (a b : ℕ) → (a ≡ b) ⊎ (a ≡ b → ⊥)
same_or a b = grind arith

longer_little : (address size : ℕ) → longer_by address size ≤ size + 1
longer_little address size = go (address == size)
  where
    go : (b : Bool) → cond b (size + 1) size ≤ size + 1
    go b = grind arith

-- a used entry that was changed is within the table
changed_within : (V : List (Option ℕ)) (address number : ℕ) (e : Option ℕ) → slice_get (with_entry V address e) address ≡ Some (Some number) → address ≤ length V
changed_within V address number e is =
    omega (arith, slice_get_within (with_entry V address e) address (Some number) is, length_longer V address e, longer_little address (length V))

-- it was written with this number
abbrev pub IsWritten : ℕ → ℕ → List Written → Type 0
IsWritten address number [] = ⊥
IsWritten address number (w ∷ written) = ((address ≡ w.address) × (number ≡ w.number)) ⊎ IsWritten address number written

pub written_or : (written : List Written) (V : List (Option ℕ)) (address number : ℕ) → slice_get (with_written V written) address ≡ Some (Some number) → IsNotWritten address written ⊎ IsWritten address number written
written_or [] V address number is = inl tt
written_or (w ∷ written) V address number is = go (written_or written (with_entry V w.address (Some w.number)) address number is) (same_or address w.address)
  where
    here : IsNotWritten address written → address ≡ w.address → number ≡ w.number
    here apart same =
        let at : slice_get (with_entry V w.address (Some w.number)) w.address ≡ Some (Some number) = ap (λ (a : ℕ). slice_get (with_entry V w.address (Some w.number)) a) (sym same) ∙ sym (written_elsewhere written (with_entry V w.address (Some w.number)) address apart) ∙ is in
        same_Some number w.number (same_Some (Some number) (Some w.number) (sym at ∙ entry_there V w.address (Some w.number) (changed_within V w.address number (Some w.number) at)))

    go : IsNotWritten address written ⊎ IsWritten address number written → (address ≡ w.address) ⊎ (address ≡ w.address → ⊥) → IsNotWritten address (w ∷ written) ⊎ IsWritten address number (w ∷ written)
    go (inr there) either = inr (inr there)
    go (inl apart) (inl same) = inr (inl (same, here apart same))
    go (inl apart) (inr other) = inl (other, apart)

left_used : (gone : List ℕ) (V : List (Option ℕ)) (address number : ℕ) → slice_get (without_all V gone) address ≡ Some (Some number) → slice_get V address ≡ Some (Some number)
left_used [] V address number is = is
left_used (g ∷ gone) V address number is = go (left_used gone (with_entry V g None) address number is) (same_or address g)
  where
    go : slice_get (with_entry V g None) address ≡ Some (Some number) → (address ≡ g) ⊎ (address ≡ g → ⊥) → slice_get V address ≡ Some (Some number)
    go at (inl same) =
        let there : slice_get (with_entry V g None) g ≡ Some (Some number) = ap (λ (a : ℕ). slice_get (with_entry V g None) a) (sym same) ∙ at in
        absurd (none-some number (same_Some None (Some number) (sym (entry_there V g None (changed_within V g number None there)) ∙ there)))
    go at (inr other) = sym (entry_elsewhere V g None address other) ∙ at

pub used_after : (V : List (Option ℕ)) (written : List Written) (gone : List ℕ) (address number : ℕ) → slice_get (entries_after V written gone) address ≡ Some (Some number)
    → (slice_get (entries_after V written gone) address ≡ slice_get V address) ⊎ IsWritten address number written
used_after V written gone address number is = elim (written_or written (without_all V gone) address number is) [
  | inl apart ↦ inl (is ∙ sym (left_used gone V address number (sym (written_elsewhere written (without_all V gone) address apart) ∙ is)))
  | inr there ↦ inr there
]
