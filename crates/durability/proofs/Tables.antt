-- A table that is changed at some addresses: what it has there, and what it keeps elsewhere.
use Rattle.std.proofs.Common.{◌≡◌, ◌⊎◌, inl, inr, ℕ, zero, suc, ◌+◌, ◌≤◌, ◌<◌, ◌==◌, cond, List, [], ◌∷◌, ◌++◌, length, drop, slice_get, slice_set, Option, Some, None, refl, sym, ◌∙◌, ap, arith, eq-eqb, length-append, length-drop}
use Rattle.std.proofs.lemmas.Bool.{ne_eqb}
use Rattle.std.proofs.lemmas.Option.{none-some, same_Some}
use Rattle.std.proofs.lemmas.List.Sums.{count_by-le-length, sum_by-cons}
use Rattle.std.specs.Prelude.{count_by, is_some}
use Rattle.model.specs.Addresses.{used_first, free_address}
use Rattle.durability.specs.Plan.{Written, with_entry, with_written, without_all, entries_after}
use Rattle.durability.proofs.Lists.{side, get-append, get_past, get-drop}
use Rattle.durability.proofs.Written.{Lead}

abbrev Entry : Type 0
Entry = Option ℕ

same_or : (a b : ℕ) → (a ≡ b) ⊎ (a ≡ b → ⊥)
same_or a b = grind arith

set_there : (V : List Entry) (i : ℕ) (e : Entry) → i < length V → slice_get (slice_set V i e) i ≡ Some e
set_there [] i e h = absurd (omega arith)
set_there (x ∷ V) zero e h = refl
set_there (x ∷ V) (suc i) e h = set_there V i e (omega arith)

set_elsewhere : (V : List Entry) (i j : ℕ) (e : Entry) → (j ≡ i → ⊥) → slice_get (slice_set V i e) j ≡ slice_get V j
set_elsewhere [] i j e h = refl
set_elsewhere (x ∷ V) zero zero e h = absurd (h refl)
set_elsewhere (x ∷ V) zero (suc j) e h = refl
set_elsewhere (x ∷ V) (suc i) zero e h = refl
set_elsewhere (x ∷ V) (suc i) (suc j) e h = set_elsewhere V i j e (λ same. h (ap suc same))

length-set : (V : List Entry) (i : ℕ) (e : Entry) → length (slice_set V i e) ≡ length V
length-set [] i e = refl
length-set (x ∷ V) zero e = refl
length-set (x ∷ V) (suc i) e = ap suc (length-set V i e)

get_beyond : (V : List Entry) (i : ℕ) → length V ≤ i → slice_get V i ≡ None
get_beyond [] i h = refl
get_beyond (x ∷ V) zero h = absurd (omega arith)
get_beyond (x ∷ V) (suc i) h = get_beyond V i (omega arith)

-- how long a table is with an entry at this address
abbrev pub longer_by : ℕ → ℕ → ℕ
longer_by address size = cond (address == size) (size + 1) size

module _ (V : List Entry) (address : ℕ) (e : Entry) where
  at_end : address ≡ length V → with_entry V address e ≡ V ++ e ∷ []
  at_end same = ap (λ b. cond b (V ++ e ∷ []) (slice_set V address e)) (eq-eqb address (length V) same)

  inside : (address ≡ length V → ⊥) → with_entry V address e ≡ slice_set V address e
  inside other = ap (λ b. cond b (V ++ e ∷ []) (slice_set V address e)) (ne_eqb address (length V) other)

  pub entry_there : address ≤ length V → slice_get (with_entry V address e) address ≡ Some e
  entry_there h = go (same_or address (length V))
    where
      go : (address ≡ length V) ⊎ (address ≡ length V → ⊥) → slice_get (with_entry V address e) address ≡ Some e
      go (inl same) = ap (λ (W : List Entry). slice_get W address) (at_end same) ∙ get_past V (e ∷ []) address 0 (omega arith)
      go (inr other) = ap (λ (W : List Entry). slice_get W address) (inside other) ∙ set_there V address e (omega arith)

  pub entry_elsewhere : (other : ℕ) → (other ≡ address → ⊥) → slice_get (with_entry V address e) other ≡ slice_get V other
  entry_elsewhere other apart = go (same_or address (length V))
    where
      beyond : address ≡ length V → (other < length V) ⊎ (length V ≤ other) → slice_get (V ++ e ∷ []) other ≡ slice_get V other
      beyond same (inl low) = get-append V (e ∷ []) other low
      beyond same (inr high) = get_beyond (V ++ e ∷ []) other (omega (arith, length-append V (e ∷ []))) ∙ sym (get_beyond V other high)

      go : (address ≡ length V) ⊎ (address ≡ length V → ⊥) → slice_get (with_entry V address e) other ≡ slice_get V other
      go (inl same) = ap (λ (W : List Entry). slice_get W other) (at_end same) ∙ beyond same (side other (length V))
      go (inr apart_end) = ap (λ (W : List Entry). slice_get W other) (inside apart_end) ∙ set_elsewhere V address other e apart

  -- how long the table is with the entry
  pub length_longer : length (with_entry V address e) ≡ longer_by address (length V)
  length_longer = go (same_or address (length V))
    where
      go : (address ≡ length V) ⊎ (address ≡ length V → ⊥) → length (with_entry V address e) ≡ longer_by address (length V)
      go (inl same) = ap (λ (W : List Entry). length W) (at_end same) ∙ length-append V (e ∷ []) ∙ ap (λ b. cond b (length V + 1) (length V)) (sym (eq-eqb address (length V) same))
      go (inr other) = ap (λ (W : List Entry). length W) (inside other) ∙ length-set V address e ∙ ap (λ b. cond b (length V + 1) (length V)) (sym (ne_eqb address (length V) other))

  pub length_inside : address < length V → length (with_entry V address e) ≡ length V
  length_inside h = ap (λ (W : List Entry). length W) (inside (λ same. omega arith)) ∙ length-set V address e

  pub length_at_end : address ≡ length V → length (with_entry V address e) ≡ length V + 1
  length_at_end same = ap (λ (W : List Entry). length W) (at_end same) ∙ length-append V (e ∷ [])

  pub length_grows : length V ≤ length (with_entry V address e)
  length_grows = go (same_or address (length V))
    where
      go : (address ≡ length V) ⊎ (address ≡ length V → ⊥) → length V ≤ length (with_entry V address e)
      go (inl same) = omega (arith, length_at_end same)
      go (inr other) = omega (arith, ap (λ (W : List Entry). length W) (inside other), length-set V address e)

-- the address is none of those written
abbrev pub IsNotWritten : ℕ → List Written → Type 0
IsNotWritten address [] = Unit {0}
IsNotWritten address (w ∷ written) = (address ≡ w.address → ⊥) × IsNotWritten address written

-- each address is written once, and none lies beyond the table's end
abbrev pub AreApart : ℕ → List Written → Type 0
AreApart size [] = Unit {0}
AreApart size (w ∷ written) = (w.address ≤ size) × IsNotWritten w.address written × AreApart size written

pub written_elsewhere : (written : List Written) (V : List Entry) (address : ℕ) → IsNotWritten address written → slice_get (with_written V written) address ≡ slice_get V address
written_elsewhere [] V address apart = refl
written_elsewhere (w ∷ written) V address apart =
    written_elsewhere written (with_entry V w.address (Some w.number)) address apart.1 ∙ entry_elsewhere V w.address (Some w.number) address apart.0

apart_more : (written : List Written) (size more : ℕ) → size ≤ more → AreApart size written → AreApart more written
apart_more [] size more h apart = tt
apart_more (w ∷ written) size more h apart = (omega (arith, apart.0), apart.1, apart_more written size more h apart.2)

-- each entry leads to where it was written
pub written_lead : (written : List Written) (V : List Entry) → AreApart (length V) written → Lead (with_written V written) written
written_lead [] V apart = tt
written_lead (w ∷ written) V apart =
    let W : List Entry = with_entry V w.address (Some w.number) in (
      written_elsewhere written W w.address apart.1 ∙ entry_there V w.address (Some w.number) apart.0,
      written_lead written W (apart_more written (length V) (length W) (length_grows V w.address (Some w.number)) apart.2),
    )

-- the address is none of those that are unused from now on
abbrev pub IsNotGone : ℕ → List ℕ → Type 0
IsNotGone address [] = Unit {0}
IsNotGone address (g ∷ gone) = (address ≡ g → ⊥) × IsNotGone address gone

pub gone_elsewhere : (gone : List ℕ) (V : List Entry) (address : ℕ) → IsNotGone address gone → slice_get (without_all V gone) address ≡ slice_get V address
gone_elsewhere [] V address apart = refl
gone_elsewhere (g ∷ gone) V address apart = gone_elsewhere gone (with_entry V g None) address apart.1 ∙ entry_elsewhere V g None address apart.0

gone_grows : (gone : List ℕ) (V : List Entry) → length V ≤ length (without_all V gone)
gone_grows [] V = omega arith
gone_grows (g ∷ gone) V = omega (arith, gone_grows gone (with_entry V g None), length_grows V g None)

-- what was written is found in the table after, and all else as it was
pub lead_after : (V : List Entry) (written : List Written) (gone : List ℕ) → AreApart (length V) written → Lead (entries_after V written gone) written
lead_after V written gone apart = written_lead written (without_all V gone) (apart_more written (length V) (length (without_all V gone)) (gone_grows gone V) apart)

pub same_after : (V : List Entry) (written : List Written) (gone : List ℕ) (address : ℕ) → IsNotWritten address written → IsNotGone address gone → slice_get (entries_after V written gone) address ≡ slice_get V address
same_after V written gone address unwritten kept = written_elsewhere written (without_all V gone) address unwritten ∙ gone_elsewhere gone V address kept

-- the least unused address has no used entry, and lies at the table's end at most
unused_first : (V : List Entry) (number : ℕ) → slice_get V (used_first V) ≡ Some (Some number) → ⊥
unused_first [] number e = none-some (Some number) e
unused_first (None ∷ V) number e = none-some number (same_Some None (Some number) e)
unused_first (Some n ∷ V) number e = unused_first V number e

first_within : (V : List Entry) → used_first V ≤ length V
first_within [] = omega arith
first_within (None ∷ V) = omega arith
first_within (Some n ∷ V) = omega (arith, first_within V)

pub unused_least : (V : List Entry) (number : ℕ) → slice_get V (free_address V) ≡ Some (Some number) → ⊥
unused_least V number e = unused_first (drop 2 V) number (get-drop 2 V (used_first (drop 2 V)) ∙ ap (λ i. slice_get V i) (let two : 2 + used_first (drop 2 V) ≡ free_address V = omega arith in two) ∙ e)

pub least_within : (V : List Entry) → 2 ≤ length V → free_address V ≤ length V
least_within V h = omega (arith, first_within (drop 2 V), length-drop 2 V)

used-cons : (e : Entry) (V : List Entry) → count_by is_some (e ∷ V) ≡ cond (is_some e) 1 0 + count_by is_some V
used-cons e V = sum_by-cons (λ x. cond (is_some x) 1 0) e V

all_used : (V : List Entry) → used_first V ≡ length V → count_by is_some V ≡ length V
all_used [] e = refl
all_used (None ∷ V) e = absurd (omega arith)
all_used (Some n ∷ V) e = omega (arith, used-cons (Some n) V, all_used V (omega arith))

one_unused : (V : List Entry) → used_first V < length V → count_by is_some V < length V
one_unused [] e = absurd (omega arith)
one_unused (None ∷ V) e = omega (arith, used-cons None V, count_by-le-length is_some V)
one_unused (Some n ∷ V) e = omega (arith, used-cons (Some n) V, one_unused V (omega arith))

-- a table without unused entries grows by a new node, another one does not
pub full_table : (V : List Entry) (a b : ℕ) → slice_get V 0 ≡ Some (Some a) → slice_get V 1 ≡ Some (Some b) → free_address V ≡ length V → count_by is_some V ≡ length V
full_table [] a b e f g = absurd (none-some (Some a) e)
full_table (x ∷ []) a b e f g = absurd (none-some (Some b) f)
full_table (x ∷ y ∷ V) a b e f g =
    let first : x ≡ Some a = same_Some x (Some a) e in
    let second : y ≡ Some b = same_Some y (Some b) f in
    let one : count_by is_some (x ∷ y ∷ V) ≡ 1 + count_by is_some (y ∷ V) = used-cons x (y ∷ V) ∙ ap (λ (z : Entry). cond (is_some z) 1 0 + count_by is_some (y ∷ V)) first in
    let two : count_by is_some (y ∷ V) ≡ 1 + count_by is_some V = used-cons y V ∙ ap (λ (z : Entry). cond (is_some z) 1 0 + count_by is_some V) second in
    omega (arith, one, two, all_used V (omega arith))

pub open_table : (V : List Entry) → free_address V < length V → count_by is_some V < length V
open_table [] h = absurd (omega arith)
open_table (x ∷ []) h = absurd (omega arith)
open_table (x ∷ y ∷ V) h = omega (arith, at_most x (y ∷ V), at_most y V, one_unused V (omega arith))
  where
    at_most : (e : Entry) (W : List Entry) → count_by is_some (e ∷ W) ≤ 1 + count_by is_some W
    at_most None W = omega (arith, used-cons None W)
    at_most (Some n) W = omega (arith, used-cons (Some n) W)
