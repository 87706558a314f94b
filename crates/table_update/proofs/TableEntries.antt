-- A table's entries as the store changes them are those that a plan asks for.
use Rattle.std.proofs.Common.{◌≡◌, ◌⊎◌, inl, inr, ℕ, zero, suc, ◌+◌, ◌<◌, ◌≤◌, ◌==◌, cond, Bool, true, false, List, [], ◌∷◌, ◌++◌, length, take, drop, map, slice_set, refl, sym, ap, ◌∙◌, subst, arith, eq-eqb, length-append}
use Rattle.std.specs.Prelude.{Option, Some, None}
use Rattle.std.proofs.lemmas.Bool.{ne_eqb, eqb-true, eqb-false}
use Rattle.vat.specs.Table.{Table}
use Rattle.durability.specs.Plan.{Written, with_written, entries_after}
use Rattle.durability.specs.Plan as plan
use Rattle.durability.proofs.Tables.{length_inside, length_at_end}
use Rattle.table_update.specs.TableChange.{with_number, with_nodes, placed}
use Rattle.table_update.specs.NextTable.{all_placed}
use Rattle.table_update.proofs.EntryChanges.{entry_pushed}

abbrev Entry : Type 0
Entry = Option ℕ

-- ---- one entry

put_in : (xs : List Entry) (i : ℕ) (e : Entry) → i < length xs → take i xs ++ e ∷ drop (suc i) xs ≡ slice_set xs i e
put_in [] i e lt = absurd (omega arith)
put_in (x ∷ xs) zero e lt = refl
put_in (x ∷ xs) (suc i) e lt = ap (λ (ys : List Entry). x ∷ ys) (put_in xs i e (omega arith))

-- an entry no further than after the last is the plan's
pub same_entry : (xs : List Entry) (i : ℕ) (e : Entry) → i ≤ length xs → with_number i e xs ≡ plan.with_entry xs i e
same_entry xs i e le = go (i == length xs) refl
  where
    go : (b : Bool) → (i == length xs) ≡ b → with_number i e xs ≡ cond b (xs ++ e ∷ []) (slice_set xs i e)
    go true is = sym (entry_pushed xs i e (eqb-true i (length xs) is))
    go false is =
        let apart = eqb-false i (length xs) is in
        let next : i + 1 ≡ suc i = omega arith in
        ap (λ (n : ℕ). take i xs ++ e ∷ drop n xs) next ∙ put_in xs i e (grind (arith, apart, le))

set_again : (xs : List Entry) (i : ℕ) (e f : Entry) → slice_set (slice_set xs i e) i f ≡ slice_set xs i f
set_again [] i e f = refl
set_again (x ∷ xs) zero e f = refl
set_again (x ∷ xs) (suc i) e f = ap (λ (ys : List Entry). x ∷ ys) (set_again xs i e f)

set_pushed : (xs : List Entry) (e f : Entry) → slice_set (xs ++ e ∷ []) (length xs) f ≡ xs ++ f ∷ []
set_pushed [] e f = refl
set_pushed (x ∷ xs) e f = ap (λ (ys : List Entry). x ∷ ys) (set_pushed xs e f)

set_apart : (xs : List Entry) (i j : ℕ) (e f : Entry) → (i ≡ j → ⊥) → slice_set (slice_set xs i e) j f ≡ slice_set (slice_set xs j f) i e
set_apart [] i j e f apart = refl
set_apart (x ∷ xs) zero zero e f apart = absurd (apart refl)
set_apart (x ∷ xs) zero (suc j) e f apart = refl
set_apart (x ∷ xs) (suc i) zero e f apart = refl
set_apart (x ∷ xs) (suc i) (suc j) e f apart = ap (λ (ys : List Entry). x ∷ ys) (set_apart xs i j e f (λ same. apart (ap suc same)))

in_place : (xs : List Entry) (i : ℕ) (e : Entry) → i < length xs → plan.with_entry xs i e ≡ slice_set xs i e
in_place xs i e lt = ap (λ (b : Bool). cond b (xs ++ e ∷ []) (slice_set xs i e)) (ne_eqb i (length xs) (λ same. omega arith))

at_end : (xs : List Entry) (e : Entry) → plan.with_entry xs (length xs) e ≡ xs ++ e ∷ []
at_end xs e = ap (λ (b : Bool). cond b (xs ++ e ∷ []) (slice_set xs (length xs) e)) (eq-eqb (length xs) (length xs) refl)

pushed_long : (xs : List Entry) (e : Entry) → length xs < length (xs ++ e ∷ [])
pushed_long xs e = omega (arith, length-append xs (e ∷ []))

pub below_or_at : (a b : ℕ) → a ≤ b → (a < b) ⊎ (a ≡ b)
below_or_at a b le = grind arith

-- the last of two at one address counts
pub entry_again : (xs : List Entry) (i : ℕ) (e f : Entry) → i ≤ length xs → plan.with_entry (plan.with_entry xs i e) i f ≡ plan.with_entry xs i f
entry_again xs i e f le = go (below_or_at i (length xs) le)
  where
    go : (i < length xs) ⊎ (i ≡ length xs) → plan.with_entry (plan.with_entry xs i e) i f ≡ plan.with_entry xs i f
    go (inl lt) =
        let long : length (plan.with_entry xs i e) ≡ length xs = length_inside xs i e lt in
        in_place (plan.with_entry xs i e) i f (omega arith) ∙ ap (λ (ys : List Entry). slice_set ys i f) (in_place xs i e lt) ∙ set_again xs i e f ∙ sym (in_place xs i f lt)
    go (inr same) = subst (λ (n : ℕ). plan.with_entry (plan.with_entry xs n e) n f ≡ plan.with_entry xs n f) (sym same)
        (ap (λ (ys : List Entry). plan.with_entry ys (length xs) f) (at_end xs e) ∙ in_place (xs ++ e ∷ []) (length xs) f (pushed_long xs e) ∙ set_pushed xs e f ∙ sym (at_end xs f))

-- two at different addresses may come in either order
entries_apart : (xs : List Entry) (i j : ℕ) (e f : Entry) → (i ≡ j → ⊥) → i < length xs → j < length xs
    → plan.with_entry (plan.with_entry xs i e) j f ≡ plan.with_entry (plan.with_entry xs j f) i e
entries_apart xs i j e f apart lt below =
    let left : plan.with_entry (plan.with_entry xs i e) j f ≡ slice_set (slice_set xs i e) j f =
    in_place (plan.with_entry xs i e) j f (omega (arith, length_inside xs i e lt)) ∙ ap (λ (ys : List Entry). slice_set ys j f) (in_place xs i e lt) in
    let right : plan.with_entry (plan.with_entry xs j f) i e ≡ slice_set (slice_set xs j f) i e =
    in_place (plan.with_entry xs j f) i e (omega (arith, length_inside xs j f below)) ∙ ap (λ (ys : List Entry). slice_set ys i e) (in_place xs j f below) in
    left ∙ set_apart xs i j e f apart ∙ sym right

-- ---- the entries of all nodes that are written

abbrev pub all_entries : List Written → List Entry → List Entry
all_entries [] xs = xs
all_entries (w ∷ written) xs = all_entries written (with_number w.address (Some w.number) xs)

-- what is placed changes the entries alone
pub placed_alone : (written : List Written) (t : Table) → all_placed written t ≡ with_nodes t.files t.directories t.next_unique (all_entries written t.entries) t
placed_alone [] t = refl
placed_alone (w ∷ written) t = placed_alone written (placed w.address w.number t)

-- each address is below a table's end
abbrev pub AreWithin : ℕ → List ℕ → Type 0
AreWithin size [] = Unit {0}
AreWithin size (address ∷ addresses) = (address < size) × AreWithin size addresses

-- and another address is none of them
abbrev pub IsNone : ℕ → List ℕ → Type 0
IsNone other [] = Unit {0}
IsNone other (address ∷ addresses) = (other ≡ address → ⊥) × IsNone other addresses

abbrev addresses_of : List Written → List ℕ
addresses_of written = map (λ w. w.address) written

within_longer : (size more : ℕ) (addresses : List ℕ) → size ≤ more → AreWithin size addresses → AreWithin more addresses
within_longer size more [] le all = tt
within_longer size more (address ∷ addresses) le all = (omega (arith, all.0), within_longer size more addresses le all.1)

pub all_written : (written : List Written) (xs : List Entry) → AreWithin (length xs) (addresses_of written) → all_entries written xs ≡ with_written xs written
all_written [] xs all = refl
all_written (w ∷ written) xs all =
    let one : with_number w.address (Some w.number) xs ≡ plan.with_entry xs w.address (Some w.number) = same_entry xs w.address (Some w.number) (omega (arith, all.0)) in
    let long : length (plan.with_entry xs w.address (Some w.number)) ≡ length xs = length_inside xs w.address (Some w.number) all.0 in
    ap (λ (ys : List Entry). all_entries written ys) one
    ∙ all_written written (plan.with_entry xs w.address (Some w.number)) (subst (λ (n : ℕ). AreWithin n (addresses_of written)) (sym long) all.1)

-- an entry apart from those that are written may come before them
written_apart : (written : List Written) (xs : List Entry) (i : ℕ) (e : Entry) → i < length xs → AreWithin (length xs) (addresses_of written) → IsNone i (addresses_of written)
    → plan.with_entry (with_written xs written) i e ≡ with_written (plan.with_entry xs i e) written
written_apart [] xs i e lt all none = refl
written_apart (w ∷ written) xs i e lt all none =
    let ys : List Entry = plan.with_entry xs w.address (Some w.number) in
    let long : length (plan.with_entry xs w.address (Some w.number)) ≡ length xs = length_inside xs w.address (Some w.number) all.0 in
    written_apart written (plan.with_entry xs w.address (Some w.number)) i e (omega arith) (subst (λ (n : ℕ). AreWithin n (addresses_of written)) (sym long) all.1) none.1
    ∙ ap (λ (zs : List Entry). with_written zs written) (sym (entries_apart xs i w.address e (Some w.number) none.0 lt all.0))

length_written : (written : List Written) (xs : List Entry) → AreWithin (length xs) (addresses_of written) → length (with_written xs written) ≡ length xs
length_written [] xs all = refl
length_written (w ∷ written) xs all =
    let long : length (plan.with_entry xs w.address (Some w.number)) ≡ length xs = length_inside xs w.address (Some w.number) all.0 in
    length_written written (plan.with_entry xs w.address (Some w.number)) (subst (λ (n : ℕ). AreWithin n (addresses_of written)) (sym long) all.1) ∙ long

module _ (written : List Written) (addresses : List ℕ) (is : map (λ w. w.address) written ≡ addresses) (xs : List Entry) where
  -- no node is made and none goes
  pub entries_written : AreWithin (length xs) addresses → all_entries written xs ≡ entries_after xs written []
  entries_written all = all_written written xs (subst (λ (ns : List ℕ). AreWithin (length xs) ns) (sym is) all)

  -- a node goes
  pub entries_unused : (i : ℕ) → i < length xs → AreWithin (length xs) addresses → IsNone i addresses → with_number i None (all_entries written xs) ≡ entries_after xs written (i ∷ [])
  entries_unused i lt all none =
      let within = subst (λ (ns : List ℕ). AreWithin (length xs) ns) (sym is) all in
      let apart = subst (λ (ns : List ℕ). IsNone i ns) (sym is) none in
      ap (λ (ys : List Entry). with_number i None ys) (all_written written xs within)
      ∙ same_entry (with_written xs written) i None (omega (arith, length_written written xs within)) ∙ written_apart written xs i None lt within apart

-- a node is made, and is the first that is written
pub entries_made : (written : List Written) (free : ℕ) (addresses : List ℕ) → map (λ w. w.address) written ≡ free ∷ addresses → (xs : List Entry) → free ≤ length xs → AreWithin (length xs) addresses
    → all_entries written (with_number free (Some 0) xs) ≡ entries_after xs written []
entries_made [] free addresses is xs le all = absurd (cc)
entries_made (w ∷ written) free addresses is xs le all =
    let head : w.address ≡ free = cc in
    let tail : map (λ v. v.address) written ≡ addresses = cc in
    let ys : List Entry = plan.with_entry xs w.address (Some w.number) in
    let low : w.address ≤ length xs = omega (arith, head, le) in
    let made : with_number free (Some 0) xs ≡ plan.with_entry xs w.address (Some 0) = ap (λ (n : ℕ). with_number n (Some 0) xs) (sym head) ∙ same_entry xs w.address (Some 0) low in
    let grown : (length xs ≤ length (plan.with_entry xs w.address (Some 0))) × (w.address < length (plan.with_entry xs w.address (Some 0))) = grown_by xs w.address (Some 0) low in
    let again : with_number w.address (Some w.number) (plan.with_entry xs w.address (Some 0)) ≡ plan.with_entry xs w.address (Some w.number) =
    same_entry (plan.with_entry xs w.address (Some 0)) w.address (Some w.number) (omega (arith, grown.1)) ∙ entry_again xs w.address (Some 0) (Some w.number) low in
    let longer : length xs ≤ length (plan.with_entry xs w.address (Some w.number)) = (grown_by xs w.address (Some w.number) low).0 in
    ap (λ (zs : List Entry). all_entries written (with_number w.address (Some w.number) zs)) made
    ∙ ap (λ (zs : List Entry). all_entries written zs) again
    ∙ all_written written (plan.with_entry xs w.address (Some w.number))
    (subst (λ (ns : List ℕ). AreWithin (length (plan.with_entry xs w.address (Some w.number))) ns) (sym tail) (within_longer (length xs) (length (plan.with_entry xs w.address (Some w.number))) addresses longer all))
  where
    grown_by : (vs : List Entry) (i : ℕ) (e : Entry) → i ≤ length vs → (length vs ≤ length (plan.with_entry vs i e)) × (i < length (plan.with_entry vs i e))
    grown_by vs i e low = go (below_or_at i (length vs) low)
      where
        go : (i < length vs) ⊎ (i ≡ length vs) → (length vs ≤ length (plan.with_entry vs i e)) × (i < length (plan.with_entry vs i e))
        go (inl lt) = (omega (arith, length_inside vs i e lt), omega (arith, length_inside vs i e lt))
        go (inr same) =
            let long : length (plan.with_entry vs i e) ≡ length vs + 1 = length_at_end vs i e same in
            (omega arith, omega arith)
