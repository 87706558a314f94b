-- A table with a node made, moved or removed has a spelling.
use Rattle.std.proofs.Common.{◌≡◌, ℕ, ◌+◌, ◌-◌, ◌^◌, ◌<◌, ◌≤◌, ◌==◌, Bool, true, false, List, length, refl, sym, ap, subst, ◌∙◌, arith}
use Rattle.std.specs.Prelude.{Option, Some, None, IfSome, IsTrue, is_some, slice_get, All, count_by, if◌then◌else◌}
use Rattle.std.proofs.lemmas.Bool.{eqb-true, eqb-false, false≢true}
use Rattle.std.proofs.lemmas.Option.{slice_get_within}
use Rattle.limits.specs.declared.TheConstants.{ADDRESSES, PARTITION_START}
use Rattle.vat.specs.Entry.{unused}
use Rattle.vat.specs.Table.{Table, FitsTable}
use Rattle.recover.specs.Below.{AreBelow, IsUsed}
use Rattle.table_update.specs.TableChange.{with_number, with_nodes, IsFree}
use Rattle.table_update.proofs.EntryChanges.{length-with_entry, All-with_entry, entry_there, entry_other, count_added, count_placed, count_removed, free_within}

-- entries of a table, so many of which are used
record AreEntries (used : ℕ) (xs : List (Option ℕ)) : Type 0 where
  few : 2 ≤ length xs
  many : length xs ≤ ADDRESSES
  numbers : All (λ e. IfSome e (λ n. n < unused)) xs
  file_set : IsUsed 0 xs
  root : IsUsed 1 xs
  count : count_by is_some xs ≡ used

entries_of : (t : Table) → FitsTable t → AreEntries (1 + (t.files + t.directories)) t.entries
entries_of t fits = record { few = fits.few; many = fits.many; numbers = fits.numbers; file_set = fits.file_set; root = fits.root; count = fits.used }

fits_with : (t : Table) (files directories next : ℕ) (xs : List (Option ℕ)) → FitsTable t → 16 ≤ next → next < 2 ^ 32 → AreEntries (1 + (files + directories)) xs → FitsTable (with_nodes files directories next xs t)
fits_with t files directories next xs fits least most are = record {
  label = fits.label;
  first = fits.first;
  previous = fits.previous;
  commits = fits.commits;
  next_unique = least;
  next_unique_fits = most;
  clients = fits.clients;
  records = fits.records;
  distinct = fits.distinct;
  few = are.few;
  many = are.many;
  numbers = are.numbers;
  file_set = are.file_set;
  root = are.root;
  used = are.count;
}

pub still_used : (xs : List (Option ℕ)) (i k number : ℕ) → i ≤ length xs → IsUsed k xs → IsUsed k (with_number i (Some number) xs)
still_used xs i k number le is = go (k == i) refl
  where
    go : (b : Bool) → (k == i) ≡ b → IsUsed k (with_number i (Some number) xs)
    go true e = (number, ap (slice_get (with_number i (Some number) xs)) (eqb-true k i e) ∙ entry_there xs i (Some number) le)
    go false e = (is.0, entry_other xs i k (Some number) le (eqb-false k i e) ∙ is.1)

one_more : (used more : ℕ) (xs : List (Option ℕ)) (i number : ℕ) → AreEntries used xs → more ≡ used + 1 → number < unused → IsFree i xs → AreEntries more (with_number i (Some number) xs)
one_more used more xs i number are next small free =
    let within = free_within xs i free are.many in
    let long = length-with_entry xs i (Some number) within.0 in
    record {
      few = omega (arith, are.few);
      many = omega (arith, within.1);
      numbers = All-with_entry (λ e. IfSome e (λ n. n < unused)) xs i (Some number) small are.numbers;
      file_set = still_used xs i 0 number within.0 are.file_set;
      root = still_used xs i 1 number within.0 are.root;
      count = omega (arith, count_added xs i number free, are.count);
    }

as_many : (used : ℕ) (xs : List (Option ℕ)) (i number : ℕ) → AreEntries used xs → number < unused → IsUsed i xs → AreEntries used (with_number i (Some number) xs)
as_many used xs i number are small is =
    let lt = slice_get_within xs i (Some is.0) is.1 in
    let le : i ≤ length xs = omega arith in
    let long = length-with_entry xs i (Some number) le in
    record {
      few = omega (arith, are.few);
      many = omega (arith, are.many);
      numbers = All-with_entry (λ e. IfSome e (λ n. n < unused)) xs i (Some number) small are.numbers;
      file_set = still_used xs i 0 number le are.file_set;
      root = still_used xs i 1 number le are.root;
      count = count_placed xs i number is.0 is.1 ∙ are.count;
    }

one_less : (used less : ℕ) (xs : List (Option ℕ)) (i : ℕ) → AreEntries used xs → used ≡ less + 1 → 2 ≤ i → IsUsed i xs → AreEntries less (with_number i None xs)
one_less used less xs i are next afterwards is =
    let lt = slice_get_within xs i (Some is.0) is.1 in
    let le : i ≤ length xs = omega arith in
    let long = length-with_entry xs i None le in
    record {
      few = omega (arith, are.few);
      many = omega (arith, are.many);
      numbers = All-with_entry (λ e. IfSome e (λ n. n < unused)) xs i None tt are.numbers;
      file_set = (are.file_set.0, entry_other xs i 0 None le (λ same. omega arith) ∙ are.file_set.1);
      root = (are.root.0, entry_other xs i 1 None le (λ same. omega arith) ∙ are.root.1);
      count = omega (arith, count_removed xs i is.0 is.1, are.count);
    }

-- ---- the tables

module _ (t : Table) (fits : FitsTable t) (i : ℕ) (ys : List (Option ℕ)) where
  module _ (number : ℕ) (small : number < unused) where
    pub fits_added_file : t.next_unique + 1 < 2 ^ 32 → IsFree i t.entries → ys ≡ with_number i (Some number) t.entries → FitsTable (with_nodes (t.files + 1) t.directories (t.next_unique + 1) ys t)
    fits_added_file most free is =
        fits_with t (t.files + 1) t.directories (t.next_unique + 1) ys fits (omega (arith, fits.next_unique)) most
        (subst (AreEntries (1 + (t.files + 1 + t.directories))) (sym is) (one_more (1 + (t.files + t.directories)) (1 + (t.files + 1 + t.directories)) t.entries i number (entries_of t fits) (omega arith) small free))

    pub fits_added_directory : t.next_unique + 1 < 2 ^ 32 → IsFree i t.entries → ys ≡ with_number i (Some number) t.entries → FitsTable (with_nodes t.files (t.directories + 1) (t.next_unique + 1) ys t)
    fits_added_directory most free is =
        fits_with t t.files (t.directories + 1) (t.next_unique + 1) ys fits (omega (arith, fits.next_unique)) most
        (subst (AreEntries (1 + (t.files + (t.directories + 1)))) (sym is) (one_more (1 + (t.files + t.directories)) (1 + (t.files + (t.directories + 1))) t.entries i number (entries_of t fits) (omega arith) small free))

    pub fits_placed : (b : Bool) → (IsTrue b → IsUsed i t.entries) → ys ≡ (if b then with_number i (Some number) t.entries else t.entries) → FitsTable (with_nodes t.files t.directories t.next_unique ys t)
    fits_placed b used is = fits_with t t.files t.directories t.next_unique ys fits fits.next_unique fits.next_unique_fits (go b used is)
      where
        go : (b : Bool) → (IsTrue b → IsUsed i t.entries) → ys ≡ (if b then with_number i (Some number) t.entries else t.entries) → AreEntries (1 + (t.files + t.directories)) ys
        go true u e = subst (AreEntries (1 + (t.files + t.directories))) (sym e) (as_many (1 + (t.files + t.directories)) t.entries i number (entries_of t fits) small (u refl))
        go false u e = subst (AreEntries (1 + (t.files + t.directories))) (sym e) (entries_of t fits)

  pub fits_removed_file : 2 ≤ i → 0 < t.files → IsUsed i t.entries → ys ≡ with_number i None t.entries → FitsTable (with_nodes (t.files - 1) t.directories t.next_unique ys t)
  fits_removed_file afterwards some used is =
      fits_with t (t.files - 1) t.directories t.next_unique ys fits fits.next_unique fits.next_unique_fits
      (subst (AreEntries (1 + (t.files - 1 + t.directories))) (sym is) (one_less (1 + (t.files + t.directories)) (1 + (t.files - 1 + t.directories)) t.entries i (entries_of t fits) (omega arith) afterwards used))

  pub fits_removed_directory : 2 ≤ i → 1 < t.directories → IsUsed i t.entries → ys ≡ with_number i None t.entries → FitsTable (with_nodes t.files (t.directories - 1) t.next_unique ys t)
  fits_removed_directory afterwards some used is =
      fits_with t t.files (t.directories - 1) t.next_unique ys fits fits.next_unique fits.next_unique_fits
      (subst (AreEntries (1 + (t.files + (t.directories - 1)))) (sym is) (one_less (1 + (t.files + t.directories)) (1 + (t.files + (t.directories - 1))) t.entries i (entries_of t fits) (omega arith) afterwards used))

-- what a test that was passed leaves
pub when_true : (b : Bool) (xs ys zs : List (Option ℕ)) → b ≡ true → zs ≡ (if b then xs else ys) → zs ≡ xs
when_true true xs ys zs e is = is
when_true false xs ys zs e is = absurd (false≢true e)

pub below_with : (at i : ℕ) (e : Option ℕ) (xs ys : List (Option ℕ)) → ys ≡ with_number i e xs → IfSome e (λ n. n + PARTITION_START < at) → AreBelow at xs → AreBelow at ys
below_with at i e xs ys is one all = subst (AreBelow at) (sym is) (All-with_entry (λ x. IfSome x (λ n. n + PARTITION_START < at)) xs i e one all)

pub below_if : (b : Bool) (at i : ℕ) (e : Option ℕ) (xs ys : List (Option ℕ)) → ys ≡ (if b then with_number i e xs else xs) → IfSome e (λ n. n + PARTITION_START < at) → AreBelow at xs → AreBelow at ys
below_if true at i e xs ys is one all = below_with at i e xs ys is one all
below_if false at i e xs ys is one all = subst (AreBelow at) (sym is) all
