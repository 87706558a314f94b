-- What a virtual address that is used leads to.
use Rattle.std.proofs.Common.{◌≡◌, ℕ, ◌+◌, ◌-◌, ◌<◌, ◌≤◌, List, get_or, Option, Some, None, subst, arith}
use Rattle.std.specs.Prelude.{slice_get, IfSome, All}
use Rattle.std.proofs.lemmas.Option.{slice_get_within, get_or_from_slice_get}
use Rattle.std.proofs.lemmas.List.Elements.{All-get_or}
use Rattle.limits.specs.declared.TheConstants.{PARTITION_START}
use Rattle.recover.specs.Below.{AreBelow}

-- what holds of each element holds of the one at an index
pub All-slice_get : {X : Type 0} (P : X → Type 0) (xs : List X) (i : ℕ) (x : X) → All P xs → slice_get xs i ≡ Some x → P x
All-slice_get P xs i x all is = subst P (get_or_from_slice_get xs i x x is) (All-get_or P xs i x (slice_get_within xs i x is) all)

pub used_below : (at : ℕ) (entries : List (Option ℕ)) (address number : ℕ) → AreBelow at entries → slice_get entries address ≡ Some (Some number) → number + PARTITION_START < at
used_below at entries address number all is = All-slice_get (λ e. IfSome e (λ n. n + PARTITION_START < at)) entries address (Some number) all is

pub below_later : (at later : ℕ) (entries : List (Option ℕ)) → at ≤ later → AreBelow at entries → AreBelow later entries
below_later at later entries h all k d lt = by (get_or entries k d) (all k d lt)
  where
    by : (e : Option ℕ) → IfSome e (λ n. n + PARTITION_START < at) → IfSome e (λ n. n + PARTITION_START < later)
    by None below = tt
    by (Some n) below = omega arith

-- numbers below that of the VAT ICB are those of blocks below it
pub below_entry : (at : ℕ) (entries : List (Option ℕ)) → PARTITION_START ≤ at → All (λ e. IfSome e (λ n. n < at - PARTITION_START)) entries → AreBelow at entries
below_entry at entries low all k d lt = by (get_or entries k d) (all k d lt)
  where
    by : (e : Option ℕ) → IfSome e (λ n. n < at - PARTITION_START) → IfSome e (λ n. n + PARTITION_START < at)
    by None below = tt
    by (Some n) below = omega arith
