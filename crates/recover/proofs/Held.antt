-- What lies at an address of the medium that a journal leaves.
use Rattle.std.proofs.Common.{◌≡◌, ℕ, zero, suc, ◌<◌, List, [], length, Option, Some, refl, ap, ◌∙◌, arith}
use Rattle.std.specs.Prelude.{slice_get, unwrap_or, take}
use Rattle.drive.specs.Journal.{Event, held, last_at, next_of, table}
use Rattle.model.proofs.Lists.{get-take}

length-table : (n : ℕ) (f : ℕ → List ℕ) → length (table n f) ≡ n
length-table zero f = refl
length-table (suc n) f = ap suc (length-table n (λ i. f (suc i)))

get-table : (n i : ℕ) (f : ℕ → List ℕ) → i < n → slice_get (table n f) i ≡ Some (f i)
get-table zero i f lt = absurd (omega arith)
get-table (suc n) zero f lt = refl
get-table (suc n) (suc i) f lt = get-table n i (λ j. f (suc j)) (omega arith)

pub length-held : (J : List Event) → length (held J) ≡ next_of J
length-held J = length-table (next_of J) (λ at. unwrap_or (last_at J at) [])

-- what was written last
pub held_at : (J : List Event) (at : ℕ) (block : List ℕ) → at < next_of J → last_at J at ≡ Some block → slice_get (held J) at ≡ Some block
held_at J at block lt e =
    get-table (next_of J) at (λ a. unwrap_or (last_at J a) []) lt ∙ ap (λ (o : Option (List ℕ)). Some (unwrap_or o [])) e

-- what lies below an address
pub lies_there : (M : List (List ℕ)) (n at : ℕ) (block : List ℕ) → at < n → slice_get M at ≡ Some block → slice_get (take n M) at ≡ Some block
lies_there M n at block below there = get-take n M at below ∙ there

-- and so below an address after it
pub held_below : (J : List Event) (n at : ℕ) (block : List ℕ) → at < n → at < next_of J → last_at J at ≡ Some block → slice_get (take n (held J)) at ≡ Some block
held_below J n at block below lt e = lies_there (held J) n at block below (held_at J at block lt e)
