-- First faults of lists of rules.
use Rattle.std.proofs.Common.{◌≡◌, Bool, true, false, List, [], ◌∷◌, Option, Some, None, Result, Ok, Err, refl, sym, ◌∙◌, ◌↔◌, IsOk, cond, inl, inr}
use Rattle.std.specs.Result.{result_err}
use Rattle.ecma.specs.FirstFault.{IsFirst, AllHold}

-- ---- rules that are tests

-- a row that holds is passed, one that does not is reported, and a list with no fault has no such row
pub pass : {F : Type 0} (b : Bool) (f : F) (rest told : Option F) → b ≡ true → told ≡ rest → told ≡ cond b rest (Some f)
pass true f rest told e more = more
pass false f rest told e more = absurd cc

pub tell : {F : Type 0} (b : Bool) (f : F) (rest : Option F) → b ≡ false → Some f ≡ cond b rest (Some f)
tell true f rest e = absurd cc
tell false f rest e = refl

pub passed : {F : Type 0} (b : Bool) (f : F) (rest : Option F) → cond b rest (Some f) ≡ None → (b ≡ true) × (rest ≡ None)
passed true f rest e = (refl, e)
passed false f rest e = absurd cc

abbrev pub none : {F : Type 0} → Option F
none = None

-- an answer whose error is the first fault is Ok exactly where the faultless keep P
pub exactly : {T F : Type 0} (P : Type 0) (r : Result T F) (o : Option F) → result_err r ≡ o → (o ≡ none → P) → (P → none ≡ o) → IsOk r ↔ P
exactly P (Ok t) o e to from = (λ _. to (sym e), λ _. refl)
exactly P (Err f) o e to from = ((λ is. absurd cc), (λ s. absurd (let h = e ∙ sym (from s) in cc)))

-- ---- rules that are facts

-- rules that all hold have no first fault
pub no_fault : {F : Type 0} (rules : List (F × Type 0)) (f : F) → IsFirst rules f → AllHold rules → ⊥
no_fault [] f first hold = first
no_fault (row ∷ rows) f (inl broken) hold = broken.0 hold.0
no_fault (row ∷ rows) f (inr more) hold = no_fault rows f more.1 hold.1
