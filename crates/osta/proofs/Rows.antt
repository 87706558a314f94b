-- Faults in their order.
use Rattle.std.proofs.Common.{◌≡◌, Bool, true, false, cond, List, [], ◌∷◌, Option, Some, None, Result, Ok, Err, refl}
use Rattle.std.specs.Result.{result_err, is_err}
use Rattle.osta.specs.FirstFault.{first_text_fault}
use Rattle.osta.specs.Fault.{text_fault, bytes_fault}
use Rattle.osta.specs.declared.fault.NameFault.{NameFault}
use Rattle.osta.specs.declared.fault.NameFault.TheVariants as name
use Rattle.osta.specs.declared.fault.OstaFault.{OstaFault}
use Rattle.osta.specs.declared.fault.OstaFault.TheVariants as osta

-- what must hold, of each fault
abbrev pub AllHold : {F : Type 0} → List (F × Bool) → Type 0
AllHold [] = Unit {0}
AllHold (row ∷ rows) = (row.1 ≡ true) × AllHold rows

row_holds : {F : Type 0} (fault : F) (b : Bool) (rest : Option F) → cond b rest (Some fault) ≡ None → (b ≡ true) × (rest ≡ None)
row_holds fault true rest none = (refl, none)
row_holds fault false rest none = cc

none_there : {F : Type 0} (fault : F) (b : Bool) (rest : Option F) → b ≡ true → rest ≡ None → cond b rest (Some fault) ≡ None
none_there fault true rest holds none = none
none_there fault false rest holds none = cc

pub all_hold : {F : Type 0} (rows : List (F × Bool)) → first_text_fault rows ≡ None → AllHold rows
all_hold [] none = tt
all_hold (row ∷ rows) none =
    let told = row_holds row.0 row.1 (first_text_fault rows) none in
    (told.0, all_hold rows told.1)

pub faultless : {F : Type 0} (rows : List (F × Bool)) → AllHold rows → first_text_fault rows ≡ None
faultless [] hold = refl
faultless (row ∷ rows) hold = none_there row.0 row.1 (first_text_fault rows) hold.0 (faultless rows hold.1)

pub some_none : {F : Type 0} (fault : F) → Some fault ≡ None → ⊥
some_none fault e = cc

-- a refusal reports a fault
pub refused : {T E : Type 0} (r : Result T E) → is_err r ≡ true → result_err r ≡ None → ⊥
refused (Ok x) told none = cc
refused (Err e) told none = cc

pub accepted : {T E : Type 0} (r : Result T E) → is_err r ≡ false → result_err r ≡ None
accepted (Ok x) told = refl
accepted (Err e) told = cc

-- an answer that reports no fault of the text or of the bytes reports lack of memory
pub memory_of_text : (fault : NameFault) → text_fault fault ≡ None → fault ≡ name.Memory
memory_of_text name.Memory e = refl
memory_of_text name.Empty e = cc
memory_of_text name.Dot e = cc
memory_of_text name.Slash e = cc
memory_of_text name.Nul e = cc
memory_of_text name.Wide e = cc
memory_of_text name.Long e = cc

pub memory_of_bytes : (fault : OstaFault) → bytes_fault fault ≡ None → fault ≡ osta.Memory
memory_of_bytes osta.Memory e = refl
memory_of_bytes osta.CompId e = cc
memory_of_bytes osta.Odd e = cc
memory_of_bytes osta.NotShortest e = cc
memory_of_bytes osta.Surrogate e = cc
memory_of_bytes osta.Count e = cc
memory_of_bytes osta.Tail e = cc
