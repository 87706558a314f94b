-- What fails is counted, by the outcome of a command.
use Rattle.std.proofs.Common.{◌≡◌, ◌↔◌, ◌∙◌, ℕ, List, Option, Result, Ok, Err, refl, ap, sym, subst, arith}
use Rattle.std.specs.Prelude.{⊤, IsErrAnd}
use Rattle.drive.specs.Reads.{CountsFailures}
use Rattle.recover.specs.Faults.{device_failures}
use Rattle.recover.specs.declared.fault.StoreFault.{StoreFault}
use Rattle.programs.specs.declared.fault.Fault.{Fault}
use Rattle.programs.specs.declared.fault.Fault.TheVariants.{Usage, Path, Socket, Store, Stream}
use Rattle.programs.specs.Lines.{PutsBytes}
use Rattle.programs.specs.Status.{drive_failures}

-- a call of a drive after one that did not fail
pub counts_then : (n a b c : ℕ) → CountsFailures 0 a b → CountsFailures n b c → CountsFailures n a c
counts_then n a b c first second few = let late = second few in omega (arith, first, late, few)

-- nothing was called
pub counts_none : (a : ℕ) → CountsFailures 0 a a
counts_none a few = omega arith

-- a refusal that a program passes on
pub counts_refused : {T : Type 0} (outcome : Result T Fault) (fault : StoreFault) (a b : ℕ) → IsErrAnd outcome (λ f. f ≡ Store fault) → CountsFailures (device_failures fault) a b → CountsFailures (drive_failures outcome) a b
counts_refused (Ok x) fault a b is counts = absurd is
counts_refused {T} (Err f) fault a b is counts = subst (λ (g : Fault). CountsFailures (drive_failures {T = T} (Err g)) a b) (sym is) counts

-- an output that was written, or failed
pub counts_put : {T : Type 0} (outcome : Result T Fault) (o w : Option (List ℕ)) (bytes : List ℕ) (a b : ℕ) → PutsBytes outcome o w bytes → CountsFailures 0 a b → CountsFailures (drive_failures outcome) a b
counts_put (Ok x) o w bytes a b puts counts = counts
counts_put (Err Usage) o w bytes a b puts counts = counts
counts_put (Err Path) o w bytes a b puts counts = counts
counts_put (Err Socket) o w bytes a b puts counts = counts
counts_put (Err (Store fault)) o w bytes a b puts counts = absurd puts
counts_put (Err (Stream fault)) o w bytes a b puts counts = counts

-- ---- a refusal of the words of a format

abbrev error_or : {T E : Type 0} → E → Result T E → E
error_or other (Ok x) = other
error_or other (Err x) = x

same_error : {T E : Type 0} (x y : E) (r s : Result T E) → r ≡ Err x → s ≡ Err y → r ≡ s → x ≡ y
same_error x y r s p q e = ap (error_or x) (sym p ∙ e ∙ q)

abbrev cause_or : StoreFault → Fault → StoreFault
cause_or other Usage = other
cause_or other Path = other
cause_or other Socket = other
cause_or other (Store x) = x
cause_or other (Stream x) = other

same_cause : (x y : StoreFault) (f : Fault) → f ≡ Store x → f ≡ Store y → x ≡ y
same_cause x y f p q = ap (cause_or x) (sym p ∙ q)

-- it is passed on
pub refused_words : {T U : Type 0} (outcome : Result T Fault) (made : Result U StoreFault) (fault cause : StoreFault) (P : Type 0) → IsErrAnd outcome (λ f. f ≡ Store fault) → made ≡ Err fault → ((made ≡ Err cause) ↔ P) → (outcome ≡ Err (Store cause)) ↔ P
refused_words (Ok x) made fault cause P is told exact = absurd is
refused_words {T} {U} (Err f) made fault cause P is told exact = (
  λ e. exact.0 (told ∙ ap (λ (x : StoreFault). Err x) (same_cause fault cause f is (same_error {T = T} f (Store cause) (Err f) (Err (Store cause)) refl refl e))),
  λ p. ap (λ (g : Fault). Err g) (is ∙ ap (λ (x : StoreFault). Store x) (same_error {T = U} fault cause made made told (exact.1 p) refl)),
)

-- there is none where the format was made, and then something written
pub made_words : {T U : Type 0} (outcome : Result T Fault) (made : Result U StoreFault) (x : U) (cause : StoreFault) (P : Type 0) (o w : Option (List ℕ)) (bytes : List ℕ) → PutsBytes outcome o w bytes → made ≡ Ok x → ((made ≡ Err cause) ↔ P) → (outcome ≡ Err (Store cause)) ↔ P
made_words {T} {U} outcome made x cause P o w bytes puts told exact = (
  λ e. absurd (subst (λ (r : Result T Fault). PutsBytes r o w bytes) e puts),
  λ p. absurd (subst IsMade (sym told ∙ exact.1 p) tt),
)
  where
    IsMade : Result U StoreFault → Type 0
    IsMade (Ok y) = ⊤
    IsMade (Err y) = ⊥
