-- Which words of a new volume are refused.
use Rattle.std.proofs.Common.{◌≡◌, ◌↔◌, ◌∙◌, ◌⊎◌, ◌<◌, ◌≤◌, ℕ, List, Option, Some, None, Result, Ok, Err, refl, ap, sym, subst, inl, inr}
use Rattle.std.proofs.lemmas.Bool.{cases_lt}
use Rattle.std.specs.Prelude.{⊤, IsNone, IsSome}
use Rattle.limits.specs.declared.TheConstants.{LEAST_CAPACITY}
use Rattle.osta.specs.FirstFault.{first_text_fault}
use Rattle.osta.specs.Label.{label_faults}
use Rattle.recover.specs.declared.fault.StoreFault.{StoreFault}
use Rattle.recover.specs.declared.fault.StoreFault.TheVariants as stores
use Rattle.embedding.specs.declared.fault.Fault.{Fault}
use Rattle.embedding.specs.declared.fault.Fault.TheVariants.{Memory, Device, TooLong, Text, Volume, Nothing}
use Rattle.embedding.specs.Numbers.{fault_of_store}
use Rattle.embedding.specs.Formats.{AreWordsRefused}

-- the label's refusal alone is told as text
abbrev IsText : Fault → Type 0
IsText Memory = ⊥
IsText Device = ⊥
IsText TooLong = ⊥
IsText Text = ⊤
IsText Volume = ⊥
IsText Nothing = ⊥

text_is : (cause : StoreFault) → IsText (fault_of_store cause) → cause ≡ stores.Label
text_is stores.NotBlank t = absurd t
text_is stores.Label t = refl
text_is stores.Small t = absurd t
text_is stores.Device t = absurd t
text_is stores.Memory t = absurd t
text_is stores.NotFormatted t = absurd t
text_is (stores.Damaged block cause) t = absurd t
text_is stores.Full t = absurd t
text_is stores.Stopped t = absurd t
text_is stores.NoCommit t = absurd t
text_is stores.NotFound t = absurd t
text_is stores.IsDirectory t = absurd t
text_is stores.NotDirectory t = absurd t
text_is stores.TooLong t = absurd t

abbrev error_or : {T E : Type 0} → E → Result T E → E
error_or other (Ok x) = other
error_or other (Err x) = x

abbrev IsDone : {T E : Type 0} → Result T E → Type 0
IsDone (Ok x) = ⊤
IsDone (Err x) = ⊥

-- a format that was refused
pub words_refused : {T : Type 0} (label : List ℕ) (capacity : ℕ) (made : Result T StoreFault) (cause : StoreFault) → made ≡ Err cause
    → ((made ≡ Err stores.Label) ↔ IsSome (first_text_fault (label_faults label))) → ((made ≡ Err stores.Small) ↔ (IsNone (first_text_fault (label_faults label)) × (capacity < LEAST_CAPACITY)))
    → AreWordsRefused {T = T} label capacity (Err (fault_of_store cause))
words_refused {T} label capacity made cause told text small = record {
  text = (
    λ e. text.0 (told ∙ ap (λ (c : StoreFault). Err c) (text_is cause (subst IsText (sym (ap (λ (r : Result T Fault). error_or Text r) e)) tt))),
    λ some. ap (λ (f : Fault). Err f) (is stores.Label (text.1 some)),
  );
  size = λ none less. ap (λ (f : Fault). Err f) (is stores.Small (small.1 (none, less)));
}
  where
    is : (other : StoreFault) → made ≡ Err other → fault_of_store cause ≡ fault_of_store other
    is other said = ap (λ (r : Result T StoreFault). fault_of_store (error_or cause r)) (sym told ∙ said)

-- one that was made
pub words_made : {T : Type 0} (label : List ℕ) (capacity : ℕ) (made : Result T StoreFault) (x : T) → made ≡ Ok x
    → ((made ≡ Err stores.Label) ↔ IsSome (first_text_fault (label_faults label))) → ((made ≡ Err stores.Small) ↔ (IsNone (first_text_fault (label_faults label)) × (capacity < LEAST_CAPACITY)))
    → AreWordsRefused {T = T} label capacity (Ok x)
words_made {T} label capacity made x told text small = record {
  text = (
    λ e. absurd (subst (λ (r : Result T Fault). IsDone r) e tt),
    λ some. absurd (subst (λ (r : Result T StoreFault). IsDone r) (sym told ∙ text.1 some) tt),
  );
  size = λ none less. absurd (subst (λ (r : Result T StoreFault). IsDone r) (sym told ∙ small.1 (none, less)) tt);
}

none_is : {A : Type 0} (o : Option A) → (IsSome o → ⊥) → IsNone o
none_is (Some x) never = absurd (never refl)
none_is None none = refl

-- the label of a volume that was made is right
pub text_right : {T : Type 0} (label : List ℕ) (capacity : ℕ) (x : T) → AreWordsRefused label capacity (Ok x) → IsNone (first_text_fault (label_faults label))
text_right {T} label capacity x words = none_is (first_text_fault (label_faults label)) (λ some. subst (λ (r : Result T Fault). IsDone r) (words.text.1 some) tt)

-- and it is large enough
pub size_right : {T : Type 0} (label : List ℕ) (capacity : ℕ) (x : T) → AreWordsRefused label capacity (Ok x) → LEAST_CAPACITY ≤ capacity
size_right {T} label capacity x words = enough (cases_lt capacity LEAST_CAPACITY)
  where
    enough : (capacity < LEAST_CAPACITY) ⊎ (LEAST_CAPACITY ≤ capacity) → LEAST_CAPACITY ≤ capacity
    enough (inl less) = absurd (subst (λ (r : Result T Fault). IsDone r) (words.size (text_right label capacity x words) less) tt)
    enough (inr most) = most
