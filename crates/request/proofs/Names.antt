-- When bytes pass as a name.
use Rattle.std.proofs.Common.{◌≡◌, ℕ, ◌*◌, ◌<◌, ◌≤◌, length-append, ◌&&◌, ◌||◌, lit<, [], ◌∷◌, get_or, Bool, true, false, eqb, length, List, Option, Some, None, Ok, Err, refl, sym, ap, subst, ◌∙◌, arith}
use Rattle.std.specs.Prelude.{is_none}
use Rattle.std.specs.Str.{IsUtf8, is_utf8}
use Rattle.std.specs.Prelude.{All}
use Rattle.std.specs.List.{list_any, list_all}
use Rattle.std.specs.Str.{chars, NonePass, NoCharPasses}
use Rattle.std.proofs.lemmas.Bool.{not-true, ne_eqb}
use Rattle.std.proofs.lemmas.List.Elements.{All-from_get_or}
use Rattle.std.proofs.lemmas.Str.Pattern.{NoCharPasses-char}
use Rattle.std.proofs.lemmas.Str.{IsUtf8-from_is_utf8, is_utf8-from_IsUtf8, encodes-chars, length-encode, len_utf8_bounds}
use lib.Utf8.{encode, encodes}
use Rattle.osta.specs.declared.fault.NameFault.{NameFault}
use Rattle.osta.specs.Fault.{text_fault}
use Rattle.osta.specs.FirstFault.{first_text_fault}
use Rattle.osta.specs.Name.{name_faults, IsName}
use Rattle.osta.specs.Compressed.{is_narrow, compressed_unicode}
use Rattle.osta.proofs.Rows.{all_hold}
use Rattle.osta.proofs.Names.{name_few}
use Rattle.osta.proofs.Spellings.{length-spelling_narrow, length-spelling_wide}
use Rattle.request.specs.declared.message.Cause.TheVariants as cause
use Rattle.request.specs.Reading.{is_name, tested_name}

and_parts : (a b : Bool) → (a && b) ≡ true → (a ≡ true) × (b ≡ true)
and_parts true b e = (refl, e)
and_parts false b e = absurd cc

none_is : (o : Option NameFault) → is_none o ≡ true → o ≡ None
none_is None e = refl
none_is (Some fault) e = absurd cc

pub is_name-from_name : (bytes : List ℕ) → IsName bytes → is_name bytes ≡ true
unfolding is_name
is_name-from_name bytes h = rw (is_utf8-from_IsUtf8 bytes h.utf8, h.faultless) refl

pub IsName-from_is_name : (bytes : List ℕ) → is_name bytes ≡ true → IsName bytes
unfolding is_name
IsName-from_is_name bytes e =
    let parts = and_parts (is_utf8 bytes) (is_none (first_text_fault (name_faults bytes))) e in
    record { utf8 = IsUtf8-from_is_utf8 bytes parts.0; faultless = none_is (first_text_fault (name_faults bytes)) parts.1 }

no_name : (bytes : List ℕ) → is_name bytes ≡ false → tested_name bytes ≡ Err cause.Path
unfolding tested_name
no_name bytes e = rw e refl

pub passes : (bytes : List ℕ) → IsName bytes → tested_name bytes ≡ Ok bytes
unfolding tested_name
passes bytes h = rw (is_name-from_name bytes h) refl

pub passes_as : (bytes text name : List ℕ) → text ≡ bytes → name ≡ text → IsName text → tested_name bytes ≡ Ok name
passes_as bytes text name e f h = rw (f, e) (passes bytes (subst IsName e h))

-- bytes that are no UTF-8
pub no_text : (bytes : List ℕ) → (IsUtf8 bytes → ⊥) → tested_name bytes ≡ Err cause.Path
unfolding is_name
no_text bytes h =
    let failed : (b : Bool) → is_utf8 bytes ≡ b → is_name bytes ≡ false = λ b. elim b as (λ v. is_utf8 bytes ≡ v → is_name bytes ≡ false) [
      | true ↦ λ e. absurd (h (IsUtf8-from_is_utf8 bytes e))
      | false ↦ λ e. rw e refl
    ] in
    no_name bytes (failed (is_utf8 bytes) refl)

refused : (bytes : List ℕ) (fault : NameFault) → Some fault ≡ first_text_fault (name_faults bytes) → tested_name bytes ≡ Err cause.Path
unfolding is_name
refused bytes fault e =
    let failed : (b : Bool) → is_utf8 bytes ≡ b → is_name bytes ≡ false = λ b. elim b as (λ v. is_utf8 bytes ≡ v → is_name bytes ≡ false) [
      | true ↦ λ u. rw (u, ← e) refl
      | false ↦ λ u. rw u refl
    ] in
    no_name bytes (failed (is_utf8 bytes) refl)

-- what is reported of a name that is refused
pub refusal : (bytes text : List ℕ) (fault : NameFault) → text ≡ bytes → text_fault fault ≡ first_text_fault (name_faults text) → text_fault fault ≡ Some fault → tested_name bytes ≡ Err cause.Path
refusal bytes text fault e told some =
    refused bytes fault (sym some ∙ told ∙ ap (λ (t : List ℕ). first_text_fault (name_faults t)) e)

-- ---- how long a name is in UTF-8

length_of_encodes : (cs : List ℕ) → length (encodes cs) ≤ 4 * length cs
length_of_encodes [] = omega arith
length_of_encodes (c ∷ cs) =
    omega (arith, length_of_encodes cs, length-append (encode c) (encodes cs), length-encode c, (len_utf8_bounds c).1)

length_of_spelling : (cs : List ℕ) → length cs ≤ length (compressed_unicode cs)
length_of_spelling [] = omega arith
length_of_spelling (c ∷ cs) =
    let some : 0 < length (c ∷ cs) = omega arith in
    let chosen : (b : Bool) → list_all is_narrow (c ∷ cs) ≡ b → length (c ∷ cs) ≤ length (compressed_unicode (c ∷ cs)) = λ b. elim b as (λ v. list_all is_narrow (c ∷ cs) ≡ v → length (c ∷ cs) ≤ length (compressed_unicode (c ∷ cs))) [
      | true ↦ λ e. omega (arith, length-spelling_narrow (c ∷ cs) some e)
      | false ↦ λ e. omega (arith, length-spelling_wide (c ∷ cs) some e)
    ] in
    chosen (list_all is_narrow (c ∷ cs)) refl

pub short_name : (text : List ℕ) → IsName text → length text ≤ 1020
short_name text good =
    omega (arith, name_few text good, length_of_spelling (chars text), length_of_encodes (chars text), ap length (encodes-chars text good.utf8))

-- ---- a name has no slash

or_false : (a b : Bool) → (a || b) ≡ false → (a ≡ false) × (b ≡ false)
or_false true b e = absurd cc
or_false false b e = (refl, e)

none_pass : (p : ℕ → Bool) (cs : List ℕ) → list_any p cs ≡ false → NonePass p cs
none_pass p [] e = tt
none_pass p (c ∷ cs) e = let o = or_false (p c) (list_any p cs) e in (o.0, none_pass p cs o.1)

-- no byte of a name is a slash
pub no_slash : (text : List ℕ) → IsName text → All (λ b. eqb b 47 ≡ false) text
no_slash text good =
    let apart : NoCharPasses (λ d. eqb d 47) text = (chars text, encodes-chars text good.utf8, none_pass (λ d. eqb d 47) (chars text) (not-true _ (all_hold (name_faults text) good.faultless).1.1.0)) in
    All-from_get_or (λ b. eqb b 47 ≡ false) text 0 (λ i lt. ne_eqb (get_or text i 0) 47 (NoCharPasses-char 47 text i apart (lit< tt) lt))
