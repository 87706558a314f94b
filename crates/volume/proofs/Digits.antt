-- Hexadecimal digits are ASCII, and how long the text of the volume set is.
use Rattle.std.proofs.Common.{◌≡◌, ℕ, ◌+◌, ◌/◌, ◌%◌, ◌^◌, ◌<◌, ◌≤◌, Bool, true, false, cond, ltb, List, [], ◌∷◌, ◌++◌, length, take, drop, get_or, refl, sym, ap, ◌∙◌, inl, inr, arith}
use Rattle.std.specs.Prelude.{⊤, IsAscii}
use Rattle.std.specs.List.{flat_map}
use Rattle.std.proofs.lemmas.Bool.{cases_eq}
use Rattle.std.proofs.lemmas.List.{length-append}
use Rattle.std.proofs.lemmas.Str.Ascii.{IsAscii-cons, IsAscii-nil}
use Rattle.osta.specs.Compressed.{compressed, two_bytes}
use Rattle.osta.specs.Dstring.{dstring, dstring_spelling}
use Rattle.osta.specs.Label.{IsLabel, dstring_text}
use Rattle.osta.proofs.Fields.{length-field_of}
use Rattle.osta.proofs.Names.{field_narrow, field_rest, field_wide, label_field, label_few, label_text}
use Rattle.osta.proofs.Spellings.{length-two_bytes}
use Rattle.volume.specs.Descriptors.{digit, digits}

-- each of the bytes is below 128
abbrev pub AreLow : List ℕ → Type 0
AreLow [] = ⊤
AreLow (c ∷ cs) = (c < 128) × AreLow cs

pub ascii_from : (cs : List ℕ) → AreLow cs → IsAscii cs
ascii_from [] low = IsAscii-nil
ascii_from (c ∷ cs) low = IsAscii-cons c cs low.0 (ascii_from cs low.1)

digit_low : (b : Bool) (m : ℕ) → m < 16 → cond b (48 + m) (87 + m) < 128
digit_low true m low = omega arith
digit_low false m low = omega arith

pub digit_ascii : (m : ℕ) → m < 16 → digit m < 128
digit_ascii m low = digit_low (ltb m 10) m low

pub digits_ascii : (n : ℕ) → IsAscii (digits n)
digits_ascii n = ascii_from (digits n) (digit_ascii (n / 16 ^ 15 % 16) (omega arith), (digit_ascii (n / 16 ^ 14 % 16) (omega arith), (digit_ascii (n / 16 ^ 13 % 16) (omega arith), (digit_ascii (n / 16 ^ 12 % 16) (omega arith), (digit_ascii (n / 16 ^ 11 % 16) (omega arith), (digit_ascii (n / 16 ^ 10 % 16) (omega arith), (digit_ascii (n / 16 ^ 9 % 16) (omega arith), (digit_ascii (n / 16 ^ 8 % 16) (omega arith), (digit_ascii (n / 16 ^ 7 % 16) (omega arith), (digit_ascii (n / 16 ^ 6 % 16) (omega arith), (digit_ascii (n / 16 ^ 5 % 16) (omega arith), (digit_ascii (n / 16 ^ 4 % 16) (omega arith), (digit_ascii (n / 16 ^ 3 % 16) (omega arith), (digit_ascii (n / 16 ^ 2 % 16) (omega arith), (digit_ascii (n / 16 % 16) (omega arith), (digit_ascii (n % 16) (omega arith), tt))))))))))))))))

-- a label's dstring of 32 bytes, and one of 128 bytes after 16 characters
pub length-label : (n : ℕ) (text : List ℕ) → IsLabel text → 32 ≤ n → length (dstring n text) ≡ n
length-label n text label room = length-field_of n (compressed text) (omega (arith, label_few text label))

few_later : (front label : List ℕ) → IsLabel label → length front ≡ 16 → IsAscii front → length (compressed (front ++ label)) < 128
few_later front label is sixteen ascii =
    let field = dstring 32 label in
    let kept = label_field label is in
    let text : compressed (front ++ dstring_text field) ≡ compressed (front ++ label) = ap (λ (x : List ℕ). compressed (front ++ x)) (label_text label is) in
    let rest = drop 1 (dstring_spelling field) in
    elim (cases_eq (get_or (take 1 (dstring_spelling field)) 0 0) 8) [
      | inl narrow ↦
          let e : compressed (front ++ label) ≡ 8 ∷ (front ++ rest) = sym text ∙ field_narrow field front kept (omega arith) ascii narrow in
          omega (arith, ap length e, length-append front rest, field_rest field kept)
      | inr wide ↦
          let e : compressed (front ++ label) ≡ 16 ∷ (flat_map two_bytes front ++ rest) = sym text ∙ field_wide field front kept (omega arith) ascii wide in
          omega (arith, ap length e, length-append (flat_map two_bytes front) rest, length-two_bytes front, field_rest field kept)
    ]

pub length-set : (n : ℕ) (label : List ℕ) → IsLabel label → length (dstring 128 (digits n ++ label)) ≡ 128
length-set n label is = length-field_of 128 (compressed (digits n ++ label)) (few_later (digits n) label is refl (digits_ascii n))
