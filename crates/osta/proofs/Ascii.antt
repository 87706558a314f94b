-- Texts of ASCII characters, each of which is a byte.
use Rattle.std.proofs.Common.{◌≡◌, ℕ, suc, ◌+◌, ◌<◌, Bool, true, not, nat_le, List, [], ◌∷◌, length, refl, sym, ap, ◌∙◌, arith}
use Rattle.std.specs.Prelude.{◌==◌, Option, None, encode_utf8_all}
use Rattle.std.specs.List.{list_all, list_any}
use Rattle.std.specs.Str.{chars, IsAscii}
use Rattle.std.proofs.lemmas.Bool.{and_from, eqb-false, lt-ltb, ne_eqb, not-true}
use Rattle.std.proofs.lemmas.Str.{chars-IsAscii, encodes-IsAscii}
use Rattle.osta.specs.Compressed.{has_spelling, is_narrow, is_spellable, compressed, expanded}
use Rattle.osta.specs.FirstFault.{first_text_fault}
use Rattle.osta.specs.Name.{is_dots, has_character, dots_faults, name_faults}
use Rattle.osta.specs.declared.fault.NameFault.{NameFault}
use Rattle.osta.specs.declared.fault.NameFault.TheVariants.{Empty, Dot, Long, Nul, Slash, Wide}
use Rattle.osta.proofs.Rows.{all_hold}
use Rattle.osta.proofs.Spellings.{bytes_narrow, spelling_narrow}

bytes_spell : (bytes : List ℕ) → IsAscii bytes → list_all has_spelling bytes ≡ true
bytes_spell [] ascii = refl
bytes_spell (b ∷ bytes) ascii =
    and_from _ _
    (and_from _ _ (lt-ltb b 65536 (omega (arith, ascii 0)))
    (and_from _ _ (ap not (ne_eqb b 65279 (λ e. omega (arith, e, ascii 0)))) (ap not (ne_eqb b 65534 (λ e. omega (arith, e, ascii 0))))))
    (bytes_spell bytes (λ i. ascii (suc i)))

pub ascii_spellable : (text : List ℕ) → IsAscii text → is_spellable text ≡ true
ascii_spellable text ascii = ap (list_all has_spelling) (chars-IsAscii text ascii) ∙ bytes_spell text ascii

pub ascii_narrow : (text : List ℕ) → IsAscii text → list_all is_narrow (chars text) ≡ true
ascii_narrow text ascii = ap (list_all is_narrow) (chars-IsAscii text ascii) ∙ bytes_narrow text (λ i. omega (arith, ascii i))

pub ascii_count : (text : List ℕ) → IsAscii text → length text ≡ length (chars text)
ascii_count text ascii = ap length (sym (chars-IsAscii text ascii))

pub ascii_character : (c : ℕ) (text : List ℕ) → IsAscii text → list_any (λ d. d == c) text ≡ has_character c text
ascii_character c text ascii = ap (list_any (λ d. d == c)) (sym (chars-IsAscii text ascii))

pub ascii_encoded : (bytes : List ℕ) → IsAscii bytes → bytes ≡ encode_utf8_all bytes
ascii_encoded bytes ascii = sym (encodes-IsAscii bytes ascii)

pub ascii_compressed : (text : List ℕ) → IsAscii text → 0 < length text → compressed text ≡ 8 ∷ text
ascii_compressed text ascii some =
    spelling_narrow (chars text) (omega (arith, ascii_count text ascii)) (ascii_narrow text ascii) ∙ ap (λ (cs : List ℕ). 8 ∷ cs) (chars-IsAscii text ascii)

-- the text that such bytes spell
pub ascii_expanded : (text bytes : List ℕ) → IsAscii text → bytes ≡ 8 ∷ text → expanded bytes ≡ text
ascii_expanded text bytes ascii is = ap expanded is ∙ sym (ascii_encoded text ascii)

abbrev pub told : Bool → Bool → Bool → Bool → Bool → Bool → Option NameFault
told some apart clean whole spellable short =
    first_text_fault ((Empty, some) ∷ (Dot, apart) ∷ (Slash, clean) ∷ (Nul, whole) ∷ (Wide, spellable) ∷ (Long, short) ∷ [])

-- the faults of ASCII that is no text of dots: its characters are its bytes, and each has a spelling of one byte
pub ascii_faults : (text : List ℕ) (slash zero short : Bool) → IsAscii text → first_text_fault (dots_faults text) ≡ None
    → list_any (λ c. c == 47) text ≡ slash → list_any (λ c. c == 0) text ≡ zero → nat_le (length text + 1) 255 ≡ short
    → first_text_fault (name_faults text) ≡ told true true (not slash) (not zero) true short
ascii_faults text slash zero short ascii none any nil few =
    let hold = all_hold (dots_faults text) none in
    let apart : length text ≡ 0 → ⊥ = eqb-false (length text) 0 (not-true _ hold.0) in
    let long : length (compressed text) ≡ length text + 1 = omega (arith, ap length (ascii_compressed text ascii (omega (arith, apart)))) in
    let size = nat_le (length (compressed text)) 255 in
    ap (λ (b : Bool). told b (not (is_dots text)) (not (has_character 47 text)) (not (has_character 0 text)) (is_spellable text) size) hold.0
    ∙ ap (λ (b : Bool). told true b (not (has_character 47 text)) (not (has_character 0 text)) (is_spellable text) size) hold.1.0
    ∙ ap (λ (b : Bool). told true true (not b) (not (has_character 0 text)) (is_spellable text) size) (sym (ascii_character 47 text ascii) ∙ any)
    ∙ ap (λ (b : Bool). told true true (not slash) (not b) (is_spellable text) size) (sym (ascii_character 0 text ascii) ∙ nil)
    ∙ ap (λ (b : Bool). told true true (not slash) (not zero) b size) (ascii_spellable text ascii)
    ∙ ap (told true true (not slash) (not zero) true) (ap (λ (n : ℕ). nat_le n 255) long ∙ few)
