-- Texts and their spellings: one spelling a text, and it is read back.
use Rattle.std.proofs.Common.{◌≡◌, ℕ, ◌<◌, List, [], length, get_or, None, refl, sym, ap, ◌∙◌, ⊎_elim, inl, inr, arith}
use Rattle.std.specs.List.{list_all}
use Rattle.std.specs.Str.{chars, IsUtf8}
use Rattle.std.proofs.lemmas.List.{nil_from_length}
use Rattle.std.proofs.lemmas.Bool.{cases_lt, cases_Bool}
use Rattle.std.proofs.lemmas.Str.{chars-nil, chars-encodes, encodes-chars, scalars-chars}
use lib.Utf8.{encodes}
use Rattle.osta.specs.FirstFault.{first_text_fault}
use Rattle.osta.specs.Compressed.{is_narrow, has_spelling, compressed_unicode, compressed, characters, expanded, spelling_faults, Named}
use Rattle.osta.proofs.Spellings.{read_back, spelling-faultless, characters-spelling, length-spelling_narrow, length-spelling_wide}

pub compressed-nil : (text : List ℕ) → length text ≡ 0 → compressed text ≡ []
compressed-nil text none = ap compressed (nil_from_length text none) ∙ ap compressed_unicode chars-nil

-- a text that is not empty has a character
pub some_characters : (text : List ℕ) → IsUtf8 text → 0 < length text → 0 < length (chars text)
some_characters text utf8 some = elim (cases_lt 0 (length (chars text))) [ inl h ↦ h | inr none ↦ absurd (omega (arith, ap length (sym (encodes-chars text utf8) ∙ ap encodes (nil_from_length (chars text) (omega arith))))) ]

-- a text that is not empty has a spelling
pub some_compressed : (text : List ℕ) → IsUtf8 text → 0 < length text → 0 < length (compressed text)
some_compressed text utf8 some =
    let there = some_characters text utf8 some in
    ⊎_elim
    (λ narrow. omega (arith, length-spelling_narrow (chars text) there narrow))
    (λ wide. omega (arith, length-spelling_wide (chars text) there wide))
    (cases_Bool (list_all is_narrow (chars text)))

-- bytes without a fault are the spelling of the text that they give
pub Named-expanded : (bytes : List ℕ) → ((i : ℕ) → get_or bytes i 0 < 256) → first_text_fault (spelling_faults bytes) ≡ None → Named (expanded bytes) bytes
Named-expanded bytes fits none =
    let told = read_back bytes fits none in
    let same = chars-encodes (characters bytes) told.scalar in
    record {
      utf8 = (characters bytes, (told.scalar, refl));
      spellable = ap (list_all has_spelling) same ∙ told.spelled;
      spelled = sym (ap compressed_unicode same ∙ told.again);
    }

-- a spelling has no fault, and gives its text
pub faultless_from_Named : (text bytes : List ℕ) → Named text bytes → first_text_fault (spelling_faults bytes) ≡ None
faultless_from_Named text bytes named =
    ap (λ xs. first_text_fault (spelling_faults xs)) named.spelled ∙ spelling-faultless (chars text) (scalars-chars text named.utf8) named.spellable

pub expanded_from_Named : (text bytes : List ℕ) → Named text bytes → expanded bytes ≡ text
expanded_from_Named text bytes named =
    ap expanded named.spelled ∙ (ap encodes (characters-spelling (chars text)) ∙ encodes-chars text named.utf8)

pub one_text : (text other bytes : List ℕ) → Named text bytes → Named other bytes → text ≡ other
one_text text other bytes a b = sym (expanded_from_Named text bytes a) ∙ expanded_from_Named other bytes b
