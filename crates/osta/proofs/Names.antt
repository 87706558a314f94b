-- Names and labels: what a text without a fault is, and how a label is kept.
use Rattle.std.proofs.Common.{◌≡◌, ℕ, ◌<◌, ◌≤◌, true, false, ◌==◌, List, [], ◌∷◌, ◌++◌, length, get_or, take, drop, None, refl, sym, ap, ◌∙◌, subst, ⊎_elim, arith}
use Rattle.std.specs.List.{list_any, list_all, flat_map}
use Rattle.std.specs.Str.{chars, IsUtf8, IsAscii}
use Rattle.std.proofs.lemmas.Bool.{not-true, not_from_false, ne_eqb, eqb-false, leb-true, le-leb, cases_Bool, and_from, and_right}
use Rattle.std.proofs.lemmas.List.{length-append, length-drop}
use Rattle.std.proofs.lemmas.List.Concat.{flat_map-append}
use Rattle.std.proofs.lemmas.List.Folds.{list_all-append}
use Rattle.std.proofs.lemmas.Str.{chars-encodes, chars-append, chars-IsAscii, IsUtf8-from_ascii}
use Rattle.osta.specs.FirstFault.{first_text_fault}
use Rattle.osta.specs.Compressed.{is_narrow, two_bytes, compressed_unicode, compressed, characters, spelling_faults, writing_faults, Named}
use Rattle.osta.specs.Dstring.{field_of, dstring, Dstring, dstring_count, dstring_spelling, dstring_faults}
use Rattle.osta.specs.Name.{has_character, name_faults, IsName, IsStoredName, kept_spelling}
use Rattle.osta.specs.Label.{label_faults, IsLabel, dstring_text, IsLabelDstring, IsLabelField}
use Rattle.osta.proofs.Ascii.{ascii_compressed, ascii_spellable}
use Rattle.osta.proofs.Rows.{all_hold, faultless}
use Rattle.osta.proofs.Spellings.{spelling_narrow, spelling_wide, bytes_narrow, read_back, characters-spelling, id_of}
use Rattle.osta.proofs.Texts.{compressed-nil, some_compressed, Named-expanded, faultless_from_Named}
use Rattle.osta.proofs.Fields.{fits_front, field_from_faultless, Dstring-named, text_from_Dstring, spelling_from_Dstring}

not_empty : (text : List ℕ) → (length text == 0) ≡ false → 0 < length text
not_empty text told =
    let apart : length text ≡ 0 → ⊥ = eqb-false (length text) 0 told in
    omega (arith, apart)

-- ---- names
pub text_some : (text : List ℕ) → IsName text → 0 < length text
text_some text name = not_empty text (not-true _ (all_hold (name_faults text) name.faultless).0)

pub name_some : (text : List ℕ) → IsName text → 0 < length (compressed text)
name_some text name = some_compressed text name.utf8 (text_some text name)

pub name_few : (text : List ℕ) → IsName text → length (compressed text) ≤ 255
name_few text name = leb-true _ _ (all_hold (name_faults text) name.faultless).1.1.1.1.1.0

pub name_spelled : (text : List ℕ) → IsName text → Named text (compressed text)
name_spelled text name =
    record { utf8 = name.utf8; spellable = (all_hold (name_faults text) name.faultless).1.1.1.1.0; spelled = refl }

-- the spelling of a name of ASCII
pub ascii_named : (text bytes : List ℕ) → IsAscii text → IsName text → bytes ≡ 8 ∷ text → Named text bytes
ascii_named text bytes ascii name is =
    record { utf8 = name.utf8; spellable = ascii_spellable text ascii; spelled = is ∙ sym (ascii_compressed text ascii (text_some text name)) }

-- a name of ASCII is kept by its text alone
pub kept_ascii : (text spelled other : List ℕ) → IsAscii text → IsName text → spelled ≡ 8 ∷ text → other ≡ [] → IsStoredName spelled other
kept_ascii text spelled other ascii name is none =
    let same : drop 1 spelled ≡ text = ap (drop 1) is in
    record {
      front = is ∙ ap (λ (t : List ℕ). 8 ∷ t) (sym same);
      name = subst IsName (sym same) name;
      spelling =
          ap (kept_spelling spelled) none ∙ is ∙ sym (ascii_compressed text ascii (text_some text name)) ∙ ap compressed (sym same);
    }

kept_some : (spelled other : List ℕ) → 0 < length other → kept_spelling spelled other ≡ other
kept_some spelled [] some = absurd (omega arith)
kept_some spelled (byte ∷ bytes) some = refl

-- and any name with its spelling beside it
pub kept_other : (text spelled other : List ℕ) → IsName text → spelled ≡ 8 ∷ text → other ≡ compressed text → IsStoredName spelled other
kept_other text spelled other name is told =
    let same : drop 1 spelled ≡ text = ap (drop 1) is in
    record {
      front = is ∙ ap (λ (t : List ℕ). 8 ∷ t) (sym same);
      name = subst IsName (sym same) name;
      spelling = kept_some spelled other (omega (arith, ap length told, name_some text name)) ∙ told ∙ ap compressed (sym same);
    }

-- the spelling of a kept name
pub kept_alone : (spelled other : List ℕ) → IsStoredName spelled other → other ≡ [] → spelled ≡ compressed (drop 1 spelled)
kept_alone spelled other kept none = sym (ap (kept_spelling spelled) none) ∙ kept.spelling

pub kept_beside : (spelled other : List ℕ) → IsStoredName spelled other → 0 < length other → other ≡ compressed (drop 1 spelled)
kept_beside spelled other kept some = sym (kept_some spelled other some) ∙ kept.spelling

-- ---- labels
pub label_from : (text : List ℕ) → IsUtf8 text → (length text == 0) ≡ false → has_character 0 text ≡ false → first_text_fault (writing_faults 31 text) ≡ None → IsLabel text
label_from text utf8 some clean writable =
    record { utf8 = utf8; faultless = faultless (label_faults text) (not_from_false _ some, (not_from_false _ clean, all_hold (writing_faults 31 text) writable)) }

pub label_some : (text : List ℕ) → IsLabel text → 0 < length (compressed text)
label_some text label =
    some_compressed text label.utf8 (not_empty text (not-true _ (all_hold (label_faults text) label.faultless).0))

pub label_few : (text : List ℕ) → IsLabel text → length (compressed text) ≤ 31
label_few text label = leb-true _ _ (all_hold (label_faults text) label.faultless).1.1.1.0

label_clean : (text : List ℕ) → IsLabel text → has_character 0 text ≡ false
label_clean text label = not-true _ (all_hold (label_faults text) label.faultless).1.0

pub label_Dstring : (text : List ℕ) (n : ℕ) → IsLabel text → 31 < n → Dstring text n (dstring n text)
label_Dstring text n label wide =
    record {
      utf8 = label.utf8;
      spellable = (all_hold (label_faults text) label.faultless).1.1.0;
      room = omega (arith, label_few text label);
      spelled = refl;
    }

-- a label's dstring is the field that keeps it
pub label_text : (text : List ℕ) → IsLabel text → dstring_text (dstring 32 text) ≡ text
label_text text label = text_from_Dstring text (dstring 32 text) 32 (label_Dstring text 32 label (omega arith))

pub label_field : (text : List ℕ) → IsLabel text → IsLabelField (dstring 32 text)
label_field text label =
    let same = label_text text label in
    record { label = subst IsLabel (sym same) label; field = ap (dstring 32) same }

-- what such a field holds
pub field_Dstring : (field : List ℕ) → IsLabelField field → Dstring (dstring_text field) 32 field
field_Dstring field kept =
    let told = label_Dstring (dstring_text field) 32 kept.label (omega arith) in
    record { utf8 = told.utf8; spellable = told.spellable; room = told.room; spelled = sym kept.field }

pub field_spelling : (field : List ℕ) → IsLabelField field → dstring_spelling field ≡ compressed (dstring_text field)
field_spelling field kept = spelling_from_Dstring (dstring_text field) field 32 (field_Dstring field kept)

pub field_faultless : (field : List ℕ) → IsLabelField field → first_text_fault (spelling_faults (dstring_spelling field)) ≡ None
field_faultless field kept =
    ap (λ (xs : List ℕ). first_text_fault (spelling_faults xs)) (field_spelling field kept)
    ∙ faultless_from_Named (dstring_text field) (compressed (dstring_text field)) (Dstring-named (dstring_text field) field 32 (field_Dstring field kept))

-- what the dstring of a label must be
pub record IsLabelSpelling (bytes : List ℕ) : Type 0 where
  pub some : 0 < length bytes
  pub few : length bytes ≤ 31
  pub clean : list_any (λ c. c == 0) (characters bytes) ≡ false

-- the label of a dstring of any length
pub label_read : (field : List ℕ) → ((i : ℕ) → get_or field i 0 < 256) → 0 < length field → first_text_fault (dstring_faults field) ≡ None
    → IsLabelSpelling (dstring_spelling field) → IsLabel (dstring_text field)
label_read field fits some none told_by =
    let s = dstring_spelling field in
    let text = dstring_text field in
    let told = field_from_faultless field some none in
    let front = fits_front field (dstring_count field) fits in
    let named = Named-expanded s front told.2 in
    let same = chars-encodes (characters s) (read_back s front told.2).scalar in
    let apart : length text ≡ 0 → ⊥ = λ e. omega (arith, told_by.some, ap length (named.spelled ∙ compressed-nil text e)) in
    label_from text named.utf8
    (ne_eqb (length text) 0 apart)
    (ap (list_any (λ c. c == 0)) same ∙ told_by.clean)
    (faultless (writing_faults 31 text) (named.spellable, (le-leb _ _ (omega (arith, told_by.few, ap length named.spelled)), tt)))

-- what was put into the field that keeps a label
pub label_kept : (field : List ℕ) → ((i : ℕ) → get_or field i 0 < 256) → 0 < length field → first_text_fault (dstring_faults field) ≡ None → field_of 32 (dstring_spelling field) ≡ dstring 32 (dstring_text field)
label_kept field fits some none =
    let told = field_from_faultless field some none in
    ap (field_of 32) (Named-expanded (dstring_spelling field) (fits_front field (dstring_count field) fits) told.2).spelled

pub label_told : (text field : List ℕ) → IsLabelDstring text field → IsLabelSpelling (dstring_spelling field)
label_told text field told =
    let s = spelling_from_Dstring text field (length field) told.field in
    let same = characters-spelling (chars text) in
    record {
      some = omega (arith, ap length s, label_some text told.label);
      few = omega (arith, ap length s, label_few text told.label);
      clean = ap (λ (xs : List ℕ). list_any (λ c. c == 0) (characters xs)) s ∙ (ap (list_any (λ c. c == 0)) same ∙ label_clean text told.label);
    }

-- ---- ASCII characters before a text
narrow_only : (cs rest : List ℕ) → compressed_unicode cs ≡ 8 ∷ rest → (list_all is_narrow cs ≡ true) × (cs ≡ rest)
narrow_only [] rest told = absurd (omega (arith, ap length told))
narrow_only (c ∷ cs) rest told =
    ⊎_elim
    (λ narrow. (narrow, ap (drop 1) (sym (spelling_narrow (c ∷ cs) (omega arith) narrow) ∙ told)))
    (λ wide. absurd (omega (arith, ap (λ (xs : List ℕ). get_or xs 0 0) (sym (spelling_wide (c ∷ cs) (omega arith) wide) ∙ told))))
    (cases_Bool (list_all is_narrow (c ∷ cs)))

wide_only : (cs rest : List ℕ) → compressed_unicode cs ≡ 16 ∷ rest → (list_all is_narrow cs ≡ false) × (flat_map two_bytes cs ≡ rest)
wide_only [] rest told = absurd (omega (arith, ap length told))
wide_only (c ∷ cs) rest told =
    ⊎_elim
    (λ narrow. absurd (omega (arith, ap (λ (xs : List ℕ). get_or xs 0 0) (sym (spelling_narrow (c ∷ cs) (omega arith) narrow) ∙ told))))
    (λ wide. (wide, ap (drop 1) (sym (spelling_wide (c ∷ cs) (omega arith) wide) ∙ told)))
    (cases_Bool (list_all is_narrow (c ∷ cs)))

chars_after : (front text : List ℕ) → IsAscii front → chars (front ++ text) ≡ front ++ chars text
chars_after front text ascii =
    chars-append front text (IsUtf8-from_ascii front ascii) ∙ ap (λ (xs : List ℕ). xs ++ chars text) (chars-IsAscii front ascii)

some_after : (front cs : List ℕ) → 0 < length front → 0 < length (front ++ cs)
some_after front cs some = omega (arith, length-append front cs)

narrow_after : (front text rest : List ℕ) → 0 < length front → IsAscii front → compressed text ≡ 8 ∷ rest → compressed (front ++ text) ≡ 8 ∷ (front ++ rest)
narrow_after front text rest some ascii told =
    let cs = chars text in
    let only = narrow_only cs rest told in
    let narrow = and_from _ _ (bytes_narrow front (λ i. omega (arith, ascii i))) only.0 in
    ap compressed_unicode (chars_after front text ascii)
    ∙ (spelling_narrow (front ++ cs) (some_after front cs some) (list_all-append is_narrow front cs ∙ narrow)
    ∙ ap (λ (xs : List ℕ). 8 ∷ (front ++ xs)) only.1)

wide_after : (front text rest : List ℕ) → 0 < length front → IsAscii front → compressed text ≡ 16 ∷ rest → compressed (front ++ text) ≡ 16 ∷ (flat_map two_bytes front ++ rest)
wide_after front text rest some ascii told =
    let cs = chars text in
    let only = wide_only cs rest told in
    let wide = and_right (list_all is_narrow front) _ only.0 in
    ap compressed_unicode (chars_after front text ascii)
    ∙ (spelling_wide (front ++ cs) (some_after front cs some) (list_all-append is_narrow front cs ∙ wide)
    ∙ ap (λ (xs : List ℕ). 16 ∷ xs) (flat_map-append two_bytes front cs ∙ ap (λ (xs : List ℕ). flat_map two_bytes front ++ xs) only.1))

first_and_rest : (xs : List ℕ) → 0 < length xs → xs ≡ get_or (take 1 xs) 0 0 ∷ drop 1 xs
first_and_rest [] some = absurd (omega arith)
first_and_rest (x ∷ xs) some = refl

-- after 16 characters, a label of which the kept field has the identifier and the rest
pub field_narrow : (field front : List ℕ) → IsLabelField field → 0 < length front → IsAscii front → get_or (take 1 (dstring_spelling field)) 0 0 ≡ 8
    → compressed (front ++ dstring_text field) ≡ 8 ∷ (front ++ drop 1 (dstring_spelling field))
field_narrow field front kept some ascii id =
    let s = dstring_spelling field in
    let same = field_spelling field kept in
    let there : 0 < length s = omega (arith, ap length same, label_some (dstring_text field) kept.label) in
    narrow_after front (dstring_text field) (drop 1 s) some ascii (sym same ∙ (first_and_rest s there ∙ ap (λ (x : ℕ). x ∷ drop 1 s) id))

pub field_wide : (field front : List ℕ) → IsLabelField field → 0 < length front → IsAscii front → (get_or (take 1 (dstring_spelling field)) 0 0 ≡ 8 → ⊥)
    → compressed (front ++ dstring_text field) ≡ 16 ∷ (flat_map two_bytes front ++ drop 1 (dstring_spelling field))
field_wide field front kept some ascii apart =
    let s = dstring_spelling field in
    let same = field_spelling field kept in
    let there : 0 < length s = omega (arith, ap length same, label_some (dstring_text field) kept.label) in
    let split = first_and_rest s there in
    let none : first_text_fault (spelling_faults (get_or (take 1 s) 0 0 ∷ drop 1 s)) ≡ None = ap (λ (xs : List ℕ). first_text_fault (spelling_faults xs)) (sym split) ∙ field_faultless field kept in
    let id : get_or (take 1 s) 0 0 ≡ 16 = ⊎_elim (λ narrow. absurd (apart narrow)) (λ wide. wide) (id_of _ _ none) in
    wide_after front (dstring_text field) (drop 1 s) some ascii (sym same ∙ (split ∙ ap (λ (x : ℕ). x ∷ drop 1 s) id))

-- how much of the label is after the identifier
pub field_rest : (field : List ℕ) → IsLabelField field → length (drop 1 (dstring_spelling field)) ≤ 30
field_rest field kept =
    omega (arith, length-drop 1 (dstring_spelling field), ap length (field_spelling field kept), label_few (dstring_text field) kept.label)
