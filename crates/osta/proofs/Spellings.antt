-- The spelling of characters, and that it is read back.
use Rattle.std.proofs.Common.{◌≡◌, ℕ, ◌+◌, ◌*◌, ◌/◌, ◌%◌, ◌<◌, Bool, true, false, ◌==◌, suc, List, [], ◌∷◌, map, length, get_or, None, refl, sym, ap, ◌∙◌, subst, ⊎_elim, inl, inr, ◌⊎◌, arith}
use Rattle.std.specs.List.{list_all, flat_map}
use Rattle.std.proofs.lemmas.Bool.{cases_Bool, and_parts, and_from, or_cases, not_from_false, not-true, ne_eqb, eq-eqb, eqb-true, eqb-false, cond-true, lt-ltb, ltb-true}
use lib.Utf8.{scalar, scalars, low_scalar}
use Rattle.osta.specs.FirstFault.{first_text_fault}
use Rattle.osta.specs.Compressed.{is_narrow, has_spelling, two_bytes, compressed_unicode, units, is_unit, unit_character, characters, spelling_faults}
use Rattle.osta.proofs.Rows.{all_hold, faultless}

-- ---- the cases of a spelling
pub spelling_narrow : (cs : List ℕ) → 0 < length cs → list_all is_narrow cs ≡ true → compressed_unicode cs ≡ 8 ∷ cs
spelling_narrow [] some narrow = absurd (omega arith)
spelling_narrow (c ∷ cs) some narrow = rw narrow refl

pub spelling_wide : (cs : List ℕ) → 0 < length cs → list_all is_narrow cs ≡ false → compressed_unicode cs ≡ 16 ∷ flat_map two_bytes cs
spelling_wide [] some wide = absurd (omega arith)
spelling_wide (c ∷ cs) some wide = rw wide refl

pub length-two_bytes : (cs : List ℕ) → length (flat_map two_bytes cs) ≡ 2 * length cs
length-two_bytes [] = refl
length-two_bytes (c ∷ cs) = omega (arith, length-two_bytes cs)

pub length-spelling_narrow : (cs : List ℕ) → 0 < length cs → list_all is_narrow cs ≡ true → length (compressed_unicode cs) ≡ length cs + 1
length-spelling_narrow cs some narrow = omega (arith, ap length (spelling_narrow cs some narrow))

pub length-spelling_wide : (cs : List ℕ) → 0 < length cs → list_all is_narrow cs ≡ false → length (compressed_unicode cs) ≡ 2 * length cs + 1
length-spelling_wide cs some wide = omega (arith, ap length (spelling_wide cs some wide), length-two_bytes cs)

-- ---- tests of characters
all_weaker : (p q : ℕ → Bool) → ((c : ℕ) → p c ≡ true → q c ≡ true) → (cs : List ℕ) → list_all p cs ≡ true → list_all q cs ≡ true
all_weaker p q weaker [] e = refl
all_weaker p q weaker (c ∷ cs) e =
    let parts = and_parts (p c) (list_all p cs) e in
    and_from (q c) (list_all q cs) (weaker c parts.0) (all_weaker p q weaker cs parts.1)

narrow_spells : (c : ℕ) → c < 256 → has_spelling c ≡ true
narrow_spells c small =
    and_from _ _ (lt-ltb c 0x1_0000 (omega arith))
    (and_from _ _ (not_from_false _ (ne_eqb c 0xFEFF (λ e. omega arith))) (not_from_false _ (ne_eqb c 0xFFFE (λ e. omega arith))))

narrow_is_unit : (c : ℕ) → is_narrow c ≡ true → is_unit c ≡ true
narrow_is_unit c narrow =
    let small : c < 256 = ltb-true c 256 narrow in
    and_from _ _ (low_scalar c (omega arith)) (narrow_spells c small)

pub units_scalars : (cs : List ℕ) → list_all is_unit cs ≡ true → scalars cs ≡ true
units_scalars [] e = refl
units_scalars (c ∷ cs) e =
    let parts = and_parts (is_unit c) (list_all is_unit cs) e in
    and_from (scalar c) (scalars cs) (and_parts (scalar c) (has_spelling c) parts.0).0 (units_scalars cs parts.1)

pub units_spell : (cs : List ℕ) → list_all is_unit cs ≡ true → list_all has_spelling cs ≡ true
units_spell cs e = all_weaker is_unit has_spelling (λ c unit. (and_parts (scalar c) (has_spelling c) unit).1) cs e

pub units_from : (cs : List ℕ) → scalars cs ≡ true → list_all has_spelling cs ≡ true → list_all is_unit cs ≡ true
units_from [] scalar spelled = refl
units_from (c ∷ cs) scalar spelled =
    let told = and_parts _ _ scalar in
    let spells = and_parts (has_spelling c) (list_all has_spelling cs) spelled in
    and_from (is_unit c) (list_all is_unit cs) (and_from _ _ told.0 spells.0) (units_from cs told.1 spells.1)

pub bytes_narrow : (bytes : List ℕ) → ((i : ℕ) → get_or bytes i 0 < 256) → list_all is_narrow bytes ≡ true
bytes_narrow [] fits = refl
bytes_narrow (b ∷ bytes) fits = and_from _ _ (lt-ltb b 256 (fits 0)) (bytes_narrow bytes (λ i. fits (suc i)))

-- characters stay as they are where they are read one by one
pub map-unit_character : (cs : List ℕ) → scalars cs ≡ true → map unit_character cs ≡ cs
unfolding unit_character
map-unit_character [] e = refl
map-unit_character (c ∷ cs) e =
    let parts = and_parts (scalar c) (scalars cs) e in
    ap (λ (x : ℕ). x ∷ map unit_character cs) (cond-true (scalar c) c 0xFFFD parts.0) ∙ ap (λ (xs : List ℕ). c ∷ xs) (map-unit_character cs parts.1)

-- ---- two bytes each
pub units-two_bytes : (cs : List ℕ) → units (flat_map two_bytes cs) ≡ cs
units-two_bytes [] = refl
units-two_bytes (c ∷ cs) =
    let head : c / 256 * 256 + c % 256 ≡ c = omega arith in
    ap (λ (x : ℕ). x ∷ units (flat_map two_bytes cs)) head ∙ ap (λ (xs : List ℕ). c ∷ xs) (units-two_bytes cs)

pub two_bytes-units : (bytes : List ℕ) → length bytes % 2 ≡ 0 → ((i : ℕ) → get_or bytes i 0 < 256) → flat_map two_bytes (units bytes) ≡ bytes
two_bytes-units [] even fits = refl
two_bytes-units (b ∷ []) even fits = absurd (omega arith)
two_bytes-units (h ∷ l ∷ bytes) even fits =
    let small : l < 256 = fits 1 in
    let high : (h * 256 + l) / 256 ≡ h = omega arith in
    let low : (h * 256 + l) % 256 ≡ l = omega arith in
    let left : length bytes % 2 ≡ 0 = omega arith in
    ap (λ (x : ℕ). x ∷ (h * 256 + l) % 256 ∷ flat_map two_bytes (units bytes)) high
    ∙ (ap (λ (x : ℕ). h ∷ x ∷ flat_map two_bytes (units bytes)) low
    ∙ ap (λ (xs : List ℕ). h ∷ l ∷ xs) (two_bytes-units bytes left (λ i. fits (suc (suc i)))))

-- ---- what is written is read back
pub characters-spelling : (cs : List ℕ) → characters (compressed_unicode cs) ≡ cs
characters-spelling [] = refl
characters-spelling (c ∷ cs) =
    ⊎_elim
    (λ narrow. ap characters (spelling_narrow (c ∷ cs) (omega arith) narrow))
    (λ wide. ap characters (spelling_wide (c ∷ cs) (omega arith) wide) ∙ units-two_bytes (c ∷ cs))
    (cases_Bool (list_all is_narrow (c ∷ cs)))

narrow_faultless : (cs : List ℕ) → 0 < length cs → first_text_fault (spelling_faults (8 ∷ cs)) ≡ None
narrow_faultless cs some =
    faultless (spelling_faults (8 ∷ cs)) (refl, (not_from_false _ (ne_eqb (length cs) 0 (λ e. omega arith)), tt))

wide_faultless : (cs : List ℕ) → list_all is_narrow cs ≡ false → list_all is_unit cs ≡ true → first_text_fault (spelling_faults (16 ∷ flat_map two_bytes cs)) ≡ None
wide_faultless cs wide units_all =
    faultless (spelling_faults (16 ∷ flat_map two_bytes cs)) (
      refl,
      (
        eq-eqb (length (flat_map two_bytes cs) % 2) 0 (omega (arith, length-two_bytes cs)),
        (
          not_from_false _ (ap (list_all is_narrow) (units-two_bytes cs) ∙ wide),
          (ap (list_all is_unit) (units-two_bytes cs) ∙ units_all, tt),
        ),
      ),
    )

pub spelling-faultless : (cs : List ℕ) → scalars cs ≡ true → list_all has_spelling cs ≡ true → first_text_fault (spelling_faults (compressed_unicode cs)) ≡ None
spelling-faultless [] scalar spelled = refl
spelling-faultless (c ∷ cs) scalar spelled =
    ⊎_elim
    (λ narrow. ap (λ bytes. first_text_fault (spelling_faults bytes)) (spelling_narrow (c ∷ cs) (omega arith) narrow) ∙ narrow_faultless (c ∷ cs) (omega arith))
    (λ wide. ap (λ bytes. first_text_fault (spelling_faults bytes)) (spelling_wide (c ∷ cs) (omega arith) wide) ∙ wide_faultless (c ∷ cs) wide (units_from (c ∷ cs) scalar spelled))
    (cases_Bool (list_all is_narrow (c ∷ cs)))

-- ---- what is read is written so
pub record IsRead (bytes : List ℕ) : Type 0 where
  pub again : compressed_unicode (characters bytes) ≡ bytes
  pub scalar : scalars (characters bytes) ≡ true
  pub spelled : list_all has_spelling (characters bytes) ≡ true

narrow_read : (bytes : List ℕ) → ((i : ℕ) → get_or bytes i 0 < 256) → first_text_fault (spelling_faults (8 ∷ bytes)) ≡ None → IsRead (8 ∷ bytes)
narrow_read bytes fits none =
    let hold = all_hold (spelling_faults (8 ∷ bytes)) none in
    let apart : length bytes ≡ 0 → ⊥ = eqb-false (length bytes) 0 (not-true _ hold.1.0) in
    let narrow = bytes_narrow bytes fits in
    let units_all = all_weaker is_narrow is_unit narrow_is_unit bytes narrow in
    record {
      again = spelling_narrow bytes (omega (arith, apart)) narrow;
      scalar = units_scalars bytes units_all;
      spelled = units_spell bytes units_all;
    }

some_wide : (cs : List ℕ) → list_all is_narrow cs ≡ false → 0 < length cs
some_wide [] e = cc
some_wide (c ∷ cs) e = omega arith

wide_read : (bytes : List ℕ) → ((i : ℕ) → get_or bytes i 0 < 256) → first_text_fault (spelling_faults (16 ∷ bytes)) ≡ None → IsRead (16 ∷ bytes)
wide_read bytes fits none =
    let hold = all_hold (spelling_faults (16 ∷ bytes)) none in
    let even : length bytes % 2 ≡ 0 = eqb-true _ _ hold.1.0 in
    let wide : list_all is_narrow (units bytes) ≡ false = not-true _ hold.1.1.0 in
    let units_all = hold.1.1.1.0 in
    record {
      again = spelling_wide (units bytes) (some_wide (units bytes) wide) wide ∙ ap (λ (xs : List ℕ). 16 ∷ xs) (two_bytes-units bytes even fits);
      scalar = units_scalars (units bytes) units_all;
      spelled = units_spell (units bytes) units_all;
    }

pub id_of : (id : ℕ) (rest : List ℕ) → first_text_fault (spelling_faults (id ∷ rest)) ≡ None → (id ≡ 8) ⊎ (id ≡ 16)
id_of id rest none =
    ⊎_elim (λ e. inl (eqb-true id 8 e)) (λ e. inr (eqb-true id 16 e)) (or_cases (id == 8) (id == 16) (all_hold (spelling_faults (id ∷ rest)) none).0)

pub read_back : (bytes : List ℕ) → ((i : ℕ) → get_or bytes i 0 < 256) → first_text_fault (spelling_faults bytes) ≡ None → IsRead bytes
read_back [] fits none = record { again = refl; scalar = refl; spelled = refl }
read_back (id ∷ rest) fits none =
    let P : ℕ → Type 0 = λ k. first_text_fault (spelling_faults (k ∷ rest)) ≡ None → IsRead (k ∷ rest) in
    let tail : (i : ℕ) → get_or rest i 0 < 256 = λ i. fits (suc i) in
    ⊎_elim
    (λ narrow. subst P (sym narrow) (narrow_read rest tail) none)
    (λ wide. subst P (sym wide) (wide_read rest tail) none)
    (id_of id rest none)

-- two bytes each are characters with a spelling, after an identifier that is not 8
pub units_from_faultless : (id : ℕ) (rest bytes : List ℕ) → (id ≡ 8 → ⊥) → bytes ≡ id ∷ rest → first_text_fault (spelling_faults bytes) ≡ None → list_all is_unit (units rest) ≡ true
units_from_faultless id rest bytes wide told none =
    let here : first_text_fault (spelling_faults (id ∷ rest)) ≡ None = ap (λ xs. first_text_fault (spelling_faults xs)) (sym told) ∙ none in
    let P : ℕ → Type 0 = λ k. first_text_fault (spelling_faults (k ∷ rest)) ≡ None → list_all is_unit (units rest) ≡ true in
    ⊎_elim
    (λ narrow. absurd (wide narrow))
    (λ e. subst P (sym e) (λ h. (all_hold (spelling_faults (16 ∷ rest)) h).1.1.1.0) here)
    (id_of id rest here)
