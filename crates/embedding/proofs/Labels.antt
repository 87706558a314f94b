-- The text of a label, and the field in which C gets it.
use Rattle.std.proofs.Common.{◌≡◌, ℕ, ◌*◌, ◌-◌, ◌<◌, ◌≤◌, Bool, true, false, cond, not, ◌&&◌, ◌==◌, List, [], ◌∷◌, ◌++◌, length, drop, replicate, ap, ◌∙◌, ⊎_elim, arith}
use Rattle.std.specs.Prelude.{nat_lt}
use Rattle.std.specs.List.{list_all}
use Rattle.std.specs.Str.{chars}
use Rattle.std.proofs.lemmas.Bool.{and_parts, cases_Bool, eqb-false, lt-ltb, ltb-true, not-true}
use Rattle.std.proofs.lemmas.List.{drop-replicate, length-append}
use Rattle.std.proofs.lemmas.Str.{encodes-chars, length-encode}
use lib.Utf8.{encode, encodes}
use Rattle.std.specs.Char.{len_utf8}
use Rattle.osta.specs.Compressed.{has_spelling, is_narrow}
use Rattle.osta.specs.Label.{IsLabel, label_faults}
use Rattle.osta.proofs.Rows.{all_hold}
use Rattle.osta.proofs.Spellings.{length-spelling_narrow, length-spelling_wide}
use Rattle.osta.proofs.Texts.{some_characters}
use Rattle.osta.proofs.Names.{label_few}
use Rattle.embedding.specs.Statuses.{label_text_field}

-- ---- how many bytes a label's text has
at_most_two : (one two three : Bool) → two ≡ true → cond one 1 (cond two 2 (cond three 3 4)) ≤ 2
at_most_two true two three is = omega arith
at_most_two false true three is = omega arith
at_most_two false false three is = cc

at_most_three : (one two three : Bool) → three ≡ true → cond one 1 (cond two 2 (cond three 3 4)) ≤ 3
at_most_three true two three is = omega arith
at_most_three false true three is = omega arith
at_most_three false false true is = omega arith
at_most_three false false false is = cc

narrow_width : (c : ℕ) → c < 0x800 → len_utf8 c ≤ 2
narrow_width c low = at_most_two (nat_lt c 0x80) (nat_lt c 0x800) (nat_lt c 0x1_0000) (lt-ltb c 0x800 low)

wide_width : (c : ℕ) → c < 0x1_0000 → len_utf8 c ≤ 3
wide_width c low = at_most_three (nat_lt c 0x80) (nat_lt c 0x800) (nat_lt c 0x1_0000) (lt-ltb c 0x1_0000 low)

module _ (most : ℕ) (test : ℕ → Bool) (width : (c : ℕ) → test c ≡ true → len_utf8 c ≤ most) where
  length-encodes : (cs : List ℕ) → list_all test cs ≡ true → length (encodes cs) ≤ most * length cs
  length-encodes [] all = omega arith
  length-encodes (c ∷ cs) all =
      let parts = and_parts (test c) (list_all test cs) all in
      omega (arith, length-append (encode c) (encodes cs), length-encode c, width c parts.0, length-encodes cs parts.1)

-- 30 characters of two bytes each at most, or 15 of three
pub label_short : (text : List ℕ) → IsLabel text → length text ≤ 60
label_short text label =
    let cs = chars text in
    let whole : length (encodes cs) ≡ length text = ap length (encodes-chars text label.utf8) in
    let spelled : list_all has_spelling cs ≡ true = (all_hold (label_faults text) label.faultless).1.1.0 in
    let few = label_few text label in
    let apart : length text ≡ 0 → ⊥ = eqb-false (length text) 0 (not-true _ (all_hold (label_faults text) label.faultless).0) in
    let some : 0 < length cs = some_characters text label.utf8 (omega (arith, apart)) in
    ⊎_elim
    (λ narrow. omega (arith, whole, few, length-spelling_narrow cs some narrow, length-encodes 2 is_narrow (λ c is. narrow_width c (omega (arith, ltb-true c 256 is))) cs narrow))
    (λ wide. omega (arith, whole, few, length-spelling_wide cs some wide, length-encodes 3 has_spelling (λ c is. wide_width c (ltb-true c 0x1_0000 (and_parts (nat_lt c 0x1_0000) (not (c == 0xFEFF) && not (c == 0xFFFE)) is).0)) cs spelled))
    (cases_Bool (list_all is_narrow cs))

-- ---- its field
pub filled : (text : List ℕ) (count : ℕ) → count ≡ length text → text ++ drop count (replicate 64 0) ≡ label_text_field text
filled text count is = ap (λ (zeros : List ℕ). text ++ zeros) (drop-replicate count 64 0 ∙ ap (λ (n : ℕ). replicate (64 - n) 0) is)
