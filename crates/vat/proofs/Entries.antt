-- What a table has for each virtual address, as numbers and as bytes.
use Rattle.std.proofs.Common.{◌≡◌, ◌≢◌, ℕ, zero, suc, ◌+◌, ◌*◌, ◌/◌, ◌%◌, ◌^◌, ◌<◌, Bool, true, false, cond, eqb, List, [], ◌∷◌, ◌++◌, length, get_or, map, Option, Some, None, refl, sym, ap, ◌∙◌, inl, inr, arith}
use Rattle.std.specs.Prelude.{IfSome, is_some, not, ◌==◌, ◌⊎◌, count_by, slice_get}
use Rattle.std.specs.Option.{option_map}
use Rattle.std.proofs.lemmas.Option.{slice_get-map, slice_get-get_or}
use Rattle.std.specs.Int.{w32, to_le_bytes}
use Rattle.std.specs.List.{flat_map, AllByRecursion}
use Rattle.std.proofs.lemmas.Bool.{eqb-true, eqb-false, ne_eqb}
use Rattle.std.proofs.lemmas.List.Sums.{sum_by-cons}
use Rattle.std.proofs.lemmas.Nat.{le_bytes_4}
use Rattle.ecma.proofs.Pieces.{IsBytes}
use Rattle.vat.specs.Entry.{unused, entry_number, number_entry, entry_bytes, words}

abbrev whole : Option ℕ → Option (Option ℕ)
whole e = Some e

-- four bytes for each
pub length-entry_bytes : (entries : List (Option ℕ)) → length (flat_map entry_bytes entries) ≡ 4 * length entries
length-entry_bytes [] = refl
length-entry_bytes (entry ∷ entries) = omega (arith, length-entry_bytes entries)

-- ---- one entry

of_number : (b : Bool) (n : ℕ) → eqb n unused ≡ b → entry_number (cond b None (Some n)) ≡ n
of_number true n e = sym (eqb-true n unused e)
of_number false n e = refl

pub entry_number-entry_of : (n : ℕ) → entry_number (number_entry n) ≡ n
entry_number-entry_of n = of_number (eqb n unused) n refl

pub entry_of-entry_number : (e : Option ℕ) → IfSome e (λ n. n < unused) → number_entry (entry_number e) ≡ e
entry_of-entry_number None h = refl
entry_of-entry_number (Some n) h = let no : eqb n unused ≡ false = ne_eqb n unused (omega arith) in rw no refl

pub entry_number-fits : (e : Option ℕ) → IfSome e (λ n. n < unused) → entry_number e < 2 ^ 32
entry_number-fits None h = omega arith
entry_number-fits (Some n) h = omega arith

if_some : (b : Bool) (n limit : ℕ) → eqb n unused ≡ b → (n ≢ unused → n < limit) → IfSome (cond b None (Some n)) (λ k. k < limit)
if_some true n limit e h = tt
if_some false n limit e h = h (eqb-false n unused e)

-- a number that is below a limit unless it stands for none
pub entry_of-below : (n limit : ℕ) → (n ≢ unused → n < limit) → IfSome (number_entry n) (λ k. k < limit)
entry_of-below n limit h = if_some (eqb n unused) n limit refl h

pub entry_number-below : (e : Option ℕ) (limit : ℕ) → IfSome e (λ k. k < limit) → (entry_number e < limit) ⊎ (entry_number e ≡ unused)
entry_number-below None limit h = inr refl
entry_number-below (Some n) limit h = inl h

pub entry_of-used : (n : ℕ) → n ≢ unused → number_entry n ≡ Some n
entry_of-used n other = let no : eqb n unused ≡ false = ne_eqb n unused other in rw no refl

-- ---- all of them

pub entries_again : (es : List (Option ℕ)) → AllByRecursion (λ e. IfSome e (λ n. n < unused)) es → map number_entry (map entry_number es) ≡ es
entries_again [] all = refl
entries_again (e ∷ es) all =
    ap (λ (x : Option ℕ). x ∷ map number_entry (map entry_number es)) (entry_of-entry_number e all.0) ∙ ap (λ (xs : List (Option ℕ)). e ∷ xs) (entries_again es all.1)

word_again : (n : ℕ) (rest : List ℕ) → n < 2 ^ 32 → words (to_le_bytes w32 n ++ rest) ≡ n ∷ words rest
word_again n rest lt =
    let same : n % 256 + n / 256 % 256 * 2 ^ 8 + (n / 65536 % 256 + n / 16777216 % 256 * 2 ^ 8) * 2 ^ 16 ≡ n = omega arith in
    ap (λ (k : ℕ). k ∷ words rest) same

pub words_again : (es : List (Option ℕ)) → AllByRecursion (λ e. IfSome e (λ n. n < unused)) es → words (flat_map entry_bytes es) ≡ map entry_number es
words_again [] all = refl
words_again (e ∷ es) all =
    word_again (entry_number e) (flat_map entry_bytes es) (entry_number-fits e all.0) ∙ ap (λ (xs : List ℕ). entry_number e ∷ xs) (words_again es all.1)

cells : (a b c d : ℕ) → a < 256 → b < 256 → c < 256 → d < 256 → to_le_bytes w32 (a + b * 2 ^ 8 + (c + d * 2 ^ 8) * 2 ^ 16) ≡ a ∷ b ∷ c ∷ d ∷ []
cells a b c d l0 l1 l2 l3 =
    le_bytes_4 (a ∷ b ∷ c ∷ d ∷ []) (a + b * 2 ^ 8 + (c + d * 2 ^ 8) * 2 ^ 16) refl fits (omega arith)
  where
    fits : (i : ℕ) → get_or (a ∷ b ∷ c ∷ d ∷ []) i 0 < 256
    fits zero = l0
    fits (suc zero) = l1
    fits (suc (suc zero)) = l2
    fits (suc (suc (suc zero))) = l3
    fits (suc (suc (suc (suc i)))) = omega arith

pub bytes_again : (xs : List ℕ) → IsBytes xs → length xs % 4 ≡ 0 → flat_map entry_bytes (map number_entry (words xs)) ≡ xs
bytes_again [] fits whole = refl
bytes_again (a ∷ []) fits whole = absurd (omega arith)
bytes_again (a ∷ b ∷ []) fits whole = absurd (omega arith)
bytes_again (a ∷ b ∷ c ∷ []) fits whole = absurd (omega arith)
bytes_again (a ∷ b ∷ c ∷ d ∷ rest) fits whole =
    let n = a + b * 2 ^ 8 + (c + d * 2 ^ 8) * 2 ^ 16 in
    let front : entry_bytes (number_entry n) ≡ a ∷ b ∷ c ∷ d ∷ [] = ap (to_le_bytes w32) (entry_number-entry_of n) ∙ cells a b c d (fits 0) (fits 1) (fits 2) (fits 3) in
    ap (λ (x : List ℕ). x ++ flat_map entry_bytes (map number_entry (words rest))) front
    ∙ ap (λ (x : List ℕ). a ∷ b ∷ c ∷ d ∷ x) (bytes_again rest (λ i. fits (suc (suc (suc (suc i))))) (omega arith))

-- each number fits 32 bits
pub words_fit : (xs : List ℕ) → IsBytes xs → (i : ℕ) → get_or (words xs) i 0 < 2 ^ 32
words_fit [] fits i = omega arith
words_fit (a ∷ []) fits i = omega arith
words_fit (a ∷ b ∷ []) fits i = omega arith
words_fit (a ∷ b ∷ c ∷ []) fits i = omega arith
words_fit (a ∷ b ∷ c ∷ d ∷ rest) fits zero = omega (arith, fits 0, fits 1, fits 2, fits 3)
words_fit (a ∷ b ∷ c ∷ d ∷ rest) fits (suc i) = words_fit rest (λ k. fits (suc (suc (suc (suc k))))) i

-- as many are used
abbrev none : Option ℕ
none = None

is_used : (b : Bool) (n : ℕ) → is_some (cond b none (Some n)) ≡ not b
is_used true n = refl
is_used false n = refl

pub used_again : (ns : List ℕ) → count_by is_some (map number_entry ns) ≡ count_by (λ n. not (n == unused)) ns
used_again [] = refl
used_again (n ∷ ns) =
    let f : Option ℕ → ℕ = λ e. cond (is_some e) 1 0 in
    let g : ℕ → ℕ = λ k. cond (not (k == unused)) 1 0 in
    sum_by-cons f (number_entry n) (map number_entry ns)
    ∙ ap (λ (b : Bool). cond b 1 0 + count_by is_some (map number_entry ns)) (is_used (eqb n unused) n)
    ∙ ap (λ (k : ℕ). g n + k) (used_again ns)
    ∙ sym (sum_by-cons g n ns)

pub used_numbers : (es : List (Option ℕ)) → AllByRecursion (λ e. IfSome e (λ n. n < unused)) es → count_by (λ n. not (n == unused)) (map entry_number es) ≡ count_by is_some es
used_numbers es all = sym (used_again (map entry_number es)) ∙ ap (count_by is_some) (entries_again es all)

-- ---- the file set and the root

-- an entry that is there is used where its number is
pub entry_there : (ns : List ℕ) (i : ℕ) → i < length ns → get_or ns i 0 ≢ unused → slice_get (map number_entry ns) i ≡ Some (Some (get_or ns i 0))
entry_there ns i lt other = slice_get-map number_entry ns i ∙ ap (option_map number_entry) (slice_get-get_or ns i 0 lt) ∙ ap whole (entry_of-used (get_or ns i 0) other)

pub number_there : (es : List (Option ℕ)) (i number : ℕ) → slice_get es i ≡ Some (Some number) → get_or (map entry_number es) i 0 ≡ number
number_there [] i number e = absurd cc
number_there (x ∷ es) zero number e = ap entry_number (inner x number e)
  where
    inner : (x : Option ℕ) (number : ℕ) → whole x ≡ whole (Some number) → x ≡ Some number
    inner x number e = cc
number_there (x ∷ es) (suc i) number e = number_there es i number e
