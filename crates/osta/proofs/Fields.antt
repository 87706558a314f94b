-- Fields that hold a spelling, zeros, and the count of the spelling's bytes.
use Rattle.std.proofs.Common.{◌≡◌, ℕ, ◌+◌, ◌-◌, ◌<◌, ◌≤◌, true, ◌==◌, zero, suc, List, [], ◌∷◌, ◌++◌, length, get_or, take, drop, set, replicate, None, refl, sym, ap, ◌∙◌, ⊎_elim, append_assoc, arith}
use Rattle.std.specs.List.{list_all}
use Rattle.std.proofs.lemmas.Bool.{and_parts, cases_lt, eqb-true, leb-true, le-leb}
use Rattle.std.proofs.lemmas.List.{length-append, length-replicate, length-take-le, length-drop, take-append-drop, take_at, drop_at, drop-drop, drop_more, drop_all, get_or_at, get_or-take, get_or_past, length-take, set-append_right, set_at, replicate_more, drop-replicate}
use borrow.Rule.Slice.PartMut.{put_mid}
use Rattle.osta.specs.FirstFault.{first_text_fault}
use Rattle.osta.specs.Compressed.{compressed, expanded, spelling_faults, Named}
use Rattle.osta.specs.Dstring.{field_of, Dstring, dstring_count, dstring_spelling, dstring_faults}
use Rattle.osta.specs.Label.{dstring_text}
use Rattle.osta.proofs.Rows.{all_hold, faultless}
use Rattle.osta.proofs.Texts.{Named-expanded, faultless_from_Named, expanded_from_Named}

-- ---- zeros
zeros_are : (xs : List ℕ) → list_all (λ b. b == 0) xs ≡ true → xs ≡ replicate (length xs) 0
zeros_are [] all = refl
zeros_are (x ∷ xs) all =
    let parts = and_parts (x == 0) (list_all (λ b. b == 0) xs) all in
    ap (λ (y : ℕ). y ∷ xs) (eqb-true x 0 parts.0) ∙ ap (λ (ys : List ℕ). 0 ∷ ys) (zeros_are xs parts.1)

all_zeros : (n : ℕ) → list_all (λ b. b == 0) (replicate n 0) ≡ true
all_zeros zero = refl
all_zeros (suc n) = all_zeros n

-- ---- what was written: zeros, the spelling first, its count at the end
last_set : (k x : ℕ) → set (replicate (k + 1) 0) k x ≡ replicate k 0 ++ x ∷ []
last_set k x =
    ap (λ (xs : List ℕ). set xs k x) (sym (replicate_more k 0)) ∙ set_at (replicate k 0) 0 [] x k (length-replicate k 0)

pub written : (n last : ℕ) (s : List ℕ) → n ≡ last + 1 → length s < n → set (s ++ drop (length s) (replicate n 0)) last (length s) ≡ field_of n s
written n last s size room =
    let k : ℕ = last - length s in
    let rest : drop (length s) (replicate {A = ℕ} n 0) ≡ replicate {A = ℕ} (k + 1) 0 =
    drop-replicate (length s) n 0 ∙ ap (λ (m : ℕ). replicate m 0) (omega arith) in
    let here : n - 1 - length s ≡ k = omega arith in
    ap (λ (xs : List ℕ). set (s ++ xs) last (length s)) rest
    ∙ (set-append_right s (replicate (k + 1) 0) (length s) last (length s) refl (omega arith)
    ∙ (ap (λ (xs : List ℕ). s ++ xs) (last_set k (length s))
    ∙ ap (λ (m : ℕ). s ++ (replicate m 0 ++ (length s ∷ []))) (sym here)))

pub written_over : (n last count : ℕ) (s front zeros : List ℕ) → front ≡ s → zeros ≡ replicate n 0 → count ≡ length s → n ≡ last + 1 → length s < n → set (front ++ drop count zeros) last count ≡ field_of n s
written_over n last count s front zeros in_front cleared counted size room =
    ap (λ (xs : List ℕ). set (xs ++ drop count zeros) last count) in_front
    ∙ (ap (λ (xs : List ℕ). set (s ++ drop count xs) last count) cleared
    ∙ (ap (λ (k : ℕ). set (s ++ drop k (replicate n 0)) last k) counted
    ∙ written n last s size room))

-- the same where the spelling was copied in three parts
joined : (n id : ℕ) (front back : List ℕ) → length front + length back + 1 < n
    → put_mid (1 + length front) (1 + length front + length back - (1 + length front)) (put_mid 1 (1 + length front - 1) (set (replicate n 0) 0 id) front) back
    ≡ (id ∷ (front ++ back)) ++ drop (length (id ∷ (front ++ back))) (replicate n 0)
joined zero id front back room = absurd (omega arith)
joined (suc m) id front back room =
    let zeros : List ℕ = replicate m 0 in
    let k = 1 + length front - 1 in
    let j = 1 + length front + length back - (1 + length front) in
    let first : List ℕ = id ∷ front in
    let rest : List ℕ = drop k zeros in
    let size : k + j ≡ length (front ++ back) = omega (arith, length-append front back) in
    ap (λ (xs : List ℕ). xs ++ (back ++ drop j (drop (1 + length front) (first ++ rest)))) (take_at first rest (1 + length front) (omega arith))
    ∙ (ap (λ (xs : List ℕ). first ++ (back ++ drop j xs)) (drop_at first rest (1 + length front) (omega arith))
    ∙ (ap (λ (xs : List ℕ). first ++ (back ++ xs)) (drop-drop j k zeros ∙ ap (λ (i : ℕ). drop i zeros) size)
    ∙ ap (λ (xs : List ℕ). id ∷ xs) (sym (append_assoc front back (drop (length (front ++ back)) zeros)))))

pub joined_over : (n last id : ℕ) (front back fs bs zeros : List ℕ) → fs ≡ front → bs ≡ back → zeros ≡ replicate n 0 → n ≡ last + 1 → length front + length back + 1 < n
    → set (put_mid (1 + length front) (1 + length front + length back - (1 + length front)) (put_mid 1 (1 + length front - 1) (set zeros 0 id) fs) bs) last (1 + length front + length back) ≡ field_of n (id ∷ (front ++ back))
joined_over n last id front back fs bs zeros in_front after cleared size room =
    let s = id ∷ (front ++ back) in
    let a = 1 + length front in
    let j = 1 + length front + length back - (1 + length front) in
    let k = 1 + length front - 1 in
    let count : 1 + length front + length back ≡ length s = omega (arith, length-append front back) in
    ap (λ (xs : List ℕ). set (put_mid a j (put_mid 1 k (set xs 0 id) fs) bs) last (1 + length front + length back)) cleared
    ∙ (ap (λ (xs : List ℕ). set (put_mid a j (put_mid 1 k (set (replicate n 0) 0 id) xs) bs) last (1 + length front + length back)) in_front
    ∙ (ap (λ (xs : List ℕ). set (put_mid a j (put_mid 1 k (set (replicate n 0) 0 id) front) xs) last (1 + length front + length back)) after
    ∙ (ap (λ (xs : List ℕ). set xs last (1 + length front + length back)) (joined n id front back room)
    ∙ (ap (λ (m : ℕ). set (s ++ drop (length s) (replicate n 0)) last m) count
    ∙ written n last s size (omega (arith, length-append front back, room))))))

-- ---- what a field holds
pub length-field_of : (n : ℕ) (s : List ℕ) → length s < n → length (field_of n s) ≡ n
length-field_of n s room =
    omega (arith, length-append s (replicate (n - 1 - length s) 0 ++ (length s ∷ [])), length-append (replicate (n - 1 - length s) 0) (length s ∷ []), length-replicate {A = ℕ} (n - 1 - length s) 0)

count_of : (n : ℕ) (s : List ℕ) → length s < n → get_or (field_of n s) (n - 1) 0 ≡ length s
count_of n s room =
    let zeros : List ℕ = replicate (n - 1 - length s) 0 in
    ap (λ (xs : List ℕ). get_or xs (n - 1) 0) (sym (append_assoc s zeros (length s ∷ [])))
    ∙ get_or_at (s ++ zeros) (length s) [] 0 (n - 1) (omega (arith, length-append s zeros, length-replicate {A = ℕ} (n - 1 - length s) 0))

pub dstring_count-field_of : (n : ℕ) (s : List ℕ) → length s < n → dstring_count (field_of n s) ≡ length s
dstring_count-field_of n s room =
    ap (λ (m : ℕ). get_or (field_of n s) (m - 1) 0) (length-field_of n s room) ∙ count_of n s room

pub dstring_spelling-field_of : (n : ℕ) (s : List ℕ) → length s < n → dstring_spelling (field_of n s) ≡ s
dstring_spelling-field_of n s room =
    ap (λ (m : ℕ). take m (field_of n s)) (dstring_count-field_of n s room) ∙ take_at s _ (length s) refl

pub fits_front : (xs : List ℕ) (n : ℕ) → ((i : ℕ) → get_or xs i 0 < 256) → (i : ℕ) → get_or (take n xs) i 0 < 256
fits_front xs n fits i =
    ⊎_elim
    (λ inside. omega (arith, fits i, get_or-take n xs i 0 inside))
    (λ outside. omega (arith, get_or_past (take n xs) i 0 (omega (arith, length-take n xs))))
    (cases_lt i n)

-- a field without a fault holds its spelling
pub field_from_faultless : (field : List ℕ) → 0 < length field → first_text_fault (dstring_faults field) ≡ None → (dstring_count field < length field) × (field ≡ field_of (length field) (dstring_spelling field)) × (first_text_fault (spelling_faults (dstring_spelling field)) ≡ None)
field_from_faultless field some none =
    let n = length field in
    let count = dstring_count field in
    let hold = all_hold (dstring_faults field) none in
    let inside : count ≤ n - 1 = leb-true count (n - 1) hold.0 in
    let s = take count field in
    let len : length s ≡ count = length-take-le count field (omega arith) in
    let middle = take (n - 1 - count) (drop count field) in
    let middle_len : length middle ≡ n - 1 - count = length-take-le (n - 1 - count) (drop count field) (omega (arith, length-drop count field)) in
    let middle_is : middle ≡ replicate (n - 1 - length s) 0 =
    zeros_are middle hold.1.0 ∙ ap (λ (m : ℕ). replicate m 0) (omega (arith, middle_len, len)) in
    let at_last : count + (n - 1 - count) ≡ n - 1 = omega arith in
    let end : drop (n - 1 - count) (drop count field) ≡ length s ∷ [] =
    drop-drop (n - 1 - count) count field
    ∙ (ap (λ (m : ℕ). drop m field) at_last
    ∙ (drop_more field (n - 1) 0 (omega arith)
    ∙ (ap (λ (xs : List ℕ). count ∷ xs) (drop_all (n - 1 + 1) field (omega arith))
    ∙ ap (λ (m : ℕ). m ∷ []) (sym len)))) in (
      omega arith,
      sym (take-append-drop count field)
          ∙ ap (λ (xs : List ℕ). s ++ xs) (sym (take-append-drop (n - 1 - count) (drop count field)) ∙ (ap (λ (xs : List ℕ). xs ++ drop (n - 1 - count) (drop count field)) middle_is ∙ ap (λ (xs : List ℕ). replicate (n - 1 - length s) 0 ++ xs) end)),
      faultless (spelling_faults s) hold.1.1,
    )

pub faultless_from_field : (n : ℕ) (s : List ℕ) → length s < n → first_text_fault (spelling_faults s) ≡ None → first_text_fault (dstring_faults (field_of n s)) ≡ None
faultless_from_field n s room none =
    let field = field_of n s in
    let zeros : List ℕ = replicate (n - 1 - length s) 0 in
    let size = length-field_of n s room in
    let count = dstring_count-field_of n s room in
    let inside : dstring_count field ≤ length field - 1 = omega (arith, size, count) in
    let after : drop (dstring_count field) field ≡ zeros ++ (length s ∷ []) = ap (λ (m : ℕ). drop m field) count ∙ drop_at s _ (length s) refl in
    let between : take (length field - 1 - dstring_count field) (drop (dstring_count field) field) ≡ zeros =
    ap (take (length field - 1 - dstring_count field)) after ∙ take_at zeros (length s ∷ []) _ (omega (arith, size, count, length-replicate {A = ℕ} (n - 1 - length s) 0)) in
    faultless (dstring_faults field) (
      le-leb _ _ inside,
      (
        ap (list_all (λ b. b == 0)) between ∙ all_zeros (n - 1 - length s),
        all_hold (spelling_faults (dstring_spelling field)) (ap (λ (xs : List ℕ). first_text_fault (spelling_faults xs)) (dstring_spelling-field_of n s room) ∙ none),
      ),
    )

-- ---- dstrings
pub Dstring-named : (text field : List ℕ) (n : ℕ) → Dstring text n field → Named text (compressed text)
Dstring-named text field n told = record { utf8 = told.utf8; spellable = told.spellable; spelled = refl }

-- what is read is a dstring
pub Dstring-from_faultless : (field : List ℕ) → ((i : ℕ) → get_or field i 0 < 256) → 0 < length field → first_text_fault (dstring_faults field) ≡ None → Dstring (dstring_text field) (length field) field
Dstring-from_faultless field fits some none =
    let told = field_from_faultless field some none in
    let s = dstring_spelling field in
    let named = Named-expanded s (fits_front field (dstring_count field) fits) told.2 in
    let len : length s ≡ dstring_count field = length-take-le (dstring_count field) field (omega (arith, told.0)) in
    record {
      utf8 = named.utf8;
      spellable = named.spellable;
      room = omega (arith, told.0, len, ap length named.spelled);
      spelled = told.1 ∙ ap (field_of (length field)) named.spelled;
    }

-- a dstring has no fault, and gives its text
pub faultless_from_Dstring : (text field : List ℕ) (n : ℕ) → Dstring text n field → first_text_fault (dstring_faults field) ≡ None
faultless_from_Dstring text field n told =
    ap (λ (xs : List ℕ). first_text_fault (dstring_faults xs)) told.spelled
    ∙ faultless_from_field n (compressed text) told.room (faultless_from_Named text (compressed text) (Dstring-named text field n told))

pub spelling_from_Dstring : (text field : List ℕ) (n : ℕ) → Dstring text n field → dstring_spelling field ≡ compressed text
spelling_from_Dstring text field n told = ap dstring_spelling told.spelled ∙ dstring_spelling-field_of n (compressed text) told.room

pub text_from_Dstring : (text field : List ℕ) (n : ℕ) → Dstring text n field → dstring_text field ≡ text
text_from_Dstring text field n told =
    ap expanded (spelling_from_Dstring text field n told) ∙ expanded_from_Named text (compressed text) (Dstring-named text field n told)
