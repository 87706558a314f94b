-- Loops over the characters of a text.
use Rattle.std.proofs.Common.{◌≡◌, ℕ, ◌+◌, ◌-◌, ◌*◌, ◌/◌, ◌%◌, ◌^◌, ◌<◌, ◌≤◌, Bool, true, suc, zero, List, [], ◌∷◌, ◌++◌, length, get_or, take, drop, set, refl, sym, ap, ◌∙◌, append_assoc, arith}
use Rattle.std.specs.List.{list_all, flat_map, enumerate_from}
use Rattle.std.proofs.lemmas.Bool.{and_parts, ltb-true}
use Rattle.std.proofs.lemmas.List.{take_at, take_more, take_more_set, length-append, length-take}
use Rattle.std.proofs.lemmas.List.Concat.{flat_map-append}
use Rattle.std.proofs.lemmas.List.FromFn.{length-enumerate_from, get_or-enumerate_from}
use Rattle.byteorder.specs.Endian.{big_bytes}
use Rattle.osta.specs.Compressed.{is_narrow, has_spelling, two_bytes}
use borrow.Rule.Slice.PartMut.{put_mid}

-- what each element passes, the one at an index passes
pub list_all_get : (p : ℕ → Bool) (cs : List ℕ) (n d : ℕ) → n < length cs → list_all p cs ≡ true → p (get_or cs n d) ≡ true
list_all_get p [] n d below all = absurd (omega arith)
list_all_get p (c ∷ cs) zero d below all = (and_parts (p c) (list_all p cs) all).0
list_all_get p (c ∷ cs) (suc n) d below all = list_all_get p cs n d (omega arith) (and_parts (p c) (list_all p cs) all).1

-- the first cell of a slice that was written there
pub first_cell : (into : List ℕ) (x : ℕ) → 0 < length into → take 1 (set into 0 x) ≡ x ∷ []
first_cell [] x some = absurd (omega arith)
first_cell (y ∷ into) x some = refl

-- one turn of a loop over the characters and their indices
pub record IsTurn (cs : List ℕ) (n at c : ℕ) : Type 0 where
  pub below : n < length cs
  pub index : at ≡ n
  pub character : c ≡ get_or cs n c

pub enumerate_turn : (cs : List ℕ) (n at c : ℕ) → (n < length (enumerate_from 0 cs)) × ((at, c) ≡ get_or (enumerate_from 0 cs) n (at, c)) → IsTurn cs n at c
enumerate_turn cs n at c turn =
    let inside : n < length cs = omega (arith, turn.0, length-enumerate_from 0 cs) in
    let same : (at, c) ≡ (0 + n, get_or cs n c) = turn.1 ∙ get_or-enumerate_from 0 cs n (at, c) inside in
    record {
      below = inside;
      index = omega (arith, ap (λ (p : ℕ × ℕ). p.0) same);
      character = ap (λ (p : ℕ × ℕ). p.1) same;
    }

pub turn_narrow : (cs : List ℕ) (n at c : ℕ) → IsTurn cs n at c → list_all is_narrow cs ≡ true → c < 256
turn_narrow cs n at c turn narrow =
    let small : get_or cs n c < 256 = ltb-true _ _ (list_all_get is_narrow cs n c turn.below narrow) in
    omega (arith, small, turn.character)

pub turn_spelled : (cs : List ℕ) (n at c : ℕ) → IsTurn cs n at c → list_all has_spelling cs ≡ true → c < 65536
turn_spelled cs n at c turn spelled =
    let small : get_or cs n c < 65536 = ltb-true _ _ (and_parts _ _ (list_all_get has_spelling cs n c turn.below spelled)).0 in
    omega (arith, small, turn.character)

pub narrow_step : (cs into : List ℕ) (n at c : ℕ) → IsTurn cs n at c → n + 1 < length into → take (n + 1) into ≡ 8 ∷ take n cs → take (n + 1 + 1) (set into (at + 1) c) ≡ 8 ∷ take (n + 1) cs
narrow_step cs into n at c turn room before =
    ap (λ (k : ℕ). take (n + 1 + 1) (set into (k + 1) c)) turn.index
    ∙ (take_more_set into (n + 1) c room
    ∙ (ap (λ (xs : List ℕ). xs ++ c ∷ []) before
    ∙ (ap (λ (x : ℕ). (8 ∷ take n cs) ++ x ∷ []) turn.character
    ∙ ap (λ (xs : List ℕ). 8 ∷ xs) (sym (take_more cs n c turn.below)))))

-- what two bytes that were written over the beginning of a part make of the whole
abbrev pub IsPair : ℕ → ℕ → List ℕ → List ℕ → Type 0
IsPair m c into written = written ≡ big_bytes 2 c ++ drop 2 (take (length into - m) (drop m into))

-- a character of 16 bits that was written from a place on
pair_put : (into written : List ℕ) (m c : ℕ) → m ≤ length into → c < 65536 → IsPair m c into written
    → take (m + 2) (put_mid m (length into - m) into written) ≡ take m into ++ two_bytes c
pair_put into written m c room small put =
    let high : c / 256 ^ 1 % 256 ≡ c / 256 = omega arith in
    let rest = drop 2 (take (length into - m) (drop m into)) in
    let after = drop (length into - m) (drop m into) in
    let pair : written ≡ two_bytes c ++ rest = put ∙ ap (λ (h : ℕ). h ∷ c % 256 ∷ rest) high in
    let whole : put_mid m (length into - m) into written ≡ (take m into ++ two_bytes c) ++ (rest ++ after) =
    ap (λ (xs : List ℕ). take m into ++ (xs ++ after)) pair ∙ sym (append_assoc (take m into) (two_bytes c) (rest ++ after)) in
    ap (take (m + 2)) whole
    ∙ take_at (take m into ++ two_bytes c) (rest ++ after) (m + 2) (omega (arith, length-append (take m into) (two_bytes c), length-take m into))

pub wide_step : (cs into written : List ℕ) (n at c : ℕ) → IsTurn cs n at c → c < 65536 → 2 * n + 1 ≤ length into → IsPair (2 * at + 1) c into written
    → take (2 * n + 1) into ≡ 16 ∷ flat_map two_bytes (take n cs)
    → take (2 * (n + 1) + 1) (put_mid (2 * at + 1) (length into - (2 * at + 1)) into written) ≡ 16 ∷ flat_map two_bytes (take (n + 1) cs)
wide_step cs into written n at c turn small room put before =
    let from : 2 * at + 1 ≡ 2 * n + 1 = omega (arith, turn.index) in
    let end : 2 * (n + 1) + 1 ≡ 2 * n + 1 + 2 = omega arith in
    ap (λ (m : ℕ). take m (put_mid (2 * at + 1) (length into - (2 * at + 1)) into written)) end
    ∙ (ap (λ (m : ℕ). take (2 * n + 1 + 2) (put_mid m (length into - m) into written)) from
    ∙ (pair_put into written (2 * n + 1) c room small (put ∙ ap (λ (m : ℕ). big_bytes 2 c ++ drop 2 (take (length into - m) (drop m into))) from)
    ∙ (ap (λ (xs : List ℕ). xs ++ two_bytes c) before
    ∙ (ap (λ (x : ℕ). (16 ∷ flat_map two_bytes (take n cs)) ++ two_bytes x) turn.character
    ∙ ap (λ (xs : List ℕ). 16 ∷ xs) (sym (ap (flat_map two_bytes) (take_more cs n c turn.below) ∙ flat_map-append two_bytes (take n cs) (get_or cs n c ∷ [])))))))

pub widen_step : (bs into written : List ℕ) (n b : ℕ) → n < length bs → b ≡ get_or bs n 0 → get_or bs n 0 < 128 → 2 * n ≤ length into → IsPair (2 * n) b into written
    → take (2 * n) into ≡ flat_map two_bytes (take n bs)
    → take (2 * (n + 1)) (put_mid (2 * n) (length into - 2 * n) into written) ≡ flat_map two_bytes (take (n + 1) bs)
widen_step bs into written n b below is ascii room put before =
    let end : 2 * (n + 1) ≡ 2 * n + 2 = omega arith in
    ap (λ (m : ℕ). take m (put_mid (2 * n) (length into - 2 * n) into written)) end
    ∙ (pair_put into written (2 * n) b room (omega (arith, ascii)) put
    ∙ (ap (λ (xs : List ℕ). xs ++ two_bytes b) before
    ∙ (ap (λ (x : ℕ). flat_map two_bytes (take n bs) ++ two_bytes x) is
    ∙ sym (ap (flat_map two_bytes) (take_more bs n 0 below) ∙ flat_map-append two_bytes (take n bs) (get_or bs n 0 ∷ [])))))
