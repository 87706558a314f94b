-- The remainder with four, eight or sixteen bytes more.
use Rattle.std.proofs.Common.{◌≡◌, ℕ, zero, suc, ◌+◌, ◌*◌, ◌/◌, ◌%◌, ◌^◌, ◌<◌, ◌≤◌, ◌-◌, Bool, true, eqb, List, [], ◌∷◌, ◌++◌, length, drop, get_or, refl, sym, ap, subst, ◌∙◌, append_assoc, add-one, inl, inr, arith}
use Rattle.std.proofs.lemmas.Bool.{cases_lt, eqb-true}
use Rattle.std.proofs.Math.Nat.{pow-suc}
use Rattle.std.proofs.Math.Seq.{drop-cons}
use Rattle.std.proofs.lemmas.List.{append-nil}
use Rattle.std.proofs.lemmas.List.Sums.{fold-append, fold_push}
use Rattle.std.specs.Int.Bits.{xor_shr, xor_lt, xor_shifted}
use Rattle.std.proofs.lemmas.Nat.{xor_mod}
use Rattle.byteorder.specs.Endian.{big_number}
use Rattle.ecma.specs.Crc.{◌⊕◌, times_generator, IsRemainder, IsCrc, polynomial}
use Rattle.ecma.proofs.Polynomials.{shift, middle, times_generator-sum}
use Rattle.ecma.proofs.Remainders.{IsRemainder-step, holds_below, one_below}

-- ---- the quotients of eight and of sixteen bytes, once they begin at x^16

abbrev pub by_eighth : ℕ → ℕ
by_eighth t = t ⊕ t / 2 ^ 32

abbrev pub by_fourth : ℕ → ℕ
by_fourth t = t ⊕ (t / 2 ^ 16 ⊕ t / 2 ^ 44)

abbrev pub by_second : ℕ → ℕ
by_second t = (t ⊕ t / 2 ^ 8) ⊕ (t / 2 ^ 22 ⊕ t / 2 ^ 32)

abbrev pub by_first : ℕ → ℕ
by_first t = (t ⊕ t / 2 ^ 4) ⊕ (t / 2 ^ 11 ⊕ t / 2 ^ 16)

abbrev pub word_quotient : ℕ → ℕ
word_quotient t = by_first (by_second (by_fourth (by_eighth t)))

abbrev pub by_sixteenth : ℕ → ℕ
by_sixteenth t = t ⊕ t / 2 ^ 64

abbrev pub wide_eighth : ℕ → ℕ
wide_eighth t = t ⊕ (t / 2 ^ 32 ⊕ t / 2 ^ 88)

abbrev pub wide_fourth : ℕ → ℕ
wide_fourth t = (t ⊕ t / 2 ^ 16) ⊕ (t / 2 ^ 44 ⊕ t / 2 ^ 64)

abbrev pub pair_quotient : ℕ → ℕ
pair_quotient t = by_first (by_second (wide_fourth (wide_eighth (by_sixteenth t))))

-- and the rest of a quotient, as the shifts of a number of 16 bits give it
abbrev pub low_rest : ℕ → ℕ
low_rest low = (low ⊕ low * 2 ^ 5 % 2 ^ 16) ⊕ low * 2 ^ 12 % 2 ^ 16

abbrev pub word_rest : ℕ → ℕ
word_rest q = low_rest (q % 2 ^ 16)

-- ---- each is that of a sum by summands

pub shr : (k a b : ℕ) → (a ⊕ b) / 2 ^ k ≡ a / 2 ^ k ⊕ b / 2 ^ k
shr k a b = xor_shr a b k

pub pair : (f g : ℕ → ℕ) (a b : ℕ) → f (a ⊕ b) ≡ f a ⊕ f b → g (a ⊕ b) ≡ g a ⊕ g b → f (a ⊕ b) ⊕ g (a ⊕ b) ≡ (f a ⊕ g a) ⊕ (f b ⊕ g b)
pair f g a b e1 e2 = ap (λ (x : ℕ). x ⊕ g (a ⊕ b)) e1 ∙ ap (λ (x : ℕ). (f a ⊕ f b) ⊕ x) e2 ∙ middle (f a) (f b) (g a) (g b)

by_eighth-sum : (a b : ℕ) → by_eighth (a ⊕ b) ≡ by_eighth a ⊕ by_eighth b
by_eighth-sum a b = pair (λ t. t) (λ t. t / 2 ^ 32) a b refl (shr 32 a b)

by_fourth-sum : (a b : ℕ) → by_fourth (a ⊕ b) ≡ by_fourth a ⊕ by_fourth b
by_fourth-sum a b = pair (λ t. t) (λ t. t / 2 ^ 16 ⊕ t / 2 ^ 44) a b refl (pair (λ t. t / 2 ^ 16) (λ t. t / 2 ^ 44) a b (shr 16 a b) (shr 44 a b))

pub by_second-sum : (a b : ℕ) → by_second (a ⊕ b) ≡ by_second a ⊕ by_second b
by_second-sum a b =
    pair (λ t. t ⊕ t / 2 ^ 8) (λ t. t / 2 ^ 22 ⊕ t / 2 ^ 32) a b
    (pair (λ t. t) (λ t. t / 2 ^ 8) a b refl (shr 8 a b)) (pair (λ t. t / 2 ^ 22) (λ t. t / 2 ^ 32) a b (shr 22 a b) (shr 32 a b))

pub by_first-sum : (a b : ℕ) → by_first (a ⊕ b) ≡ by_first a ⊕ by_first b
by_first-sum a b =
    pair (λ t. t ⊕ t / 2 ^ 4) (λ t. t / 2 ^ 11 ⊕ t / 2 ^ 16) a b
    (pair (λ t. t) (λ t. t / 2 ^ 4) a b refl (shr 4 a b)) (pair (λ t. t / 2 ^ 11) (λ t. t / 2 ^ 16) a b (shr 11 a b) (shr 16 a b))

word_quotient-sum : (a b : ℕ) → word_quotient (a ⊕ b) ≡ word_quotient a ⊕ word_quotient b
word_quotient-sum a b =
    ap (λ (x : ℕ). by_first (by_second (by_fourth x))) (by_eighth-sum a b)
    ∙ ap (λ (x : ℕ). by_first (by_second x)) (by_fourth-sum (by_eighth a) (by_eighth b))
    ∙ ap by_first (by_second-sum (by_fourth (by_eighth a)) (by_fourth (by_eighth b)))
    ∙ by_first-sum (by_second (by_fourth (by_eighth a))) (by_second (by_fourth (by_eighth b)))

pub by_sixteenth-sum : (a b : ℕ) → by_sixteenth (a ⊕ b) ≡ by_sixteenth a ⊕ by_sixteenth b
by_sixteenth-sum a b = pair (λ t. t) (λ t. t / 2 ^ 64) a b refl (shr 64 a b)

wide_eighth-sum : (a b : ℕ) → wide_eighth (a ⊕ b) ≡ wide_eighth a ⊕ wide_eighth b
wide_eighth-sum a b = pair (λ t. t) (λ t. t / 2 ^ 32 ⊕ t / 2 ^ 88) a b refl (pair (λ t. t / 2 ^ 32) (λ t. t / 2 ^ 88) a b (shr 32 a b) (shr 88 a b))

pub wide_fourth-sum : (a b : ℕ) → wide_fourth (a ⊕ b) ≡ wide_fourth a ⊕ wide_fourth b
wide_fourth-sum a b =
    pair (λ t. t ⊕ t / 2 ^ 16) (λ t. t / 2 ^ 44 ⊕ t / 2 ^ 64) a b
    (pair (λ t. t) (λ t. t / 2 ^ 16) a b refl (shr 16 a b)) (pair (λ t. t / 2 ^ 44) (λ t. t / 2 ^ 64) a b (shr 44 a b) (shr 64 a b))

pair_quotient-sum : (a b : ℕ) → pair_quotient (a ⊕ b) ≡ pair_quotient a ⊕ pair_quotient b
pair_quotient-sum a b =
    ap (λ (x : ℕ). by_first (by_second (wide_fourth (wide_eighth x)))) (by_sixteenth-sum a b)
    ∙ ap (λ (x : ℕ). by_first (by_second (wide_fourth x))) (wide_eighth-sum (by_sixteenth a) (by_sixteenth b))
    ∙ ap (λ (x : ℕ). by_first (by_second x)) (wide_fourth-sum (wide_eighth (by_sixteenth a)) (wide_eighth (by_sixteenth b)))
    ∙ ap by_first (by_second-sum (wide_fourth (wide_eighth (by_sixteenth a))) (wide_fourth (wide_eighth (by_sixteenth b))))
    ∙ by_first-sum (by_second (wide_fourth (wide_eighth (by_sixteenth a)))) (by_second (wide_fourth (wide_eighth (by_sixteenth b))))

cut_shift : (k a b : ℕ) → (a ⊕ b) * 2 ^ k % 2 ^ 16 ≡ a * 2 ^ k % 2 ^ 16 ⊕ b * 2 ^ k % 2 ^ 16
cut_shift k a b = ap (λ (x : ℕ). x % 2 ^ 16) (shift k a b) ∙ xor_mod (a * 2 ^ k) (b * 2 ^ k) 16

low_rest-sum : (a b : ℕ) → low_rest (a ⊕ b) ≡ low_rest a ⊕ low_rest b
low_rest-sum a b =
    pair (λ t. t ⊕ t * 2 ^ 5 % 2 ^ 16) (λ t. t * 2 ^ 12 % 2 ^ 16) a b
    (pair (λ t. t) (λ t. t * 2 ^ 5 % 2 ^ 16) a b refl (cut_shift 5 a b)) (cut_shift 12 a b)

pub word_rest-sum : (a b : ℕ) → word_rest (a ⊕ b) ≡ word_rest a ⊕ word_rest b
word_rest-sum a b = ap low_rest (xor_mod a b 16) ∙ low_rest-sum (a % 2 ^ 16) (b % 2 ^ 16)

-- ---- so each is settled by its single terms

-- what a quotient and a rest stand for
abbrev pub product : (quotient rest : ℕ → ℕ) → ℕ → ℕ
product quotient rest t = times_generator (quotient t) ⊕ rest t

abbrev pub IsLinear : (ℕ → ℕ) → Type 0
IsLinear f = (a b : ℕ) → f (a ⊕ b) ≡ f a ⊕ f b

product-sum : (quotient rest : ℕ → ℕ) → IsLinear quotient → IsLinear rest → IsLinear (product quotient rest)
product-sum quotient rest linear rest-linear a b =
    pair (λ t. times_generator (quotient t)) rest a b (ap times_generator (linear a b) ∙ times_generator-sum (quotient a) (quotient b)) (rest-linear a b)

abbrev pub is_reduced : (quotient rest : ℕ → ℕ) → ℕ → Bool
is_reduced quotient rest k = eqb (2 ^ k * 2 ^ 16) (product quotient rest (2 ^ k))

abbrev word_reduced : ℕ → ℕ
word_reduced t = word_rest (word_quotient t)

abbrev pair_reduced : ℕ → ℕ
pair_reduced t = word_rest (pair_quotient t)

word_reduced-sum : IsLinear word_reduced
word_reduced-sum a b = ap word_rest (word_quotient-sum a b) ∙ word_rest-sum (word_quotient a) (word_quotient b)

pair_reduced-sum : IsLinear pair_reduced
pair_reduced-sum a b = ap word_rest (pair_quotient-sum a b) ∙ word_rest-sum (pair_quotient a) (pair_quotient b)

words_reduced : holds_below (is_reduced word_quotient word_reduced) 64 ≡ true
words_reduced = refl

pairs_reduced : holds_below (is_reduced pair_quotient pair_reduced) 128 ≡ true
pairs_reduced = refl

top_term : (n t : ℕ) → 2 ^ n ≤ t → t < 2 ^ n * 2 → 2 ^ n ⊕ (t - 2 ^ n) ≡ t
top_term n t low high =
    let one : 1 * 2 ^ n ≡ 2 ^ n = omega arith in
    let joined = rw one at (xor_shifted 1 n (t - 2 ^ n) (omega arith)) in
    omega (arith, joined)

pub reduced_below : (quotient rest : ℕ → ℕ) (count n t : ℕ) → IsLinear quotient → IsLinear rest → product quotient rest 0 ≡ 0
    → holds_below (is_reduced quotient rest) count ≡ true → n ≤ count → t < 2 ^ n → t * 2 ^ 16 ≡ product quotient rest t
reduced_below quotient rest count zero t linear rest-linear nothing all le lt =
    let none : t ≡ 0 = omega arith in
    rw none (sym nothing)
reduced_below quotient rest count (suc n) t linear rest-linear nothing all le lt =
    let twice : 2 ^ suc n ≡ 2 ^ n * 2 = pow-suc 2 n in
    let below = λ (x : ℕ) (less : x < 2 ^ n). reduced_below quotient rest count n x linear rest-linear nothing all (omega arith) less in
    elim (cases_lt t (2 ^ n)) [
      | inl less ↦ below t less
      | inr more ↦
          let low = t - 2 ^ n in
          let whole : 2 ^ n ⊕ low ≡ t = top_term n t more (omega arith) in
          let term : 2 ^ n * 2 ^ 16 ≡ product quotient rest (2 ^ n) = eqb-true _ _ (one_below (is_reduced quotient rest) count n all (omega arith)) in
          ap (λ (x : ℕ). x * 2 ^ 16) (sym whole) ∙ shift 16 (2 ^ n) low ∙ ap (λ (x : ℕ). x ⊕ low * 2 ^ 16) term
          ∙ ap (λ (x : ℕ). product quotient rest (2 ^ n) ⊕ x) (below low (omega arith))
          ∙ sym (product-sum quotient rest linear rest-linear (2 ^ n) low) ∙ ap (product quotient rest) whole
    ]

pub low_rest-lt : (low : ℕ) → low < 2 ^ 16 → low_rest low < 2 ^ 16
low_rest-lt low lt = xor_lt 16 (low ⊕ low * 2 ^ 5 % 2 ^ 16) (low * 2 ^ 12 % 2 ^ 16) (xor_lt 16 low (low * 2 ^ 5 % 2 ^ 16) lt (omega arith)) (omega arith)

-- the remainder of as many bits as a word or a pair has, as shifts of these and then of 16 give it
pub IsRemainder-word : (t : ℕ) → t < 2 ^ 64 → IsRemainder t (word_rest (word_quotient t))
IsRemainder-word t fits = record {
  below = low_rest-lt (word_quotient t % 2 ^ 16) (omega arith);
  divides = (word_quotient t, reduced_below word_quotient word_reduced 64 64 t word_quotient-sum word_reduced-sum refl words_reduced (omega arith) fits);
}

pub IsRemainder-pair : (t : ℕ) → t < 2 ^ 128 → IsRemainder t (word_rest (pair_quotient t))
IsRemainder-pair t fits = record {
  below = low_rest-lt (pair_quotient t % 2 ^ 16) (omega arith);
  divides = (pair_quotient t, reduced_below pair_quotient pair_reduced 128 128 t pair_quotient-sum pair_reduced-sum refl pairs_reduced (omega arith) fits);
}

-- and that of a polynomial with more terms, by the one of its remainder with them
pub more_terms : (j k p r new s : ℕ) → r * 2 ^ k ≡ r * 2 ^ j * 2 ^ 16 → (p * 2 ^ k + new) * 2 ^ 16 ≡ p * 2 ^ 16 * 2 ^ k ⊕ new * 2 ^ 16
    → IsRemainder p r → IsRemainder (r * 2 ^ j ⊕ new) s → IsRemainder (p * 2 ^ k + new) s
more_terms j k p r new s moved joined before reduced =
    IsRemainder-step k p r new reduced.divides.0 s joined (ap (λ (x : ℕ). x ⊕ new * 2 ^ 16) moved ∙ sym (shift 16 (r * 2 ^ j) new) ∙ reduced.divides.1) reduced.below before

pub half_more : (p r half s : ℕ) → half < 2 ^ 32 → IsRemainder p r → IsRemainder (r * 2 ^ 16 % 2 ^ 64 ⊕ half) s → IsRemainder (p * 2 ^ 32 + half) s
half_more p r half s fits before reduced =
    let below = before.below in
    let whole : r * 2 ^ 16 % 2 ^ 64 ≡ r * 2 ^ 16 = omega arith in
    let e : p * 2 ^ 16 * 2 ^ 32 ≡ p * 2 ^ 48 = omega arith in
    more_terms 16 32 p r half s (omega arith) (rw e (omega (arith, xor_shifted p 48 (half * 2 ^ 16) (omega arith)))) before (rw whole at reduced)

pub word_more : (p r word s : ℕ) → word < 2 ^ 64 → IsRemainder p r → IsRemainder (r * 2 ^ 48 % 2 ^ 64 ⊕ word) s → IsRemainder (p * 2 ^ 64 + word) s
word_more p r word s fits before reduced =
    let below = before.below in
    let whole : r * 2 ^ 48 % 2 ^ 64 ≡ r * 2 ^ 48 = omega arith in
    let e : p * 2 ^ 16 * 2 ^ 64 ≡ p * 2 ^ 80 = omega arith in
    more_terms 48 64 p r word s (omega arith) (rw e (omega (arith, xor_shifted p 80 (word * 2 ^ 16) (omega arith)))) before (rw whole at reduced)

pub pair_more : (p r both s : ℕ) → both < 2 ^ 128 → IsRemainder p r → IsRemainder (r * 2 ^ 112 % 2 ^ 128 ⊕ both) s → IsRemainder (p * 2 ^ 128 + both) s
pair_more p r both s fits before reduced =
    let below = before.below in
    let whole : r * 2 ^ 112 % 2 ^ 128 ≡ r * 2 ^ 112 = omega arith in
    let e : p * 2 ^ 16 * 2 ^ 128 ≡ p * 2 ^ 144 = omega arith in
    more_terms 112 128 p r both s (omega arith) (rw e (omega (arith, xor_shifted p 144 (both * 2 ^ 16) (omega arith)))) before (rw whole at reduced)

-- ---- the bytes, some at a time

-- the remainder of the bytes before the rest
pub record IsReckoned (bytes rest : List ℕ) (r : ℕ) : Type 0 where
  pub front : List ℕ
  pub whole : bytes ≡ front ++ rest
  pub remainder : IsCrc front r

pub none_reckoned : (bytes : List ℕ) → IsReckoned bytes bytes 0
none_reckoned bytes = record { front = []; whole = refl; remainder = record { below = omega arith; divides = (0, refl) } }

-- all are, once there is no rest
pub all_reckoned : (bytes rest : List ℕ) (r : ℕ) → length rest ≡ 0 → IsReckoned bytes rest r → IsCrc bytes r
all_reckoned bytes [] r none so_far = rw (so_far.whole, append-nil) so_far.remainder
all_reckoned bytes (byte ∷ rest) r none so_far = absurd (omega arith)

-- with so many bytes more, as one number
pub reckoned : (k : ℕ) (bytes rest after first : List ℕ) (r s number : ℕ) → rest ≡ first ++ after
    → ((front : List ℕ) → polynomial (front ++ first) ≡ polynomial front * 2 ^ k + number)
    → ((p : ℕ) → IsRemainder p r → IsRemainder (p * 2 ^ k + number) s) → IsReckoned bytes rest r → IsReckoned bytes after s
reckoned k bytes rest after first r s number cut value step so_far =
    let front = so_far.front in
    record {
      front = front ++ first;
      whole = so_far.whole ∙ ap (λ (x : List ℕ). front ++ x) cut ∙ sym (append_assoc front first after);
      remainder = subst (λ (p : ℕ). IsRemainder p s) (sym (value front)) (step (polynomial front) so_far.remainder);
    }

-- the first four, one by one
abbrev four : List ℕ → List ℕ
four s = get_or s 0 0 ∷ get_or s 1 0 ∷ get_or s 2 0 ∷ get_or s 3 0 ∷ []

four_first : (s : List ℕ) → 4 ≤ length s → s ≡ four s ++ drop 4 s
four_first (a ∷ b ∷ c ∷ d ∷ s) long = refl
four_first _ long = absurd (omega arith)

four_more : (s front : List ℕ) → polynomial (front ++ four s) ≡ polynomial front * 2 ^ 32 + big_number 4 s
four_more s front = rw fold-append (omega arith)

pub half_reckoned : (bytes rest after : List ℕ) (r s number : ℕ) → 4 ≤ length rest → number ≡ big_number 4 rest → after ≡ drop 4 rest
    → ((p : ℕ) → IsRemainder p r → IsRemainder (p * 2 ^ 32 + number) s) → IsReckoned bytes rest r → IsReckoned bytes after s
half_reckoned bytes rest after r s number long read cut =
    reckoned 32 bytes rest after (four rest) r s number (four_first rest long ∙ ap (λ (x : List ℕ). four rest ++ x) (sym cut))
    (λ front. four_more rest front ∙ ap (λ (x : ℕ). polynomial front * 2 ^ 32 + x) (sym read))

-- the first eight, one by one
abbrev eight : List ℕ → List ℕ
eight s = get_or s 0 0 ∷ get_or s 1 0 ∷ get_or s 2 0 ∷ get_or s 3 0 ∷ get_or s 4 0 ∷ get_or s 5 0 ∷ get_or s 6 0 ∷ get_or s 7 0 ∷ []

eight_first : (s : List ℕ) → 8 ≤ length s → s ≡ eight s ++ drop 8 s
eight_first (a ∷ b ∷ c ∷ d ∷ e ∷ f ∷ g ∷ h ∷ s) long = refl
eight_first _ long = absurd (omega arith)

eight_more : (s front : List ℕ) → polynomial (front ++ eight s) ≡ polynomial front * 2 ^ 64 + big_number 8 s
eight_more s front = rw fold-append (omega arith)

pub word_reckoned : (bytes rest after : List ℕ) (r s number : ℕ) → 8 ≤ length rest → number ≡ big_number 8 rest → after ≡ drop 8 rest
    → ((p : ℕ) → IsRemainder p r → IsRemainder (p * 2 ^ 64 + number) s) → IsReckoned bytes rest r → IsReckoned bytes after s
word_reckoned bytes rest after r s number long read cut =
    reckoned 64 bytes rest after (eight rest) r s number (eight_first rest long ∙ ap (λ (x : List ℕ). eight rest ++ x) (sym cut))
    (λ front. eight_more rest front ∙ ap (λ (x : ℕ). polynomial front * 2 ^ 64 + x) (sym read))

-- the first sixteen, one by one
abbrev pub sixteen : List ℕ → List ℕ
sixteen s = get_or s 0 0 ∷ get_or s 1 0 ∷ get_or s 2 0 ∷ get_or s 3 0 ∷ get_or s 4 0 ∷ get_or s 5 0 ∷ get_or s 6 0 ∷ get_or s 7 0
    ∷ get_or s 8 0 ∷ get_or s 9 0 ∷ get_or s 10 0 ∷ get_or s 11 0 ∷ get_or s 12 0 ∷ get_or s 13 0 ∷ get_or s 14 0 ∷ get_or s 15 0 ∷ []

pub sixteen_first : (s : List ℕ) → 16 ≤ length s → s ≡ sixteen s ++ drop 16 s
sixteen_first (a ∷ b ∷ c ∷ d ∷ e ∷ f ∷ g ∷ h ∷ i ∷ j ∷ k ∷ l ∷ m ∷ n ∷ o ∷ p ∷ s) long = refl
sixteen_first _ long = absurd (omega arith)

pub sixteen_more : (s front : List ℕ) → polynomial (front ++ sixteen s) ≡ polynomial front * 2 ^ 128 + big_number 16 s
sixteen_more s front = rw fold-append (omega arith)

pub pair_reckoned : (bytes rest after : List ℕ) (r s number : ℕ) → 16 ≤ length rest → number ≡ big_number 16 rest → after ≡ drop 16 rest
    → ((p : ℕ) → IsRemainder p r → IsRemainder (p * 2 ^ 128 + number) s) → IsReckoned bytes rest r → IsReckoned bytes after s
pair_reckoned bytes rest after r s number long read cut =
    reckoned 128 bytes rest after (sixteen rest) r s number (sixteen_first rest long ∙ ap (λ (x : List ℕ). sixteen rest ++ x) (sym cut))
    (λ front. sixteen_more rest front ∙ ap (λ (x : ℕ). polynomial front * 2 ^ 128 + x) (sym read))

pub byte_reckoned : (bytes rest : List ℕ) (r s i : ℕ) → i < length rest → ((p : ℕ) → IsRemainder p r → IsRemainder (p * 2 ^ 8 + get_or rest i 0) s)
    → IsReckoned bytes (drop i rest) r → IsReckoned bytes (drop (i + 1) rest) s
byte_reckoned bytes rest r s i lt step so_far =
    let byte = get_or rest i 0 in
    record {
      front = so_far.front ++ byte ∷ [];
      whole = so_far.whole ∙ ap (λ (x : List ℕ). so_far.front ++ x) (rw (add-one, drop-cons rest i 0) refl) ∙ sym (append_assoc so_far.front (byte ∷ []) (drop (i + 1) rest));
      remainder = rw fold_push (step (polynomial so_far.front) so_far.remainder);
    }
