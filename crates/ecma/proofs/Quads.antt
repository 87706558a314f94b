-- The remainder with 32 bytes more, by two halves of 128 bits.
use Rattle.std.proofs.Common.{◌≡◌, ℕ, ◌+◌, ◌*◌, ◌/◌, ◌%◌, ◌^◌, ◌<◌, ◌≤◌, ◌-◌, true, List, ◌++◌, length, drop, refl, sym, ap, ◌∙◌, append_assoc, arith}
use Rattle.std.specs.Int.Bits.{xor_assoc, xor_shifted}
use Rattle.std.proofs.lemmas.Nat.{xor_mod}
use Rattle.std.proofs.lemmas.List.{length-drop}
use Rattle.byteorder.specs.Endian.{big_number}
use Rattle.ecma.specs.Crc.{◌⊕◌, IsRemainder, polynomial}
use Rattle.ecma.proofs.Polynomials.{shift}
use Rattle.ecma.proofs.Remainders.{holds_below}
use Rattle.ecma.proofs.Words.{by_first, by_second, wide_fourth, by_sixteenth, word_rest, shr, pair, by_first-sum, by_second-sum, wide_fourth-sum, by_sixteenth-sum, word_rest-sum, IsLinear, is_reduced, reduced_below, low_rest-lt, more_terms, IsReckoned, reckoned, sixteen, sixteen_first, sixteen_more}

-- ---- the quotient of all 256 bits, once they begin at x^16

abbrev by_thirty_second : ℕ → ℕ
by_thirty_second t = t ⊕ t / 2 ^ 128

abbrev quad_sixteenth : ℕ → ℕ
quad_sixteenth t = t ⊕ (t / 2 ^ 64 ⊕ t / 2 ^ 176)

abbrev quad_eighth : ℕ → ℕ
quad_eighth t = (t ⊕ t / 2 ^ 32) ⊕ (t / 2 ^ 88 ⊕ t / 2 ^ 128)

-- the last three factors are those of a pair
abbrev last_factors : ℕ → ℕ
last_factors t = by_first (by_second (wide_fourth t))

abbrev quad_quotient : ℕ → ℕ
quad_quotient t = last_factors (quad_eighth (quad_sixteenth (by_thirty_second t)))

-- ---- and the rest of it, computed from the two halves

-- a shift to the left in 128 bits
abbrev left : ℕ → ℕ → ℕ
left k t = t * 2 ^ k % 2 ^ 128

abbrev low_sixteenth : ℕ → ℕ → ℕ
low_sixteenth high low = (low ⊕ low / 2 ^ 64) ⊕ (left 64 high ⊕ high / 2 ^ 48)

abbrev low_eighth : ℕ → ℕ → ℕ
low_eighth high low = ((low ⊕ high) ⊕ (low / 2 ^ 32 ⊕ low / 2 ^ 88)) ⊕ (left 96 high ⊕ left 40 high)

abbrev low_product : ℕ → ℕ → ℕ
low_product high low = low_eighth (by_sixteenth high) (low_sixteenth high (low ⊕ high))

abbrev pub quad_rest : ℕ → ℕ → ℕ
quad_rest high low = word_rest (last_factors (low_product high low))

-- of the whole
abbrev high_half : ℕ → ℕ
high_half t = t / 2 ^ 128

abbrev low_half : ℕ → ℕ
low_half t = t % 2 ^ 128

abbrev halves_rest : ℕ → ℕ
halves_rest t = quad_rest (high_half t) (low_half t)

-- ---- each is that of a sum by summands

sum : (f g : ℕ → ℕ) → IsLinear f → IsLinear g → IsLinear (λ t. f t ⊕ g t)
sum f g f-linear g-linear a b = pair f g a b (f-linear a b) (g-linear a b)

after : (f g : ℕ → ℕ) → IsLinear f → IsLinear g → IsLinear (λ t. f (g t))
after f g f-linear g-linear a b = ap f (g-linear a b) ∙ f-linear (g a) (g b)

same : IsLinear (λ t. t)
same a b = refl

left-sum : (k : ℕ) → IsLinear (left k)
left-sum k a b = ap (λ (x : ℕ). x % 2 ^ 128) (shift k a b) ∙ xor_mod (a * 2 ^ k) (b * 2 ^ k) 128

high_half-sum : IsLinear high_half
high_half-sum = shr 128

low_half-sum : IsLinear low_half
low_half-sum a b = xor_mod a b 128

last_factors-sum : IsLinear last_factors
last_factors-sum = after by_first (λ t. by_second (wide_fourth t)) by_first-sum (after by_second wide_fourth by_second-sum wide_fourth-sum)

by_thirty_second-sum : IsLinear by_thirty_second
by_thirty_second-sum = sum (λ t. t) (λ t. t / 2 ^ 128) same (shr 128)

quad_sixteenth-sum : IsLinear quad_sixteenth
quad_sixteenth-sum = sum (λ t. t) (λ t. t / 2 ^ 64 ⊕ t / 2 ^ 176) same (sum (λ t. t / 2 ^ 64) (λ t. t / 2 ^ 176) (shr 64) (shr 176))

quad_eighth-sum : IsLinear quad_eighth
quad_eighth-sum =
    sum (λ t. t ⊕ t / 2 ^ 32) (λ t. t / 2 ^ 88 ⊕ t / 2 ^ 128)
    (sum (λ t. t) (λ t. t / 2 ^ 32) same (shr 32)) (sum (λ t. t / 2 ^ 88) (λ t. t / 2 ^ 128) (shr 88) (shr 128))

quad_quotient-sum : IsLinear quad_quotient
quad_quotient-sum =
    after last_factors (λ t. quad_eighth (quad_sixteenth (by_thirty_second t))) last_factors-sum
    (after quad_eighth (λ t. quad_sixteenth (by_thirty_second t)) quad_eighth-sum (after quad_sixteenth by_thirty_second quad_sixteenth-sum by_thirty_second-sum))

low_sixteenth-sum : (high low : ℕ → ℕ) → IsLinear high → IsLinear low → IsLinear (λ t. low_sixteenth (high t) (low t))
low_sixteenth-sum high low high-linear low-linear =
    sum (λ t. by_sixteenth (low t)) (λ t. left 64 (high t) ⊕ high t / 2 ^ 48)
    (after by_sixteenth low by_sixteenth-sum low-linear)
    (after (λ t. left 64 t ⊕ t / 2 ^ 48) high (sum (left 64) (λ t. t / 2 ^ 48) (left-sum 64) (shr 48)) high-linear)

low_eighth-sum : (high low : ℕ → ℕ) → IsLinear high → IsLinear low → IsLinear (λ t. low_eighth (high t) (low t))
low_eighth-sum high low high-linear low-linear =
    sum (λ t. (low t ⊕ high t) ⊕ (low t / 2 ^ 32 ⊕ low t / 2 ^ 88)) (λ t. left 96 (high t) ⊕ left 40 (high t))
    (sum (λ t. low t ⊕ high t) (λ t. low t / 2 ^ 32 ⊕ low t / 2 ^ 88) (sum low high low-linear high-linear)
    (after (λ t. t / 2 ^ 32 ⊕ t / 2 ^ 88) low (sum (λ t. t / 2 ^ 32) (λ t. t / 2 ^ 88) (shr 32) (shr 88)) low-linear))
    (after (λ t. left 96 t ⊕ left 40 t) high (sum (left 96) (left 40) (left-sum 96) (left-sum 40)) high-linear)

low_product-sum : IsLinear (λ t. low_product (high_half t) (low_half t))
low_product-sum =
    low_eighth-sum (λ t. by_sixteenth (high_half t)) (λ t. low_sixteenth (high_half t) (low_half t ⊕ high_half t))
    (after by_sixteenth high_half by_sixteenth-sum high_half-sum)
    (low_sixteenth-sum high_half (λ t. low_half t ⊕ high_half t) high_half-sum (sum low_half high_half low_half-sum high_half-sum))

halves_rest-sum : IsLinear halves_rest
halves_rest-sum =
    after word_rest (λ t. last_factors (low_product (high_half t) (low_half t))) word_rest-sum
    (after last_factors (λ t. low_product (high_half t) (low_half t)) last_factors-sum low_product-sum)

-- ---- so each is settled by its single terms

quads_reduced : holds_below (is_reduced quad_quotient halves_rest) 256 ≡ true
quads_reduced = refl

IsRemainder-whole : (t : ℕ) → t < 2 ^ 256 → IsRemainder t (halves_rest t)
IsRemainder-whole t fits = record {
  below = low_rest-lt (last_factors (low_product (high_half t) (low_half t)) % 2 ^ 16) (omega arith);
  divides = (quad_quotient t, reduced_below quad_quotient halves_rest 256 256 t quad_quotient-sum halves_rest-sum refl quads_reduced (omega arith) fits);
}

-- the remainder of as many bits as two halves have, as shifts of these and then of 16 give it
pub IsRemainder-halves : (high low : ℕ) → high < 2 ^ 128 → low < 2 ^ 128 → IsRemainder (high * 2 ^ 128 + low) (quad_rest high low)
IsRemainder-halves high low high-fits low-fits =
    let e : (high * 2 ^ 128 + low) / 2 ^ 128 ≡ high = omega arith in
    let d : (high * 2 ^ 128 + low) % 2 ^ 128 ≡ low = omega arith in
    rw (e, d) at (IsRemainder-whole (high * 2 ^ 128 + low) (omega arith))

-- a remainder before them goes to the top of the high half
halves_added : (r first second : ℕ) → second < 2 ^ 128 → (r * 2 ^ 112 ⊕ first) * 2 ^ 128 + second ≡ r * 2 ^ 240 ⊕ (first * 2 ^ 128 + second)
halves_added r first second fits =
    let moved : r * 2 ^ 112 * 2 ^ 128 ≡ r * 2 ^ 240 = omega arith in
    sym (xor_shifted (r * 2 ^ 112 ⊕ first) 128 second fits)
    ∙ ap (λ (x : ℕ). x ⊕ second) (shift 128 (r * 2 ^ 112) first ∙ ap (λ (x : ℕ). x ⊕ first * 2 ^ 128) moved)
    ∙ xor_assoc (r * 2 ^ 240) (first * 2 ^ 128) second
    ∙ ap (λ (x : ℕ). r * 2 ^ 240 ⊕ x) (xor_shifted first 128 second fits)

pub quad_more : (p r first second s : ℕ) → first < 2 ^ 128 → second < 2 ^ 128 → IsRemainder p r
    → IsRemainder ((r * 2 ^ 112 % 2 ^ 128 ⊕ first) * 2 ^ 128 + second) s → IsRemainder (p * 2 ^ 256 + (first * 2 ^ 128 + second)) s
quad_more p r first second s first-fits second-fits before reduced =
    let below = before.below in
    let whole : r * 2 ^ 112 % 2 ^ 128 ≡ r * 2 ^ 112 = omega arith in
    let new = first * 2 ^ 128 + second in
    let e : p * 2 ^ 16 * 2 ^ 256 ≡ p * 2 ^ 272 = omega arith in
    more_terms 240 256 p r new s (omega arith) (rw e (omega (arith, xor_shifted p 272 (new * 2 ^ 16) (omega arith)))) before
    (rw (whole, halves_added r first second second-fits) at reduced)

-- ---- the first 32 bytes, by two of sixteen

quad_first : (s second later : List ℕ) → 32 ≤ length s → second ≡ drop 16 s → later ≡ drop 16 second → s ≡ (sixteen s ++ sixteen second) ++ later
quad_first s second later long cut cut-second =
    let length-second : length second ≡ length s - 16 = ap length cut ∙ length-drop 16 s in
    sixteen_first s (omega arith)
    ∙ ap (λ (x : List ℕ). sixteen s ++ x) (sym cut ∙ sixteen_first second (omega arith) ∙ ap (λ (x : List ℕ). sixteen second ++ x) (sym cut-second))
    ∙ sym (append_assoc (sixteen s) (sixteen second) later)

regrouped : (p first second : ℕ) → (p * 2 ^ 128 + first) * 2 ^ 128 + second ≡ p * 2 ^ 256 + (first * 2 ^ 128 + second)
regrouped p first second = omega arith

quad_value : (s second front : List ℕ) → polynomial (front ++ (sixteen s ++ sixteen second)) ≡ polynomial front * 2 ^ 256 + (big_number 16 s * 2 ^ 128 + big_number 16 second)
quad_value s second front =
    ap polynomial (sym (append_assoc front (sixteen s) (sixteen second))) ∙ sixteen_more second (front ++ sixteen s)
    ∙ ap (λ (x : ℕ). x * 2 ^ 128 + big_number 16 second) (sixteen_more s front) ∙ regrouped (polynomial front) (big_number 16 s) (big_number 16 second)

pub quad_reckoned : (bytes rest second later : List ℕ) (r s n m : ℕ) → 32 ≤ length rest → n ≡ big_number 16 rest → m ≡ big_number 16 second
    → second ≡ drop 16 rest → later ≡ drop 16 second
    → ((p : ℕ) → IsRemainder p r → IsRemainder (p * 2 ^ 256 + (n * 2 ^ 128 + m)) s) → IsReckoned bytes rest r → IsReckoned bytes later s
quad_reckoned bytes rest second later r s n m long read read-second cut cut-second =
    reckoned 256 bytes rest later (sixteen rest ++ sixteen second) r s (n * 2 ^ 128 + m) (quad_first rest second later long cut cut-second)
    (λ front. rw (read, read-second) (quad_value rest second front))
