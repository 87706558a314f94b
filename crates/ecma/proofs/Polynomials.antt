-- Sums and products of polynomials over two elements.
use Rattle.std.proofs.Common.{◌≡◌, ℕ, zero, suc, ◌+◌, ◌*◌, ◌/◌, ◌^◌, ◌<◌, sym, ap, ◌∙◌, arith}
use Rattle.std.proofs.Math.Nat.{mul_assoc, mul_comm, pow-suc}
use Rattle.std.specs.Int.Bits.{bit_xor, xor_block, xor_assoc, xor_comm, xor_self, xor_shr, xor_lt, xor_zero_r}
use Rattle.std.proofs.lemmas.Nat.{pow_pos}
use Rattle.ecma.specs.Crc.{◌⊕◌, times_generator}

pub shift : (k a b : ℕ) → (a ⊕ b) * 2 ^ k ≡ a * 2 ^ k ⊕ b * 2 ^ k
shift k a b =
    let whole = xor_block k a b 0 0 (pow_pos k) (pow_pos k) in
    let left : a * 2 ^ k + 0 ≡ a * 2 ^ k = omega arith in
    let right : b * 2 ^ k + 0 ≡ b * 2 ^ k = omega arith in
    let sum : bit_xor a b * 2 ^ k + bit_xor 0 0 ≡ bit_xor a b * 2 ^ k = omega arith in
    sym (rw (left, right, sum) at whole)

pub middle : (a b c d : ℕ) → (a ⊕ b) ⊕ (c ⊕ d) ≡ (a ⊕ c) ⊕ (b ⊕ d)
middle a b c d =
    xor_assoc a b (c ⊕ d)
    ∙ ap (λ (x : ℕ). a ⊕ x) (sym (xor_assoc b c d) ∙ ap (λ (x : ℕ). x ⊕ d) (xor_comm b c) ∙ xor_assoc c b d)
    ∙ sym (xor_assoc a c (b ⊕ d))

pub times_generator-sum : (p q : ℕ) → times_generator (p ⊕ q) ≡ times_generator p ⊕ times_generator q
times_generator-sum p q =
    ap (λ (x : ℕ). x ⊕ (p ⊕ q))
    (ap (λ (x : ℕ). x ⊕ (p ⊕ q) * 2 ^ 5)
    (ap (λ (x : ℕ). x ⊕ (p ⊕ q) * 2 ^ 12) (shift 16 p q) ∙ ap (λ (x : ℕ). (p * 2 ^ 16 ⊕ q * 2 ^ 16) ⊕ x) (shift 12 p q) ∙ middle (p * 2 ^ 16) (q * 2 ^ 16) (p * 2 ^ 12) (q * 2 ^ 12))
    ∙ ap (λ (x : ℕ). ((p * 2 ^ 16 ⊕ p * 2 ^ 12) ⊕ (q * 2 ^ 16 ⊕ q * 2 ^ 12)) ⊕ x) (shift 5 p q)
    ∙ middle (p * 2 ^ 16 ⊕ p * 2 ^ 12) (q * 2 ^ 16 ⊕ q * 2 ^ 12) (p * 2 ^ 5) (q * 2 ^ 5))
    ∙ middle (p * 2 ^ 16 ⊕ p * 2 ^ 12 ⊕ p * 2 ^ 5) (q * 2 ^ 16 ⊕ q * 2 ^ 12 ⊕ q * 2 ^ 5) p q

-- a product by x^k, before or after another
swap : (q a b : ℕ) → q * a * b ≡ q * b * a
swap q a b = mul_assoc q a b ∙ ap (λ (x : ℕ). q * x) (mul_comm a b) ∙ sym (mul_assoc q b a)

pub times_generator-shift : (k q : ℕ) → times_generator (q * 2 ^ k) ≡ times_generator q * 2 ^ k
times_generator-shift k q =
    rw (swap q (2 ^ k) (2 ^ 16), swap q (2 ^ k) (2 ^ 12), swap q (2 ^ k) (2 ^ 5))
    (sym (shift k (q * 2 ^ 16 ⊕ q * 2 ^ 12 ⊕ q * 2 ^ 5) q ∙ ap (λ (x : ℕ). x ⊕ q * 2 ^ k) (shift k (q * 2 ^ 16 ⊕ q * 2 ^ 12) (q * 2 ^ 5) ∙ ap (λ (x : ℕ). x ⊕ q * 2 ^ 5 * 2 ^ k) (shift k (q * 2 ^ 16) (q * 2 ^ 12)))))

pub same_from_sum : (a b : ℕ) → a ⊕ b ≡ 0 → a ≡ b
same_from_sum a b e =
    sym (xor_zero_r a) ∙ ap (λ (x : ℕ). a ⊕ x) (sym (xor_self b)) ∙ sym (xor_assoc a b b) ∙ ap (λ (x : ℕ). x ⊕ b) e

-- a product of the generator with no term from x^16 on is zero: its high part is q and smaller terms
pub times_generator-small : (n q : ℕ) → q < 2 ^ n → times_generator q < 2 ^ 16 → q ≡ 0
times_generator-small zero q fits small = omega arith
times_generator-small (suc n) q fits small =
    let a = q / 2 ^ 4 in
    let b = q / 2 ^ 11 in
    let c = q / 2 ^ 16 in
    let twice : 2 ^ suc n ≡ 2 ^ n * 2 = pow-suc 2 n in
    let high : times_generator q / 2 ^ 16 ≡ ((q ⊕ a) ⊕ b) ⊕ c =
    let e0 : q * 2 ^ 16 / 2 ^ 16 ≡ q = omega arith in
    let e1 : q * 2 ^ 12 / 2 ^ 16 ≡ a = omega arith in
    let e2 : q * 2 ^ 5 / 2 ^ 16 ≡ b = omega arith in
    xor_shr (q * 2 ^ 16 ⊕ q * 2 ^ 12 ⊕ q * 2 ^ 5) q 16
    ∙ ap (λ (x : ℕ). x ⊕ c) (xor_shr (q * 2 ^ 16 ⊕ q * 2 ^ 12) (q * 2 ^ 5) 16
    ∙ ap (λ (x : ℕ). x ⊕ q * 2 ^ 5 / 2 ^ 16) (xor_shr (q * 2 ^ 16) (q * 2 ^ 12) 16 ∙ ap (λ (x : ℕ). x ⊕ q * 2 ^ 12 / 2 ^ 16) e0 ∙ ap (λ (x : ℕ). q ⊕ x) e1)
    ∙ ap (λ (x : ℕ). (q ⊕ a) ⊕ x) e2) in
    let none : times_generator q / 2 ^ 16 ≡ 0 = omega arith in
    let grouped : ((q ⊕ a) ⊕ b) ⊕ c ≡ q ⊕ ((a ⊕ b) ⊕ c) =
    ap (λ (x : ℕ). x ⊕ c) (xor_assoc q a b) ∙ xor_assoc q (a ⊕ b) c in
    let same : q ≡ (a ⊕ b) ⊕ c = same_from_sum q ((a ⊕ b) ⊕ c) (sym grouped ∙ sym high ∙ none) in
    let smaller : ((a ⊕ b) ⊕ c) < 2 ^ n =
    xor_lt n (a ⊕ b) c (xor_lt n a b (omega arith) (omega arith)) (omega arith) in
    times_generator-small n q (omega arith) small
