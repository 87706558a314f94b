-- Numbers and zeros that are in bytes.
use Rattle.std.proofs.Common.{◌≡◌, ℕ, ◌+◌, ◌-◌, ◌^◌, ◌<◌, ◌≤◌, List, [], ◌∷◌, ◌++◌, ◌↔◌, length, take, drop, get_or, replicate, refl, sym, ap, ◌∙◌, zero-add, arith}
use Rattle.std.specs.Prelude.{bit_or, nat_eq, IsTrue}
use Rattle.std.proofs.lemmas.Bool.{eqb-true, eq-eqb}
use Rattle.std.specs.Int.{w16, w32, w64, to_le_bytes}
use Rattle.std.proofs.lemmas.Nat.{le_or_l, le_or_r}
use Rattle.std.proofs.Math.Seq.{take-add}
use Rattle.std.proofs.lemmas.List.{drop-drop, get_or-take, get_or-drop, replicate-append-replicate, drop-replicate, take-replicate, take-take, take_all, take_at, drop_at, length-append, drop-take}
use Rattle.ecma.specs.Field.{IsAt}
use Rattle.ecma.specs.Numbers.{u16_at, u32_at, u64_at}
use Rattle.ecma.proofs.Pieces.{IsBytes, u64_stands}

-- a byte of what is at a place
stands_cell : (at i j : ℕ) (text block : List ℕ) → i < length text → j ≡ at + i → IsAt at text block → get_or block j 0 ≡ get_or text i 0
stands_cell at i j text block lt e stands =
    ap (λ (k : ℕ). get_or block k 0) e ∙ sym (get_or-drop at block i 0) ∙ sym (get_or-take (length text) (drop at block) i 0 lt) ∙ ap (λ (x : List ℕ). get_or x i 0) stands

-- a number is read where it is
pub u8_is : (at n : ℕ) (block : List ℕ) → IsAt at (n ∷ []) block → get_or block at 0 ≡ n
u8_is at n block stands = stands_cell at 0 at (n ∷ []) block (omega arith) (omega arith) stands

pub u16_is : (at n : ℕ) (block : List ℕ) → n < 2 ^ 16 → IsAt at (to_le_bytes w16 n) block → u16_at at block ≡ n
u16_is at n block small stands =
    let cell : (i j : ℕ) → i < 2 → j ≡ at + i → get_or block j 0 ≡ get_or (to_le_bytes w16 n) i 0 = λ i j lt e. stands_cell at i j (to_le_bytes w16 n) block lt e stands in
    omega (arith, cell 0 at (omega arith) (omega arith), cell 1 (at + 1) (omega arith) refl)

pub u32_is : (at n : ℕ) (block : List ℕ) → n < 2 ^ 32 → IsAt at (to_le_bytes w32 n) block → u32_at at block ≡ n
u32_is at n block small stands =
    let cell : (i j : ℕ) → i < 4 → j ≡ at + i → get_or block j 0 ≡ get_or (to_le_bytes w32 n) i 0 = λ i j lt e. stands_cell at i j (to_le_bytes w32 n) block lt e stands in
    omega (arith, cell 0 at (omega arith) (omega arith), cell 1 (at + 1) (omega arith) refl, cell 2 (at + 2) (omega arith) refl, cell 3 (at + 2 + 1) (omega arith) (omega arith))

pub u64_is : (at n : ℕ) (block : List ℕ) → n < 2 ^ 64 → IsAt at (to_le_bytes w64 n) block → u64_at at block ≡ n
u64_is at n block small stands =
    let cell : (i j : ℕ) → i < 8 → j ≡ at + i → get_or block j 0 ≡ get_or (to_le_bytes w64 n) i 0 = λ i j lt e. stands_cell at i j (to_le_bytes w64 n) block lt e stands in
    omega (
      arith,
      cell 0 at (omega arith) (omega arith),
      cell 1 (at + 1) (omega arith) refl,
      cell 2 (at + 2) (omega arith) refl,
      cell 3 (at + 2 + 1) (omega arith) (omega arith),
      cell 4 (at + 4) (omega arith) refl,
      cell 5 (at + 4 + 1) (omega arith) (omega arith),
      cell 6 (at + 4 + 2) (omega arith) (omega arith),
      cell 7 (at + 4 + 2 + 1) (omega arith) (omega arith),
    )

-- two texts are one after the other
pub both_at : (at next : ℕ) (a b block : List ℕ) → next ≡ at + length a → IsAt at a block → IsAt next b block → IsAt at (a ++ b) block
both_at at next a b block place first second =
    ap (λ (n : ℕ). take n (drop at block)) (length-append a b)
    ∙ take-add (length a) (length b) (drop at block)
    ∙ ap (λ (x : List ℕ). x ++ take (length b) (drop (length a) (drop at block))) first
    ∙ ap (λ (x : List ℕ). a ++ take (length b) x) (drop-drop (length a) at block ∙ ap (λ (n : ℕ). drop n block) (sym place))
    ∙ ap (λ (x : List ℕ). a ++ x) second

pub front_at : (at : ℕ) (a b block : List ℕ) → IsAt at (a ++ b) block → IsAt at a block
front_at at a b block both =
    sym (take-take (length a) (length (a ++ b)) (drop at block) (omega (arith, length-append a b)))
    ∙ ap (take (length a)) both
    ∙ take_at a b (length a) refl

pub back_at : (at next : ℕ) (a b block : List ℕ) → next ≡ at + length a → IsAt at (a ++ b) block → IsAt next b block
back_at at next a b block place both =
    ap (λ (n : ℕ). take (length b) (drop n block)) place
    ∙ ap (take (length b)) (sym (drop-drop (length a) at block))
    ∙ sym (drop-take (length a) (length b) (drop at block))
    ∙ ap (λ (n : ℕ). drop (length a) (take n (drop at block))) (sym (length-append a b))
    ∙ ap (drop (length a)) both
    ∙ drop_at a b (length a) refl

-- zeros after zeros
pub zeros_more : (at n m : ℕ) (block : List ℕ) → take n (drop at block) ≡ replicate n 0 → take m (drop (at + n) block) ≡ replicate m 0
    → take (n + m) (drop at block) ≡ replicate (n + m) 0
zeros_more at n m block front back =
    take-add n m (drop at block)
    ∙ ap (λ (x : List ℕ). x ++ take m (drop n (drop at block))) front
    ∙ ap (λ (x : List ℕ). replicate n 0 ++ take m x) (drop-drop n at block)
    ∙ ap (λ (x : List ℕ). replicate n 0 ++ x) back
    ∙ replicate-append-replicate n m 0

-- some of the zeros
pub zeros_within : (at n k m : ℕ) (block : List ℕ) → k + m ≤ n → take n (drop at block) ≡ replicate n 0 → take m (drop (at + k) block) ≡ replicate m 0
zeros_within at n k m block fits zeros =
    let left : k + (n - k) ≡ n = omega arith in
    let short : m ≤ n - k = omega arith in
    ap (take m) (sym (drop-drop k at block))
    ∙ sym (take-take m (n - k) (drop k (drop at block)) short)
    ∙ ap (take m) (sym (drop-take k (n - k) (drop at block)) ∙ ap (λ (x : ℕ). drop k (take x (drop at block))) left ∙ ap (drop k) zeros ∙ drop-replicate k n 0)
    ∙ take-replicate m (n - k) 0 short

-- a word of zeros is the number 0
pub zero_stands : (at : ℕ) (block : List ℕ) → IsBytes block → at + 8 ≤ length block → u64_at at block ≡ 0 → take 8 (drop at block) ≡ replicate 8 0
zero_stands at block bytes room e = u64_stands at block 0 bytes room e

pub zero_is : (at : ℕ) (block : List ℕ) → take 8 (drop at block) ≡ replicate 8 0 → u64_at at block ≡ 0
zero_is at block zeros = u64_is at 0 block (omega arith) zeros

-- the bits of two numbers are none where both are 0
pub or_none : (a b : ℕ) → bit_or a b ≡ 0 → (a ≡ 0) × (b ≡ 0)
or_none a b e = (omega (arith, le_or_l a b), omega (arith, le_or_r a b))

pub none_or : (a b : ℕ) → a ≡ 0 → b ≡ 0 → bit_or a b ≡ 0
none_or a b left right = ap (λ (x : ℕ). bit_or x b) left ∙ right

-- one word of zeros
pub word_zeros : (at : ℕ) (block : List ℕ) (a : ℕ) → IsBytes block → at + 8 ≤ length block → a ≡ u64_at at block → (a ≡ 0) ↔ (take 8 (drop at block) ≡ replicate 8 0)
word_zeros at block a bytes room e = ((λ none. zero_stands at block bytes room (sym e ∙ none)), (λ zeros. e ∙ zero_is at block zeros))

-- two runs of zeros, side by side
pub both_zeros : (at n m next : ℕ) (block : List ℕ) (a b : ℕ) → next ≡ at + n → ((a ≡ 0) ↔ (take n (drop at block) ≡ replicate n 0)) → ((b ≡ 0) ↔ (take m (drop next block) ≡ replicate m 0))
    → (bit_or a b ≡ 0) ↔ (take (n + m) (drop at block) ≡ replicate (n + m) 0)
both_zeros at n m next block a b e first second =
    let moved : take m (drop next block) ≡ take m (drop (at + n) block) = ap (λ (x : ℕ). take m (drop x block)) e in (
      (λ none. let both = or_none a b none in zeros_more at n m block (first.0 both.0) (sym moved ∙ second.0 both.1)),
      (λ zeros.
          let front : take n (drop at block) ≡ replicate n 0 = ap (λ (x : ℕ). take n (drop x block)) (omega arith) ∙ zeros_within at (n + m) 0 n block (omega arith) zeros in
          none_or a b (first.1 front) (second.1 (moved ∙ zeros_within at (n + m) n m block (omega arith) zeros))),
    )

-- four, in 64 bytes
pub four_zeros : (at : ℕ) (block : List ℕ) (a b c d : ℕ) → ((a ≡ 0) ↔ (take 16 (drop at block) ≡ replicate 16 0)) → ((b ≡ 0) ↔ (take 16 (drop (at + 16) block) ≡ replicate 16 0))
    → ((c ≡ 0) ↔ (take 16 (drop (at + 32) block) ≡ replicate 16 0)) → ((d ≡ 0) ↔ (take 16 (drop (at + 48) block) ≡ replicate 16 0))
    → IsTrue (nat_eq (bit_or (bit_or a b) (bit_or c d)) 0) ↔ (take 64 (drop at block) ≡ replicate 64 0)
four_zeros at block a b c d first second third fourth =
    let front = both_zeros at 16 16 (at + 16) block a b refl first second in
    let back = both_zeros (at + 32) 16 16 (at + 48) block c d (omega arith) third fourth in
    let all = both_zeros at 32 32 (at + 32) block (bit_or a b) (bit_or c d) refl front back in
    ((λ yes. all.0 (eqb-true _ _ yes)), (λ zeros. eq-eqb _ _ (all.1 zeros)))

-- so many bytes are zeros
pub record AreZerosBelow (at : ℕ) (bytes : List ℕ) : Type 0 where
  pub within : at ≤ length bytes
  pub zeros : take at bytes ≡ replicate at 0

pub zeros_next : (at n : ℕ) (bytes : List ℕ) → at + n ≤ length bytes → AreZerosBelow at bytes → take n (drop at bytes) ≡ replicate n 0 → AreZerosBelow (at + n) bytes
zeros_next at n bytes room before there = record { within = room; zeros = zeros_more 0 at n bytes before.zeros (ap (λ (x : ℕ). take n (drop x bytes)) (zero-add at) ∙ there) }

-- where all bytes are zeros so are some
pub zeros_there : (at n : ℕ) (bytes : List ℕ) → at + n ≤ length bytes → bytes ≡ replicate (length bytes) 0 → take n (drop at bytes) ≡ replicate n 0
zeros_there at n bytes room all =
    ap (λ (x : ℕ). take n (drop x bytes)) (sym (zero-add at)) ∙ zeros_within 0 (length bytes) at n bytes room (take_all (length bytes) bytes (omega arith) ∙ all)

pub all_zeros : (at : ℕ) (bytes : List ℕ) → at ≡ length bytes → take at bytes ≡ replicate at 0 → bytes ≡ replicate (length bytes) 0
all_zeros at bytes end before = sym (take_all at bytes (omega arith)) ∙ before ∙ ap (λ (n : ℕ). replicate n 0) end
