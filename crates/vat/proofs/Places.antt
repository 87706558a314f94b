-- At how many places data looks like a VAT ICB.
use Rattle.std.proofs.Common.{◌≡◌, ◌≢◌, ℕ, zero, suc, ◌+◌, ◌-◌, ◌<◌, ◌≤◌, min, List, ◌++◌, length, take, drop, replicate, refl, sym, ap, subst, ◌∙◌, inl, inr, arith}
use Rattle.std.specs.Prelude.{◌⊎◌}
use Rattle.std.proofs.lemmas.Bool.{cases_lt, cases_eq}
use Rattle.std.proofs.lemmas.List.{get_or_append_left, drop-replicate, take_all}
use Rattle.ecma.specs.Numbers.{u32_at}
use Rattle.ecma.specs.Descriptor.{padded}
use Rattle.ecma.proofs.Seals.{located}
use Rattle.ecma.specs.Blocks.{block_count}
use Rattle.icb.specs.VatIcb.{IsVatIcb}
use Rattle.vat.specs.Imitation.{Imitates, data_block}

-- a number in the prefix
pub u32_at-append : (n : ℕ) (xs ys : List ℕ) → n + 4 ≤ length xs → u32_at n (xs ++ ys) ≡ u32_at n xs
u32_at-append n xs ys room = omega (
  arith,
  get_or_append_left xs ys 0 n (omega arith),
  get_or_append_left xs ys 0 (n + 1) (omega arith),
  get_or_append_left xs ys 0 (n + 2) (omega arith),
  get_or_append_left xs ys 0 (n + 2 + 1) (omega arith),
)

pub icb_located : (block : List ℕ) (number : ℕ) → IsVatIcb block number → u32_at 12 block ≡ number
icb_located block number is = located 261 number _ block is.entry.laid.whole

-- a text whose location is another is no entry, whatever zeros are after it
pub elsewhere : (text : List ℕ) (number : ℕ) → 16 ≤ length text → u32_at 12 text ≢ number → IsVatIcb (padded text) number → ⊥
elsewhere text number long other is =
    other (sym (u32_at-append 12 text (replicate (2048 - length text) 0) long) ∙ icb_located (padded text) number is)

-- ---- more things than places

-- Each of n + 1 things has a place below n. Then two have the same.
pigeonhole : (n : ℕ) (At : ℕ → ℕ → Type 0) → ((k : ℕ) → k ≤ n → (i : ℕ) × (i < n) × At k i) → ((j k i : ℕ) → At j i → At k i → j ≡ k) → ⊥
pigeonhole zero At has one = let h = has 0 (omega arith) in absurd (omega (arith, h.1))
pigeonhole (suc n) At has one =
    let last = has (suc n) (omega arith) in
    let m = last.0 in
    -- the last place is given to the thing in it in exchange for that of the last thing
    let Now : ℕ → ℕ → Type 0 = λ k i. ((i ≡ m) × At k n) ⊎ ((i ≢ m) × At k i) in
    pigeonhole n Now
    (λ k le.
    let h = has k (omega arith) in
    let i = h.0 in
    let other : i ≢ m = λ e. let same = one k (suc n) m (subst (At k) e h.2) last.2 in absurd (omega (arith, same, le)) in
    elim (cases_eq i n) [
      | inl e ↦ (m, (omega (arith, last.1, other, e)), inl (refl, subst (At k) e h.2))
      | inr ne ↦ (i, (omega (arith, h.1, ne)), inr (other, h.2))
    ])
    (λ j k i.
    now_one n m At one j k i)
  where
    now_one : (n m : ℕ) (At : ℕ → ℕ → Type 0) → ((j k i : ℕ) → At j i → At k i → j ≡ k) → (j k i : ℕ)
        → ((i ≡ m) × At j n) ⊎ ((i ≢ m) × At j i) → ((i ≡ m) × At k n) ⊎ ((i ≢ m) × At k i) → j ≡ k
    now_one n m At one j k i (inl a) (inl b) = one j k n a.1 b.1
    now_one n m At one j k i (inl a) (inr b) = absurd (b.0 a.0)
    now_one n m At one j k i (inr a) (inl b) = absurd (a.0 b.0)
    now_one n m At one j k i (inr a) (inr b) = one j k i a.1 b.1

-- where data imitates at as many places in a row as it has blocks, it does not at the next
pub one_free : (bytes : List ℕ) (from : ℕ) → ((start : ℕ) → from ≤ start → start < from + block_count (length bytes) → Imitates bytes start)
    → Imitates bytes (from + block_count (length bytes)) → ⊥
one_free bytes from all here =
    let n = block_count (length bytes) in
    let every : (k : ℕ) → k ≤ n → Imitates bytes (from + k) =
    λ k le. elim (cases_lt k n) [
      | inl lt ↦ all (from + k) (omega arith) (omega arith)
      | inr ge ↦ let e : n ≡ k = omega arith in subst (λ (x : ℕ). Imitates bytes (from + x)) e here
    ] in
    pigeonhole n (λ k i. IsVatIcb (data_block bytes i) (from + k + i))
    (λ k le. let is = every k le in (is.index, is.there, is.entry))
    (λ j k i a b.
    let x = icb_located (data_block bytes i) (from + j + i) a in
    let y = icb_located (data_block bytes i) (from + k + i) b in
    omega (arith, x, y))

-- as many as there are, and no more than so many
pub take_front : (n : ℕ) (xs : List ℕ) (m : ℕ) → m ≡ min (length xs) n → take m xs ≡ take n xs
take_front n xs m e = elim (cases_lt n (length xs)) [
  | inl lt ↦ ap (λ (k : ℕ). take k xs) (omega arith)
  | inr le ↦ take_all m xs (omega arith) ∙ sym (take_all n xs le)
]

-- the text over zeros
pub padded_is : (text put : List ℕ) → put ≡ text → length text ≤ 2048 → put ++ drop (length text) (replicate 2048 0) ≡ padded text
padded_is text put e room = ap (λ (x : List ℕ). x ++ drop (length text) (replicate 2048 0)) e ∙ ap (λ (x : List ℕ). text ++ x) (drop-replicate (length text) 2048 0)
