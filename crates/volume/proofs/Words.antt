-- Eight bytes that are the same number are the same bytes.
use Rattle.std.proofs.Common.{◌≡◌, ℕ, ◌+◌, ◌-◌, ◌<◌, ◌≤◌, List, length, take, drop, get_or, refl, sym, ap, ◌∙◌, arith, inl, inr}
use Rattle.std.proofs.lemmas.Bool.{cases_lt}
use Rattle.std.proofs.lemmas.List.{get_or-take, get_or-drop}
use Rattle.ecma.specs.Numbers.{u64_at}
use Rattle.ecma.proofs.Pieces.{IsBytes, u64_stands}

abbrev pub AreSameBelow : ℕ → List ℕ → List ℕ → Type 0
AreSameBelow at a b = (k : ℕ) → k < at → get_or a k 0 ≡ get_or b k 0

-- a byte of the eight at a place
within_eight : (at k : ℕ) (a : List ℕ) → at ≤ k → k < at + 8 → get_or a k 0 ≡ get_or (take 8 (drop at a)) (k - at) 0
within_eight at k a low high =
    let place : k ≡ at + (k - at) = omega arith in
    let short : k - at < 8 = omega arith in
    ap (λ (n : ℕ). get_or a n 0) place ∙ sym (get_or-drop at a (k - at) 0) ∙ sym (get_or-take 8 (drop at a) (k - at) 0 short)

pub same_word : (at : ℕ) (a b : List ℕ) → IsBytes a → IsBytes b → at + 8 ≤ length a → at + 8 ≤ length b → u64_at at a ≡ u64_at at b → AreSameBelow at a b → AreSameBelow (at + 8) a b
same_word at a b a-bytes b-bytes a-room b-room same before k high =
    let eight : take 8 (drop at a) ≡ take 8 (drop at b) = u64_stands at a (u64_at at b) a-bytes a-room same ∙ sym (u64_stands at b (u64_at at b) b-bytes b-room refl) in
    elim (cases_lt k at) [
      | inl low ↦ before k low
      | inr there ↦ within_eight at k a there high ∙ ap (λ (x : List ℕ). get_or x (k - at) 0) eight ∙ sym (within_eight at k b there high)
    ]
