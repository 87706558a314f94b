-- Bytes as one piece after another: what is at a place, from the back to the beginning.
use Rattle.std.proofs.Common.{◌≡◌, ℕ, ◌+◌, ◌<◌, ◌≤◌, List, [], ◌∷◌, ◌++◌, length, take, drop, get_or, refl, sym, ap, ◌∙◌, append_assoc, arith, inl, inr}
use Rattle.std.proofs.lemmas.Bool.{cases_lt}
use Rattle.std.proofs.Math.Seq.{drop-cons}
use Rattle.std.specs.Int.{w16, w32, w64, to_le_bytes}
use Rattle.std.specs.List.{concat}
use Rattle.std.proofs.lemmas.List.{take-append-drop, drop-drop, length-drop, length-take, get_or-take, get_or-drop, get_or_past}
use Rattle.std.proofs.lemmas.Nat.{le_bytes_2, le_bytes_4, le_bytes_8}
use Rattle.ecma.specs.Field.{IsAt}
use Rattle.ecma.specs.Numbers.{u16_at, u32_at, u64_at}

-- pieces before a rest
abbrev pub onto : List (List ℕ) → List ℕ → List ℕ
onto [] rest = rest
onto (p ∷ ps) rest = p ++ onto ps rest

pub concat_onto : (ps : List (List ℕ)) (rest : List ℕ) → concat ps ++ rest ≡ onto ps rest
concat_onto [] rest = refl
concat_onto (p ∷ ps) rest = append_assoc p (concat ps) rest ∙ ap (λ (x : List ℕ). p ++ x) (concat_onto ps rest)

-- a text that is at a place, and what comes after it
pub cut : (at next : ℕ) (text block rest : List ℕ) → next ≡ at + length text → IsAt at text block → drop next block ≡ rest → drop at block ≡ text ++ rest
cut at next text block rest place stands after =
    let tail : drop (length text) (drop at block) ≡ drop next block = drop-drop (length text) at block ∙ ap (λ (n : ℕ). drop n block) (sym place) in
    sym (take-append-drop (length text) (drop at block)) ∙ ap (λ (x : List ℕ). x ++ drop (length text) (drop at block)) stands ∙ ap (λ (x : List ℕ). text ++ x) (tail ∙ after)

abbrev pub IsBytes : List ℕ → Type 0
IsBytes bytes = (i : ℕ) → get_or bytes i 0 < 256

cell : (at n i j : ℕ) (block : List ℕ) → i < n → j ≡ at + i → get_or (take n (drop at block)) i 0 ≡ get_or block j 0
cell at n i j block lt e = get_or-take n (drop at block) i 0 lt ∙ get_or-drop at block i 0 ∙ ap (λ (k : ℕ). get_or block k 0) (sym e)

fits : (at n : ℕ) (block : List ℕ) → IsBytes block → at + n ≤ length block → (i : ℕ) → get_or (take n (drop at block)) i 0 < 256
fits at n block bytes room i = elim (cases_lt i n) [
  | inl lt ↦ rw (cell at n i (at + i) block lt refl) (bytes (at + i))
  | inr le ↦ rw (get_or_past (take n (drop at block)) i 0 (omega (arith, length-take n (drop at block)))) (omega arith)
]

pub u16_stands : (at : ℕ) (block : List ℕ) (n : ℕ) → IsBytes block → at + 2 ≤ length block → u16_at at block ≡ n → IsAt at (to_le_bytes w16 n) block
u16_stands at block n bytes room e =
    sym (le_bytes_2 (take 2 (drop at block)) n (omega (arith, length-take 2 (drop at block), length-drop at block)) (fits at 2 block bytes room)
    (omega (arith, e, cell at 2 0 at block (omega arith) (omega arith), cell at 2 1 (at + 1) block (omega arith) refl)))

pub u32_stands : (at : ℕ) (block : List ℕ) (n : ℕ) → IsBytes block → at + 4 ≤ length block → u32_at at block ≡ n → IsAt at (to_le_bytes w32 n) block
u32_stands at block n bytes room e =
    sym (le_bytes_4 (take 4 (drop at block)) n (omega (arith, length-take 4 (drop at block), length-drop at block)) (fits at 4 block bytes room)
    (omega (arith, e, cell at 4 0 at block (omega arith) (omega arith), cell at 4 1 (at + 1) block (omega arith) refl, cell at 4 2 (at + 2) block (omega arith) refl, cell at 4 3 (at + 2 + 1) block (omega arith) (omega arith))))

pub u64_stands : (at : ℕ) (block : List ℕ) (n : ℕ) → IsBytes block → at + 8 ≤ length block → u64_at at block ≡ n → IsAt at (to_le_bytes w64 n) block
u64_stands at block n bytes room e =
    sym (le_bytes_8 (take 8 (drop at block)) n (omega (arith, length-take 8 (drop at block), length-drop at block)) (fits at 8 block bytes room)
    (omega (
      arith,
      e,
      cell at 8 0 at block (omega arith) (omega arith),
      cell at 8 1 (at + 1) block (omega arith) refl,
      cell at 8 2 (at + 2) block (omega arith) refl,
      cell at 8 3 (at + 2 + 1) block (omega arith) (omega arith),
      cell at 8 4 (at + 4) block (omega arith) refl,
      cell at 8 5 (at + 4 + 1) block (omega arith) (omega arith),
      cell at 8 6 (at + 4 + 2) block (omega arith) (omega arith),
      cell at 8 7 (at + 4 + 2 + 1) block (omega arith) (omega arith),
    )))

-- a byte is where it is read
pub u8_stands : (at : ℕ) (block : List ℕ) (n : ℕ) → at < length block → get_or block at 0 ≡ n → IsAt at (n ∷ []) block
u8_stands at block n room e =
    let split = drop-cons block at 0 room in
    ap (take 1) split ∙ ap (λ (x : ℕ). x ∷ []) e
