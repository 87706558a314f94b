-- One more block, after those that were read.
use Rattle.std.proofs.Common.{◌≡◌, ℕ, inl, inr, ◌+◌, ◌-◌, ◌*◌, ◌<◌, ◌≤◌, List, [], ◌∷◌, ◌++◌, length, take, drop, Some, refl, sym, ap, ◌∙◌, arith, length-drop, length-append}
use Rattle.std.specs.Prelude.{slice_get, min}
use Rattle.std.specs.List.{flat_map}
use Rattle.std.proofs.Math.Seq.{take-append-add, take-nil}
use Rattle.std.proofs.lemmas.Bool.{cases_lt}
use Rattle.std.proofs.lemmas.Grind.{flat_map-append}
use Rattle.std.proofs.lemmas.List.{append-nil, get_or-drop, take_all, take_more}
use Rattle.std.proofs.lemmas.Option.{slice_get_within, get_or_from_slice_get}
use Rattle.limits.specs.declared.TheConstants.{BLOCK_BYTES}
use Rattle.recover.specs.Blocks.{blocks_at}

pub blocks_more : (M : List (List ℕ)) (at i : ℕ) (block : List ℕ) → slice_get M (at + i) ≡ Some block → blocks_at M at (i + 1) ≡ blocks_at M at i ++ block ∷ []
blocks_more M at i block there =
    let within : at + i < length M = slice_get_within M (at + i) block there in
    let lt : i < length (drop at M) = omega (arith, length-drop at M) in
    take_more (drop at M) i [] lt ∙ ap (λ (b : List ℕ). take i (drop at M) ++ b ∷ []) (rw get_or-drop (get_or_from_slice_get M (at + i) block [] there))

-- the first `size` bytes of so many blocks, each of 2,048 bytes
pub record Gathered (M : List (List ℕ)) (at i size : ℕ) (bytes : List ℕ) : Type 0 where
  pub bytes_are : bytes ≡ take size (flat_map (λ b. b) (blocks_at M at i))
  pub long : length (flat_map (λ b. b) (blocks_at M at i)) ≡ BLOCK_BYTES * i

take_over : (n : ℕ) (xs ys : List ℕ) → length xs ≤ n → take n (xs ++ ys) ≡ take n xs ++ take (n - length xs) ys
take_over n xs ys le =
    let e : n ≡ length xs + (n - length xs) = omega arith in
    ap (λ k. take k (xs ++ ys)) e ∙ (take-append-add xs ys (n - length xs) ∙ ap (λ zs. zs ++ take (n - length xs) ys) (sym (take_all n xs le)))

take_least : (n m : ℕ) (ys : List ℕ) → length ys ≡ m → take (min n m) ys ≡ take n ys
take_least n m ys e =
    elim (cases_lt n m) [
      | inl lt ↦ ap (λ k. take k ys) (omega arith)
      | inr le ↦ take_all (min n m) ys (omega arith) ∙ sym (take_all n ys (omega arith))
    ]

-- a read adds the block's bytes up to the end
pub bytes_more : (M : List (List ℕ)) (at i size : ℕ) (block bytes : List ℕ) → length block ≡ BLOCK_BYTES → slice_get M (at + i) ≡ Some block → BLOCK_BYTES * i ≤ size
    → Gathered M at i size bytes → Gathered M at (i + 1) size (bytes ++ take (min (size - i * BLOCK_BYTES) BLOCK_BYTES) block)
bytes_more M at i size block bytes long there inside h =
    let blocks = blocks_more M at i block there in
    let whole : flat_map (λ (b : List ℕ). b) (blocks_at M at (i + 1)) ≡ flat_map (λ (b : List ℕ). b) (blocks_at M at i) ++ block =
    ap (flat_map (λ (b : List ℕ). b)) blocks ∙ (flat_map-append (λ (b : List ℕ). b) (blocks_at M at i) (block ∷ []) ∙ ap (λ (xs : List ℕ). flat_map (λ (b : List ℕ). b) (blocks_at M at i) ++ xs) (append-nil block)) in
    record {
      bytes_are =
          let left = take_over size (flat_map (λ (b : List ℕ). b) (blocks_at M at i)) block (omega (arith, h.long)) in
          let rest : take (min (size - i * BLOCK_BYTES) BLOCK_BYTES) block ≡ take (size - length (flat_map (λ (b : List ℕ). b) (blocks_at M at i))) block =
          take_least (size - i * BLOCK_BYTES) BLOCK_BYTES block long ∙ ap (λ k. take k block) (omega (arith, h.long)) in
          cc (h.bytes_are, left, rest, ap (take size) whole);
      long = ap length whole ∙ (length-append (flat_map (λ (b : List ℕ). b) (blocks_at M at i)) block ∙ omega (arith, h.long, long));
    }

pub gathered_none : (M : List (List ℕ)) (at size : ℕ) → Gathered M at 0 size []
gathered_none M at size = record { bytes_are = sym (take-nil size); long = refl }
