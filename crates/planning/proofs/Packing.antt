-- Bytes in blocks: the whole ones, and what is left.
use Rattle.std.proofs.Common.{◌≡◌, ℕ, zero, suc, ◌*◌, ◌-◌, ◌/◌, ◌≤◌, ◌<◌, List, [], ◌∷◌, ◌++◌, length, take, drop, replicate, sym, ap, ◌∙◌, arith, append-nil}
use Rattle.std.specs.Int.{div_ceil}
use Rattle.std.proofs.lemmas.List.{drop-drop, length-drop, length-take, take_all}
use Rattle.std.specs.Simd.{first_chunks}
use Rattle.limits.specs.declared.TheConstants.{BLOCK_BYTES}
use Rattle.ecma.specs.Descriptor.{padded}
use Rattle.durability.specs.Plan.{blocks_from, packed}

-- the first block of bytes that fill it
filled : (bytes : List ℕ) → BLOCK_BYTES ≤ length bytes → take BLOCK_BYTES bytes ++ replicate (BLOCK_BYTES - length (take BLOCK_BYTES bytes)) 0 ≡ take BLOCK_BYTES bytes
filled bytes long =
    let none : BLOCK_BYTES - length (take BLOCK_BYTES bytes) ≡ 0 = omega (arith, length-take BLOCK_BYTES bytes) in
    ap (λ (n : ℕ). take BLOCK_BYTES bytes ++ replicate n 0) none ∙ append-nil (take BLOCK_BYTES bytes)

chunks_and_rest : (k n : ℕ) (bytes : List ℕ) → k * BLOCK_BYTES ≤ length bytes → k ≤ n
    → blocks_from n bytes ≡ first_chunks BLOCK_BYTES k bytes ++ blocks_from (n - k) (drop (k * BLOCK_BYTES) bytes)
chunks_and_rest zero n bytes long le = ap (λ (m : ℕ). blocks_from m bytes) (let e : n ≡ n - 0 = omega arith in e)
chunks_and_rest (suc k) zero bytes long le = absurd (omega arith)
chunks_and_rest (suc k) (suc n) bytes long le =
    let after = drop BLOCK_BYTES bytes in
    let rest : drop (k * BLOCK_BYTES) after ≡ drop (suc k * BLOCK_BYTES) bytes = drop-drop (k * BLOCK_BYTES) BLOCK_BYTES bytes ∙ ap (λ (m : ℕ). drop m bytes) (omega arith) in
    let count : n - k ≡ suc n - suc k = omega arith in
    ap (λ (b : List ℕ). b ∷ blocks_from n after) (filled bytes (omega arith))
    ∙ ap (λ (bs : List (List ℕ)). take BLOCK_BYTES bytes ∷ bs) (chunks_and_rest k n after (omega (arith, length-drop BLOCK_BYTES bytes)) (omega arith)
    ∙ ap (λ (r : List ℕ). first_chunks BLOCK_BYTES k after ++ blocks_from (n - k) r) rest
    ∙ ap (λ (m : ℕ). first_chunks BLOCK_BYTES k after ++ blocks_from m (drop (suc k * BLOCK_BYTES) bytes)) count)

pub packed_split : (bytes : List ℕ) → first_chunks BLOCK_BYTES (length bytes / BLOCK_BYTES) bytes ++ packed (drop (length bytes / BLOCK_BYTES * BLOCK_BYTES) bytes) ≡ packed bytes
packed_split bytes =
    let k = length bytes / BLOCK_BYTES in
    let rest = drop (k * BLOCK_BYTES) bytes in
    let left : div_ceil (length bytes) BLOCK_BYTES - k ≡ div_ceil (length rest) BLOCK_BYTES = omega (arith, length-drop (k * BLOCK_BYTES) bytes) in
    sym (chunks_and_rest k (div_ceil (length bytes) BLOCK_BYTES) bytes (omega arith) (omega arith)
    ∙ ap (λ (m : ℕ). first_chunks BLOCK_BYTES k bytes ++ blocks_from m rest) left)

-- less than a block
pub packed_short : (text : List ℕ) → 0 < length text → length text < BLOCK_BYTES → packed text ≡ padded text ∷ []
packed_short text some short =
    let one : div_ceil (length text) BLOCK_BYTES ≡ 1 = omega arith in
    ap (λ (n : ℕ). blocks_from n text) one ∙ ap (λ (b : List ℕ). (b ++ replicate (BLOCK_BYTES - length b) 0) ∷ []) (take_all BLOCK_BYTES text (omega arith))
