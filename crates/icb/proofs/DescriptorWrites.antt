-- The block that is written for descriptors is their descriptor block.
use Rattle.std.proofs.Common.{◌≡◌, ℕ, suc, ◌*◌, ◌^◌, ◌+◌, ◌<◌, ◌≤◌, Bool, cond, List, [], ◌∷◌, ◌++◌, length, take, replicate, sym, ap, subst, ◌∙◌, inl, inr, arith}
use Rattle.std.specs.Int.{w16, w32, to_le_bytes}
use Rattle.std.proofs.lemmas.Bool.{cases_lt, le-leb, lt-leb}
use Rattle.std.proofs.lemmas.List.{append-nil, get_or-take, get_or_past, length-append, length-take, take_all}
use Rattle.ecma.specs.Descriptor.{IsDescriptor, descriptor_block}
use Rattle.ecma.proofs.Bytes.{bytes_append, bytes_concat, bytes_u16, bytes_u32, bytes_zeros}
use Rattle.ecma.proofs.Pieces.{IsBytes}
use Rattle.ecma.proofs.Seals.{is_block}
use Rattle.icb.specs.Extents.{AreDescriptors, AreExtents, IsDescriptorBlock, block_list, descriptors_body, descriptors_in, extent_count, extent_size, long_descriptor, next_descriptor, slots}
use Rattle.icb.proofs.DescriptorBlocks.{at_front, at_rest, block_descriptors}
use Rattle.icb.proofs.DescriptorParts.{listed_all, listed_some}

-- the block with a list of descriptors
written : (size number : ℕ) (list block : List ℕ) → number < 2 ^ 32 → IsBytes list → length list ≡ 16 * slots 126 size → AreDescriptors 126 0 size (suc number) list
    → block ≡ descriptor_block 258 number (descriptors_body list) → IsDescriptorBlock size number block × (descriptors_in block ≡ list)
written size number list block fits bytes long are block-is =
    let parts : List (List ℕ) = to_le_bytes w32 0 ∷ to_le_bytes w32 (length list) ∷ list ∷ [] in
    let body : IsBytes (descriptors_body list) = bytes_concat parts (bytes_u32 0, (bytes_u32 (length list), (bytes, tt))) in
    let size-is : length (descriptors_body list) ≡ 8 + length list = omega (arith, length-append list []) in
    let is : IsDescriptorBlock size number block = record {
      descriptors = list;
      long = long;
      are = are;
      whole = subst (IsDescriptor 258 number (descriptors_body list)) (sym block-is) (is_block 258 number (descriptors_body list) (omega arith) fits (omega (arith, size-is, long)) body);
    } in (is, block_descriptors size number block is)

-- the bytes of a descriptor that leads to a block
next_bytes : (number : ℕ) → IsBytes (next_descriptor number)
next_bytes number =
    bytes_concat (to_le_bytes w32 3_221_227_520 ∷ to_le_bytes w32 number ∷ to_le_bytes w16 0 ∷ replicate 6 0 ∷ []) (bytes_u32 3_221_227_520, (bytes_u32 number, (bytes_u16 0, (bytes_zeros 6, tt))))

-- a part of bytes is bytes
part_bytes : (n : ℕ) (bytes : List ℕ) → IsBytes bytes → IsBytes (take n bytes)
part_bytes n bytes fits i = elim (cases_lt i n) [
  | inl lt ↦ rw (get_or-take n bytes i 0 lt) (fits i)
  | inr le ↦ rw (get_or_past (take n bytes) i 0 (omega (arith, length-take n bytes, le))) (omega arith)
]

-- all of them in one block
pub written_all : (size number : ℕ) (descriptors block : List ℕ) → number < 2 ^ 32 → IsBytes descriptors → extent_count size ≤ 126 → length descriptors ≡ 16 * extent_count size → AreExtents 0 size descriptors
    → block ≡ descriptor_block 258 number (descriptors_body (descriptors ++ [])) → IsDescriptorBlock size number block × (descriptors_in block ≡ block_list descriptors number)
written_all size number descriptors block fits bytes few long are block-is =
    let each : AreDescriptors 126 0 size (suc number) descriptors = record {
      extents = λ k lt. are k (omega (arith, lt, listed_all 126 size few));
      leads = λ more. absurd (let no : ⊥ = omega (arith, more, few) in no);
    } in
    let both = written size number descriptors block fits bytes (omega (arith, long, few)) each
    (block-is ∙ ap (λ (x : List ℕ). descriptor_block 258 number (descriptors_body x)) (append-nil descriptors)) in
    let listed : block_list descriptors number ≡ descriptors =
    ap (λ (b : Bool). cond b descriptors (take (16 * 125) descriptors ++ next_descriptor (suc number))) (le-leb (length descriptors) 2_016 (omega (arith, long, few))) in
    (both.0, both.1 ∙ sym listed)

-- as many as there is room for, and one that leads to the next block
pub written_some : (size number : ℕ) (descriptors next block : List ℕ) → suc number < 2 ^ 32 → IsBytes descriptors → 126 < extent_count size → length descriptors ≡ 16 * extent_count size → AreExtents 0 size descriptors
    → next ≡ next_descriptor (suc number) → block ≡ descriptor_block 258 number (descriptors_body (take (16 * 125) descriptors ++ next))
    → IsDescriptorBlock size number block × (descriptors_in block ≡ block_list descriptors number)
written_some size number descriptors next block fits bytes more long are next-is block-is =
    let leads : List ℕ = next_descriptor (suc number) in
    let front : List ℕ = take (16 * 125) descriptors in
    let list : List ℕ = front ++ leads in
    let front-long : length front ≡ 16 * 125 = omega (arith, length-take (16 * 125) descriptors, long, more) in
    let list-long : length list ≡ 16 * slots 126 size = length-append front leads ∙ omega (arith, front-long, more) in
    let each : AreDescriptors 126 0 size (suc number) list = record {
      extents = λ k lt.
          let low : k < 125 = omega (arith, lt, listed_some 126 size more) in
          let e = are k (omega (arith, low, more)) in
          (e.0, e.1, at_front (0 + 16 * k) (16 * 125) (long_descriptor (extent_size size k) e.0) descriptors leads (omega (arith, low)) (omega (arith, long, more)) e.2);
      leads = λ _. at_rest 0 (16 * 125) leads front leads front-long (take_all 16 leads (omega arith));
    } in
    let both = written size number list block (omega (arith, fits)) (bytes_append front leads (part_bytes (16 * 125) descriptors bytes) (next_bytes (suc number))) list-long each
    (block-is ∙ ap (λ (x : List ℕ). descriptor_block 258 number (descriptors_body (front ++ x))) next-is) in
    let listed : block_list descriptors number ≡ list =
    ap (λ (b : Bool). cond b descriptors list) (lt-leb (length descriptors) 2_016 (omega (arith, long, more))) in
    (both.0, both.1 ∙ sym listed)
