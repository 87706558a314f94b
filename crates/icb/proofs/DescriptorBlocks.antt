-- The allocation descriptors of a file: those in its entry and those in its descriptor blocks are those of its extents.
use Rattle.std.proofs.Common.{min, ◌≡◌, ℕ, suc, ◌*◌, ◌/◌, ◌^◌, ◌+◌, ◌-◌, ◌<◌, ◌≤◌, List, [], ◌∷◌, ◌++◌, length, take, drop, sym, ap, subst, ◌∙◌, inl, inr, arith}
use Rattle.std.proofs.lemmas.Bool.{cases_lt}
use Rattle.std.proofs.lemmas.List.{drop-append-le, drop-drop, drop-take, drop_at, length-append, length-drop, length-take, take-append-le, take-take}
use Rattle.limits.specs.declared.TheConstants.{BLOCK_DESCRIPTORS, ENTRY_DESCRIPTORS, FILE_BYTES}
use Rattle.ecma.specs.Field.{IsAt}
use Rattle.ecma.specs.Numbers.{u32_at}
use Rattle.icb.specs.Extents.{AreDescriptorBlocks, AreDescriptors, AreEntryDescriptors, AreExtents, HaveDescriptors, IsDescriptorBlock, IsExtent, all_descriptors, descriptor_blocks, descriptors_in, extent_count, extent_size, long_descriptor, next_descriptor, next_number, slots}
use Rattle.icb.proofs.DescriptorParts.{listed_all, listed_some}
use Rattle.icb.proofs.DescriptorReads.{part_is, reads}
use Rattle.icb.proofs.EntryLaws.{descriptor_first}

-- the descriptors in a descriptor block are those that it says
pub block_descriptors : (size number : ℕ) (block : List ℕ) (is : IsDescriptorBlock size number block) → descriptors_in block ≡ is.descriptors
block_descriptors size number block is = part_is is.descriptors block (reads number is.descriptors block (omega (arith, is.long)) is.whole)

pub block_long : (size number : ℕ) (block : List ℕ) → IsDescriptorBlock size number block → length (descriptors_in block) ≡ 16 * slots BLOCK_DESCRIPTORS size
block_long size number block is = ap length (block_descriptors size number block is) ∙ is.long

pub block_are : (size number : ℕ) (block : List ℕ) → IsDescriptorBlock size number block → AreDescriptors BLOCK_DESCRIPTORS 0 size (suc number) (descriptors_in block)
block_are size number block is = subst (λ (x : List ℕ). AreDescriptors 126 0 size (suc number) x) (sym (block_descriptors size number block is)) is.are

-- the last of the descriptors leads to the block that it says
pub leads_there : (room size next : ℕ) (descriptors : List ℕ) → 0 < room → room < extent_count size → next < 2 ^ 32 → length descriptors ≡ 16 * slots room size → AreDescriptors room 0 size next descriptors
    → next_number descriptors ≡ next
leads_there room size next descriptors some more fits long are =
    let last = 16 * (room - 1) in
    let place : length descriptors - 12 ≡ last + 4 = omega (arith, long, some, more) in
    ap (λ (n : ℕ). u32_at n descriptors) place
    ∙ descriptor_first last 3_221_227_520 next descriptors fits (subst (λ (n : ℕ). IsAt n (next_descriptor next) descriptors) (let same : 0 + last ≡ last = omega arith in same) (are.leads more))

-- the text at a place in the front of bytes, and in what comes after the front
pub at_front : (at n : ℕ) (text front rest : List ℕ) → at + length text ≤ n → n ≤ length front → IsAt at text front → IsAt at text (take n front ++ rest)
at_front at n text front rest within room stands =
    let len : length (take n front) ≡ n = omega (arith, length-take n front) in
    let some : at ≤ length (take n front) = omega (arith, len, within) in
    let split : n ≡ at + (n - at) = omega (arith, within) in
    let cut : drop at (take n front) ≡ take (n - at) (drop at front) = ap (λ (m : ℕ). drop at (take m front)) split ∙ drop-take at (n - at) front in
    let left : length text ≤ length (drop at (take n front)) = omega (arith, length-drop at (take n front), len, within) in
    ap (take (length text)) (drop-append-le at (take n front) rest some)
    ∙ take-append-le (length text) (drop at (take n front)) rest left
    ∙ ap (take (length text)) cut
    ∙ take-take (length text) (n - at) (drop at front) (omega (arith, within))
    ∙ stands

pub at_rest : (at n : ℕ) (text front rest : List ℕ) → length front ≡ n → IsAt at text rest → IsAt (n + at) text (front ++ rest)
at_rest at n text front rest long stands =
    ap (take (length text)) (sym (drop-drop at n (front ++ rest)) ∙ ap (drop at) (drop_at front rest n long)) ∙ stands

-- how many extents are left after those that are listed before a block, and how many blocks
left_over : (room size : ℕ) → 0 < room → room < extent_count size → extent_count (size - FILE_BYTES * (room - 1)) + (room - 1) ≡ extent_count size
left_over room size some more = omega (arith, some, more)

-- an extent that is left has the size that it has in the whole
size_left : (room size k : ℕ) → extent_size (size - FILE_BYTES * room) k ≡ extent_size size (room + k)
size_left room size k = ap (λ (n : ℕ). min n 1_048_576) (let same : size - 1_048_576 * room - 1_048_576 * k ≡ size - 1_048_576 * (room + k) = omega arith in same)

-- the descriptors of extents, and of all of them
record AreAll (size : ℕ) (all : List ℕ) : Type 0 where
  long : length all ≡ 16 * extent_count size
  are : AreExtents 0 size all

-- those in one place are followed by those of the extents that are left
followed : (room size next : ℕ) (descriptors rest : List ℕ) → 0 < room → room < extent_count size → length descriptors ≡ 16 * slots room size → AreDescriptors room 0 size next descriptors
    → AreAll (size - FILE_BYTES * (room - 1)) rest → AreAll size (take (length descriptors - 16) descriptors ++ rest)
followed room size next descriptors rest some more long are left =
    let before = room - 1 in
    let n = 16 * before in
    let cut : length descriptors - 16 ≡ n = omega (arith, long, some, more) in
    let front : List ℕ = take (length descriptors - 16) descriptors in
    let front-long : length front ≡ n = omega (arith, length-take (length descriptors - 16) descriptors, cut) in
    let count : extent_count (size - FILE_BYTES * before) + before ≡ extent_count size = left_over room size some more in
    let all : List ℕ = front ++ rest in
    record {
      long = length-append front rest ∙ omega (arith, front-long, left.long, count);
      are = λ k lt. elim (cases_lt k before) [
        | inl low ↦
            let e = are.extents k (omega (arith, low, listed_some room size more)) in
            (e.0, e.1, at_front (0 + 16 * k) (length descriptors - 16) (long_descriptor (extent_size size k) e.0) descriptors rest (omega (arith, cut, low)) (omega arith) e.2)
        | inr high ↦
            let j = k - before in
            let e = left.are j (omega (arith, lt, count, high)) in
            let text : List ℕ = long_descriptor (extent_size (size - FILE_BYTES * before) j) e.0 in
            let there : IsExtent (n + (0 + 16 * j)) (extent_size (size - FILE_BYTES * before) j) all = (e.0, e.1, at_rest (0 + 16 * j) n text front rest front-long e.2) in
            let k-is : before + j ≡ k = omega (arith, high) in
            subst (λ (at : ℕ). IsExtent at (extent_size size k) all) (let at-is : n + (0 + 16 * j) ≡ 0 + 16 * k = omega (arith, high) in at-is)
            (subst (λ (m : ℕ). IsExtent (n + (0 + 16 * j)) m all) (size_left before size j ∙ ap (extent_size size) k-is) there)
      ];
    }

-- the descriptors of one place and of the blocks after it
chain : (room size next number : ℕ) (descriptors : List ℕ) (blocks : List (List ℕ)) → 0 < room → length descriptors ≡ 16 * slots room size → AreDescriptors room 0 size next descriptors
    → length blocks ≡ (extent_count size - room + (BLOCK_DESCRIPTORS - 2)) / (BLOCK_DESCRIPTORS - 1) → AreDescriptorBlocks (size - FILE_BYTES * (room - 1)) number blocks
    → AreAll size (all_descriptors descriptors blocks)
chain room size next number descriptors [] some long are count blocks-are =
    let few : extent_count size ≤ room = omega (arith, count) in
    record {
      long = omega (arith, long, few);
      are = λ k lt. are.extents k (omega (arith, lt, listed_all room size few));
    }
chain room size next number descriptors (block ∷ blocks) some long are count blocks-are =
    let more : room < extent_count size = omega (arith, count) in
    let left = size - FILE_BYTES * (room - 1) in
    let rest : AreAll left (all_descriptors (descriptors_in block) blocks) =
    chain 126 left (suc number) (suc number) (descriptors_in block) blocks (omega arith) (block_long left number block blocks-are.0) (block_are left number block blocks-are.0)
    (omega (arith, count, more, left_over room size some more)) blocks-are.1 in
    followed room size next descriptors (all_descriptors (descriptors_in block) blocks) some more long are rest

-- the descriptors of a file, as many as it has extents
pub all_long : (size number : ℕ) (descriptors : List ℕ) (blocks : List (List ℕ)) → length descriptors ≡ 16 * slots ENTRY_DESCRIPTORS size → AreEntryDescriptors 0 size descriptors
    → length blocks ≡ descriptor_blocks size → HaveDescriptors size number blocks → length (all_descriptors descriptors blocks) ≡ 16 * extent_count size
all_long size number descriptors blocks long are count have = (chain 117 size are.0 number descriptors blocks (omega arith) long are.2 count have).long

-- each is that of the extent of its index
pub all_are : (size number : ℕ) (descriptors : List ℕ) (blocks : List (List ℕ)) → length descriptors ≡ 16 * slots ENTRY_DESCRIPTORS size → AreEntryDescriptors 0 size descriptors
    → length blocks ≡ descriptor_blocks size → HaveDescriptors size number blocks → AreExtents 0 size (all_descriptors descriptors blocks)
all_are size number descriptors blocks long are count have = (chain 117 size are.0 number descriptors blocks (omega arith) long are.2 count have).are
