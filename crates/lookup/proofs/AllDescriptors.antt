-- The descriptors of all extents of a file, of those in its entry and in its descriptor blocks.
use Rattle.std.proofs.Common.{◌≡◌, ℕ, zero, suc, ◌+◌, ◌-◌, ◌*◌, ◌/◌, ◌<◌, ◌≤◌, List, [], ◌∷◌, ◌++◌, length, take, drop, slice_get, slice_index, Some, refl, sym, ap, subst, ◌∙◌, inl, inr, arith, append_assoc, length-append, length-take}
use Rattle.std.specs.Prelude.{min}
use Rattle.std.specs.Int.{div_ceil}
use Rattle.std.proofs.lemmas.Bool.{cases_lt}
use Rattle.std.proofs.lemmas.List.{drop_at, get_or-take, get_or_append_left, take_all}
use Rattle.std.proofs.lemmas.Option.{same_Some}
use Rattle.limits.specs.declared.TheConstants.{BLOCK_BYTES, BLOCK_DESCRIPTORS, ENTRY_DESCRIPTORS, FILE_BYTES, PARTITION_START}
use Rattle.ecma.specs.Numbers.{u32_at}
use Rattle.icb.specs.Extents.{AreDescriptorBlocks, AreEntryDescriptors, AreExtents, HaveDescriptors, IsDescriptorBlock, all_descriptors, descriptor_blocks, descriptors_in, extent_count, listed, next_number, slots}
use Rattle.icb.proofs.DescriptorBlocks.{all_are, all_long, block_long}
use Rattle.icb.proofs.DescriptorParts.{listed_all, listed_some, listed_within}
use Rattle.durability.specs.Volume as volume
use Rattle.durability.specs.Volume.{AreListed, Medium, descriptors_at, firsts_at}
use Rattle.durability.proofs.Lists.{get-take}
use Rattle.udf.specs.Udf.{udf}
use Rattle.udf.proofs.Extents.{first_at, u32_past}
use Rattle.recover.proofs.Listed.{same_count}
use Rattle.lookup.specs.Descriptors.{HasDescriptorBlock}

-- ---- numbers in parts of bytes

cell_front : (i : ℕ) (xs ys : List ℕ) → i < length xs → slice_index (xs ++ ys) i ≡ slice_index xs i
cell_front i xs ys lt = get_or_append_left xs ys 0 i lt

u32_front : (i : ℕ) (xs ys : List ℕ) → i + 4 ≤ length xs → u32_at i (xs ++ ys) ≡ u32_at i xs
u32_front i xs ys room =
    omega (
      arith,
      cell_front i xs ys (omega (arith, room)),
      cell_front (i + 1) xs ys (omega (arith, room)),
      cell_front (i + 2) xs ys (omega (arith, room)),
      cell_front (i + 2 + 1) xs ys (omega (arith, room)),
    )

u32_behind : (i n : ℕ) (xs ys : List ℕ) → length xs ≡ n → u32_at (n + i) (xs ++ ys) ≡ u32_at i ys
u32_behind i n xs ys long = sym (u32_past n i (xs ++ ys)) ∙ ap (u32_at i) (drop_at xs ys n long)

u32_part : (i n : ℕ) (xs : List ℕ) → i + 4 ≤ n → u32_at i (take n xs) ≡ u32_at i xs
u32_part i n xs room =
    omega (
      arith,
      get_or-take n xs i 0 (omega (arith, room)),
      get_or-take n xs (i + 1) 0 (omega (arith, room)),
      get_or-take n xs (i + 2) 0 (omega (arith, room)),
      get_or-take n xs (i + 2 + 1) 0 (omega (arith, room)),
    )

-- the first block number of one of the descriptors before the last, and of those after it
first_before : (k : ℕ) (list rest : List ℕ) → 16 * (k + 2) ≤ length list → u32_at (16 * k + 4) (take (length list - 16) list ++ rest) ≡ u32_at (16 * k + 4) list
first_before k list rest room =
    u32_front (16 * k + 4) (take (length list - 16) list) rest (omega (arith, room, length-take (length list - 16) list)) ∙ u32_part (16 * k + 4) (length list - 16) list (omega (arith, room))

first_after : (n k : ℕ) (list rest : List ℕ) → length list ≡ 16 * (n + 1) → n ≤ k → u32_at (16 * k + 4) (take (length list - 16) list ++ rest) ≡ u32_at (16 * (k - n) + 4) rest
first_after n k list rest long past =
    ap (λ (i : ℕ). u32_at i (take (length list - 16) list ++ rest)) (let place : 16 * k + 4 ≡ 16 * n + (16 * (k - n) + 4) = omega (arith, past) in place)
    ∙ u32_behind (16 * (k - n) + 4) (16 * n) (take (length list - 16) list) rest (omega (arith, long, length-take (length list - 16) list))

-- ---- a descriptor of a descriptor block

-- the first block number of an extent whose descriptor is in one of the blocks
pub record InBlock (size number k j : ℕ) (blocks : List (List ℕ)) (all : List ℕ) : Type 0 where
  pub block : List ℕ
  pub there : slice_get blocks j ≡ Some block
  pub is : IsDescriptorBlock (size - FILE_BYTES * (125 * j)) (number + j) block
  pub first : u32_at (16 * k + 4) all ≡ u32_at (16 * (k - 125 * j) + 4) (descriptors_in block)

same_block : (s t n m : ℕ) (block : List ℕ) → s ≡ t → n ≡ m → IsDescriptorBlock s n block → IsDescriptorBlock t m block
same_block s t n m block e f is = subst (λ (i : ℕ). IsDescriptorBlock t i block) f (subst (λ (i : ℕ). IsDescriptorBlock i n block) e is)

in_next : (size number k j : ℕ) (list rest block : List ℕ) (blocks : List (List ℕ)) → length list ≡ 16 * 126 → 125 ≤ k → InBlock (size - FILE_BYTES * 125) (suc number) (k - 125) j blocks rest
    → InBlock size number k (suc j) (block ∷ blocks) (take (length list - 16) list ++ rest)
in_next size number k j list rest block blocks long high r = record {
  block = r.block;
  there = r.there;
  is = same_block (size - FILE_BYTES * 125 - FILE_BYTES * (125 * j)) (size - FILE_BYTES * (125 * suc j)) (suc number + j) (number + suc j) r.block (omega arith) (omega arith) r.is;
  first = first_after 125 k list rest long high ∙ r.first ∙ ap (λ (i : ℕ). u32_at i (descriptors_in r.block)) (let same : 16 * (k - 125 - 125 * j) + 4 ≡ 16 * (k - 125 * suc j) + 4 = omega arith in same);
}

in_blocks : (size number k j : ℕ) (block : List ℕ) (blocks : List (List ℕ)) → AreDescriptorBlocks size number (block ∷ blocks) → suc (length blocks) ≡ (extent_count size + 123) / 125
    → k < extent_count size → j ≡ min (k / 125) (length blocks) → InBlock size number k j (block ∷ blocks) (all_descriptors (descriptors_in block) blocks)
in_blocks size number k zero block [] are many lt e = record {
  block = block;
  there = refl;
  is = same_block size (size - FILE_BYTES * (125 * 0)) number (number + 0) block (omega arith) (omega arith) are.0;
  first = ap (λ (i : ℕ). u32_at i (descriptors_in block)) (let same : 16 * k + 4 ≡ 16 * (k - 125 * 0) + 4 = omega arith in same);
}
in_blocks size number k (suc j) block [] are many lt e = absurd (omega (arith, e))
in_blocks size number k zero block (next ∷ blocks) are many lt e =
    let long = block_long size number block are.0 in
    record {
      block = block;
      there = refl;
      is = same_block size (size - FILE_BYTES * (125 * 0)) number (number + 0) block (omega arith) (omega arith) are.0;
      first = first_before k (descriptors_in block) (all_descriptors (descriptors_in next) blocks) (omega (arith, long, many, e))
          ∙ ap (λ (i : ℕ). u32_at i (descriptors_in block)) (let same : 16 * k + 4 ≡ 16 * (k - 125 * 0) + 4 = omega arith in same);
    }
in_blocks size number k (suc j) block (next ∷ blocks) are many lt e =
    let long = block_long size number block are.0 in
    let high : 125 ≤ k = omega (arith, e) in
    let left : extent_count (size - FILE_BYTES * 125) + 125 ≡ extent_count size = omega (arith, many) in
    in_next size number k j (descriptors_in block) (all_descriptors (descriptors_in next) blocks) block (next ∷ blocks) (omega (arith, long, many)) high
    (in_blocks (size - FILE_BYTES * 125) (suc number) (k - 125) j next blocks are.1 (omega (arith, many, left)) (omega (arith, lt, left, high)) (omega (arith, e, high)))

-- ---- a descriptor of all

-- it is in the entry
pub first_in_entry : (size k : ℕ) (d : List ℕ) (blocks : List (List ℕ)) → length d ≡ 16 * slots ENTRY_DESCRIPTORS size → length blocks ≡ descriptor_blocks size → k < listed ENTRY_DESCRIPTORS size
    → u32_at (16 * k + 4) (all_descriptors d blocks) ≡ u32_at (16 * k + 4) d
first_in_entry size k d [] long many lt = refl
first_in_entry size k d (block ∷ blocks) long many lt =
    let more : ENTRY_DESCRIPTORS < extent_count size = omega (arith, many) in
    first_before k d (all_descriptors (descriptors_in block) blocks) (omega (arith, long, more, lt, listed_some ENTRY_DESCRIPTORS size more))

-- an extent whose descriptor is not in the entry
pub beyond_entry : (size k : ℕ) → listed ENTRY_DESCRIPTORS size ≤ k → k < extent_count size → ENTRY_DESCRIPTORS < extent_count size
beyond_entry size k high lt = elim (cases_lt ENTRY_DESCRIPTORS (extent_count size)) [
  | inl more ↦ more
  | inr few ↦ absurd (omega (arith, high, lt, listed_all ENTRY_DESCRIPTORS size few))
]

-- or in a descriptor block
behind_entry : (size number k j : ℕ) (d rest : List ℕ) (blocks : List (List ℕ)) → length d ≡ 16 * 117 → 116 ≤ k → InBlock size number (k - 116) j blocks rest
    → (block : List ℕ) × (slice_get blocks j ≡ Some block) × (u32_at (16 * k + 4) (take (length d - 16) d ++ rest) ≡ u32_at (16 * (k - 116 - 125 * j) + 4) (descriptors_in block))
behind_entry size number k j d rest blocks long past r = (r.block, r.there, first_after 116 k d rest long past ∙ r.first)

pub first_in_block : (size number k j : ℕ) (d : List ℕ) (blocks : List (List ℕ)) → length d ≡ 16 * slots ENTRY_DESCRIPTORS size → HaveDescriptors size number blocks → length blocks ≡ descriptor_blocks size
    → listed ENTRY_DESCRIPTORS size ≤ k → k < extent_count size → j ≡ min ((k - 116) / 125) (descriptor_blocks size - 1)
    → (block : List ℕ) × (slice_get blocks j ≡ Some block) × (u32_at (16 * k + 4) (all_descriptors d blocks) ≡ u32_at (16 * (k - 116 - 125 * j) + 4) (descriptors_in block))
first_in_block size number k j d [] long are many high lt e =
    let few : extent_count size ≤ ENTRY_DESCRIPTORS = omega (arith, many) in
    absurd (omega (arith, high, lt, listed_all ENTRY_DESCRIPTORS size few))
first_in_block size number k j d (block ∷ blocks) long are many high lt e =
    let more : ENTRY_DESCRIPTORS < extent_count size = omega (arith, many) in
    let past : 116 ≤ k = omega (arith, high, listed_some ENTRY_DESCRIPTORS size more) in
    let left : extent_count (size - FILE_BYTES * 116) + 116 ≡ extent_count size = omega (arith, more) in
    behind_entry (size - FILE_BYTES * 116) number k j d (all_descriptors (descriptors_in block) blocks) (block ∷ blocks) (omega (arith, long, more)) past
    (in_blocks (size - FILE_BYTES * 116) number (k - 116) j block blocks are (omega (arith, many, left)) (omega (arith, lt, left, past)) (omega (arith, e, many)))

-- ---- blocks one after another

-- the descriptors of extents in an entry and in these blocks, if others follow
abbrev pub gathered : List ℕ → List (List ℕ) → List ℕ
gathered d [] = take (length d - 16) d
gathered d (block ∷ blocks) = take (length d - 16) d ++ gathered (descriptors_in block) blocks

gathered_more : (d : List ℕ) (blocks : List (List ℕ)) (block : List ℕ) → gathered d (blocks ++ block ∷ []) ≡ gathered d blocks ++ take (length (descriptors_in block) - 16) (descriptors_in block)
gathered_more d [] block = refl
gathered_more d (b ∷ bs) block =
    ap (λ (xs : List ℕ). take (length d - 16) d ++ xs) (gathered_more (descriptors_in b) bs block) ∙ sym (append_assoc (take (length d - 16) d) (gathered (descriptors_in b) bs) (take (length (descriptors_in block) - 16) (descriptors_in block)))

gathered_all : (d : List ℕ) (blocks : List (List ℕ)) (block : List ℕ) → all_descriptors d (blocks ++ block ∷ []) ≡ gathered d blocks ++ descriptors_in block
gathered_all d [] block = refl
gathered_all d (b ∷ bs) block =
    ap (λ (xs : List ℕ). take (length d - 16) d ++ xs) (gathered_all (descriptors_in b) bs block) ∙ sym (append_assoc (take (length d - 16) d) (gathered (descriptors_in b) bs) (descriptors_in block))

blocks_more : (size number : ℕ) (blocks : List (List ℕ)) (block : List ℕ) → AreDescriptorBlocks size number blocks → IsDescriptorBlock (size - FILE_BYTES * (125 * length blocks)) (number + length blocks) block
    → AreDescriptorBlocks size number (blocks ++ block ∷ [])
blocks_more size number [] block are is = (same_block (size - FILE_BYTES * (125 * 0)) size (number + 0) number block (omega arith) (omega arith) is, tt)
blocks_more size number (b ∷ bs) block are is = (
  are.0,
  blocks_more (size - FILE_BYTES * 125) (suc number) bs block are.1
      (same_block (size - FILE_BYTES * (125 * suc (length bs))) (size - FILE_BYTES * 125 - FILE_BYTES * (125 * length bs)) (number + suc (length bs)) (suc number + length bs) block (omega arith) (omega arith) is),
)

block_of : (size number k : ℕ) (blocks : List (List ℕ)) → AreDescriptorBlocks size number blocks → k < length blocks
    → (block : List ℕ) × (slice_get blocks k ≡ Some block) × IsDescriptorBlock (size - FILE_BYTES * (125 * k)) (number + k) block
block_of size number k [] are lt = absurd (omega (arith, lt))
block_of size number zero (b ∷ bs) are lt = (b, refl, same_block size (size - FILE_BYTES * (125 * 0)) number (number + 0) b (omega arith) (omega arith) are.0)
block_of size number (suc k) (b ∷ bs) are lt =
    let r = block_of (size - FILE_BYTES * 125) (suc number) k bs are.1 (omega (arith, lt)) in
    (r.0, r.1, same_block (size - FILE_BYTES * 125 - FILE_BYTES * (125 * k)) (size - FILE_BYTES * (125 * suc k)) (suc number + k) (number + suc k) r.0 (omega arith) (omega arith) r.2)

-- ---- on a medium

get-drop : (s k : ℕ) (xs : List (List ℕ)) → slice_get (drop s xs) k ≡ slice_get xs (s + k)
get-drop zero k xs = ap (slice_get xs) (omega arith)
get-drop (suc s) k [] = refl
get-drop (suc s) k (x ∷ xs) = get-drop s k xs ∙ ap (slice_get (x ∷ xs)) (let e : suc (s + k) ≡ suc s + k = omega arith in e)

take_next : (n : ℕ) (xs : List (List ℕ)) (x : List ℕ) → slice_get xs n ≡ Some x → take (n + 1) xs ≡ take n xs ++ x ∷ []
take_next n [] x e = cc
take_next zero (y ∷ ys) x e = ap (λ (z : List ℕ). z ∷ []) (same_Some y x e)
take_next (suc n) (y ∷ ys) x e = ap (λ (m : ℕ). take m (y ∷ ys)) (let s : suc n + 1 ≡ suc (n + 1) = omega arith in s) ∙ ap (λ (zs : List (List ℕ)). y ∷ zs) (take_next n ys x e)

-- the blocks so far, and the descriptors gathered from them
pub record Gathers (honest : Type 0) (M : List (List ℕ)) (size first number : ℕ) (d items : List ℕ) : Type 0 where
  pub blocks : List (List ℕ)
  pub many : length blocks ≡ number
  pub are : HaveDescriptors size first blocks
  pub there : honest → blocks ≡ take number (drop (first + PARTITION_START) M)
  pub front : number < descriptor_blocks size → items ≡ gathered d blocks
  pub all : number ≡ descriptor_blocks size → items ≡ all_descriptors d blocks

pub gathers_none : (honest : Type 0) (M : List (List ℕ)) (size first : ℕ) (d items : List ℕ) → length d ≡ 16 * slots ENTRY_DESCRIPTORS size → 0 < descriptor_blocks size → items ≡ take (16 * (ENTRY_DESCRIPTORS - 1)) d → Gathers honest M size first 0 d items
gathers_none honest M size first d items long some is = record {
  blocks = [];
  many = refl;
  are = tt;
  there = λ h. refl;
  front = λ lt. is ∙ ap (λ (n : ℕ). take n d) (let e : 16 * (ENTRY_DESCRIPTORS - 1) ≡ length d - 16 = omega (arith, long, some) in e);
  all = λ e. absurd (omega (arith, some, e));
}

-- with one more, which others follow, and with the last
more_front : (d : List ℕ) (blocks : List (List ℕ)) (block items more : List ℕ) (n : ℕ) → items ≡ gathered d blocks → more ≡ items ++ take n (descriptors_in block) → n ≡ length (descriptors_in block) - 16 → more ≡ gathered d (blocks ++ block ∷ [])
more_front d blocks block items more n before added count = added ∙ (λ i. before i ++ take (count i) (descriptors_in block)) ∙ sym (gathered_more d blocks block)

more_all : (d : List ℕ) (blocks : List (List ℕ)) (block items more : List ℕ) (n : ℕ) → items ≡ gathered d blocks → more ≡ items ++ take n (descriptors_in block) → length (descriptors_in block) ≤ n → more ≡ all_descriptors d (blocks ++ block ∷ [])
more_all d blocks block items more n before added count = added ∙ (λ i. before i ++ take_all n (descriptors_in block) count i) ∙ sym (gathered_all d blocks block)

pub gathers_more : (before after : Type 0) (M : List (List ℕ)) (size first number : ℕ) (d items more : List ℕ) (block : List ℕ) → Gathers before M size first number d items → number < descriptor_blocks size
    → IsDescriptorBlock (size - FILE_BYTES * (ENTRY_DESCRIPTORS - 1 + (BLOCK_DESCRIPTORS - 1) * number)) (first + number) block
    → (after → before) → (after → slice_get M (first + number + PARTITION_START) ≡ Some block)
    → more ≡ items ++ take (16 * listed BLOCK_DESCRIPTORS (size - FILE_BYTES * (ENTRY_DESCRIPTORS - 1 + (BLOCK_DESCRIPTORS - 1) * number))) (descriptors_in block)
    → Gathers after M size first (number + 1) d more
gathers_more before after M size first number d items more block g low is back there added =
    let s = size - FILE_BYTES * (ENTRY_DESCRIPTORS - 1 + (BLOCK_DESCRIPTORS - 1) * number) in
    let long = block_long s (first + number) block is in
    record {
      blocks = g.blocks ++ block ∷ [];
      many = omega (arith, g.many, length-append g.blocks (block ∷ []));
      are = blocks_more (size - FILE_BYTES * 116) first g.blocks block g.are
          (same_block s (size - FILE_BYTES * 116 - FILE_BYTES * (125 * length g.blocks)) (first + number) (first + length g.blocks) block (omega (arith, g.many)) (omega (arith, g.many)) is);
      there = λ h.
          let at : slice_get (drop (first + PARTITION_START) M) number ≡ Some block =
          get-drop (first + PARTITION_START) number M ∙ ap (slice_get M) (let e : first + PARTITION_START + number ≡ first + number + PARTITION_START = omega arith in e) ∙ there h in
          ap (λ (bs : List (List ℕ)). bs ++ block ∷ []) (g.there (back h)) ∙ sym (take_next number (drop (first + PARTITION_START) M) block at);
      front = λ lt.
          let full : BLOCK_DESCRIPTORS < extent_count s = omega (arith, lt) in
          more_front d g.blocks block items more (16 * listed BLOCK_DESCRIPTORS s) (g.front low) added (omega (arith, long, full, listed_some BLOCK_DESCRIPTORS s full));
      all = λ e.
          let few : extent_count s ≤ BLOCK_DESCRIPTORS = omega (arith, e) in
          more_all d g.blocks block items more (16 * listed BLOCK_DESCRIPTORS s) (g.front low) added (omega (arith, long, few, listed_all BLOCK_DESCRIPTORS s few));
    }

-- ---- what is read

-- an entry that has the descriptors of all extents
pub entry_alone : (M : Medium) (size : ℕ) (d : List ℕ) → descriptor_blocks size ≡ 0 → d ≡ all_descriptors d (descriptors_at udf M size d)
entry_alone M size d none = ap (λ (n : ℕ). all_descriptors d (take n (drop (next_number d + PARTITION_START) M))) (sym (same_count size ∙ none))

pub entry_are : (size : ℕ) (d : List ℕ) → descriptor_blocks size ≡ 0 → AreEntryDescriptors 0 size d → AreExtents 0 size d
entry_are size d none are k lt = are.2.extents k (omega (arith, lt, listed_all ENTRY_DESCRIPTORS size (omega (arith, none))))

-- as many as there are extents, those of each
pub gathered_long : (honest : Type 0) (M : Medium) (size first number : ℕ) (d items : List ℕ) → Gathers honest M size first number d items → number ≡ descriptor_blocks size
    → length d ≡ 16 * slots ENTRY_DESCRIPTORS size → AreEntryDescriptors 0 size d → (length items ≡ 16 * extent_count size) × AreExtents 0 size items
gathered_long honest M size first number d items g last long are =
    let is = g.all last in
    let many : length g.blocks ≡ descriptor_blocks size = g.many ∙ last in (
      ap (λ (xs : List ℕ). length xs) is ∙ all_long size first d g.blocks long are many g.are,
      subst (λ (xs : List ℕ). AreExtents 0 size xs) (sym is) (all_are size first d g.blocks long are many g.are),
    )

-- the blocks lie below an address where their bytes do, and the other way round
pub end_below : (first count at : ℕ) → first + PARTITION_START + div_ceil (count * BLOCK_BYTES) BLOCK_BYTES ≤ at → first + PARTITION_START + count ≤ at
end_below first count at below = omega (arith, below)

pub below_end : (first count at : ℕ) → first + PARTITION_START + count ≤ at → first + PARTITION_START + div_ceil (count * BLOCK_BYTES) BLOCK_BYTES ≤ at
below_end first count at below = omega (arith, below)

-- the block that is there
pub same_read : (M : List (List ℕ)) (number size : ℕ) (block : List ℕ) → HasDescriptorBlock M number size → slice_get M (number + PARTITION_START) ≡ Some block → IsDescriptorBlock size number block
same_read M number size block has there = subst (λ (b : List ℕ). IsDescriptorBlock size number b) (same_Some has.block block (sym has.there ∙ there)) has.is

-- a descriptor of an extent is one of those in the block
pub in_list : (size number : ℕ) (block : List ℕ) → IsDescriptorBlock size number block → 16 * listed BLOCK_DESCRIPTORS size ≤ length (descriptors_in block)
in_list size number block is = omega (arith, block_long size number block is, listed_within BLOCK_DESCRIPTORS size)

-- so is that of an extent in the block that has it
pub place_in_block : (size number k j : ℕ) (block : List ℕ) → FILE_BYTES * k < size → listed ENTRY_DESCRIPTORS size ≤ k → j ≡ min ((k - listed ENTRY_DESCRIPTORS size) / (BLOCK_DESCRIPTORS - 1)) (descriptor_blocks size - 1)
    → IsDescriptorBlock (size - FILE_BYTES * (ENTRY_DESCRIPTORS - 1 + (BLOCK_DESCRIPTORS - 1) * j)) number block
    → 16 * (k - listed ENTRY_DESCRIPTORS size - (BLOCK_DESCRIPTORS - 1) * j) + 16 ≤ length (descriptors_in block)
place_in_block size number k j block begins high e is =
    let lt : k < extent_count size = omega (arith, begins) in
    let more : ENTRY_DESCRIPTORS < extent_count size = beyond_entry size k high lt in
    let count : listed ENTRY_DESCRIPTORS size ≡ 116 = listed_some ENTRY_DESCRIPTORS size more in
    let s = size - FILE_BYTES * (ENTRY_DESCRIPTORS - 1 + (BLOCK_DESCRIPTORS - 1) * j) in
    let left : extent_count s ≡ extent_count size - (116 + 125 * j) = omega arith in
    omega (arith, block_long s number block is, left, count, e, lt, more)

pub some_block : (size k : ℕ) → FILE_BYTES * k < size → listed ENTRY_DESCRIPTORS size ≤ k → 0 < descriptor_blocks size
some_block size k begins high =
    let more : ENTRY_DESCRIPTORS < extent_count size = beyond_entry size k high (omega (arith, begins)) in
    omega (arith, more)

module _ (M : Medium) (size : ℕ) (d : List ℕ) (long : length d ≡ 16 * slots ENTRY_DESCRIPTORS size) (are : AreEntryDescriptors 0 size d) (l : AreListed udf M size d) where
  blocks_many : length (descriptors_at udf M size d) ≡ descriptor_blocks size
  blocks_many = l.there ∙ same_count size

  -- the block number of an extent
  first_is : (k first : ℕ) → FILE_BYTES * k < size → u32_at (16 * k + 4) (all_descriptors d (descriptors_at udf M size d)) ≡ first → slice_get (firsts_at udf M size d) k ≡ Some first
  first_is k first begins is =
      let all = all_descriptors d (descriptors_at udf M size d) in
      let many = all_long size (next_number d) d (descriptors_at udf M size d) long are blocks_many l.are in
      let fits : k < length all / 16 = omega (arith, many, begins) in
      first_at (length all / 16) all k fits ∙ ap (λ (n : ℕ). Some n) is

  -- whose descriptor is in the entry
  pub first_here : (k first : ℕ) → FILE_BYTES * k < size → k < listed ENTRY_DESCRIPTORS size → first ≡ u32_at (16 * k + 4) d → slice_get (firsts_at udf M size d) k ≡ Some first
  first_here k first begins low is = first_is k first begins (first_in_entry size k d (descriptors_at udf M size d) long blocks_many low ∙ sym is)

  -- a descriptor block is on the medium
  block_there : (j : ℕ) → j < descriptor_blocks size → slice_get (descriptors_at udf M size d) j ≡ slice_get M (next_number d + j + PARTITION_START)
  block_there j low =
      get-take (volume.descriptor_blocks size) (drop (next_number d + PARTITION_START) M) j (omega (arith, low, same_count size)) ∙ get-drop (next_number d + PARTITION_START) j M
      ∙ ap (slice_get M) (let e : next_number d + PARTITION_START + j ≡ next_number d + j + PARTITION_START = omega arith in e)

  block_listed : (j : ℕ) → j < descriptor_blocks size → HasDescriptorBlock M (next_number d + j) (size - FILE_BYTES * (ENTRY_DESCRIPTORS - 1 + (BLOCK_DESCRIPTORS - 1) * j))
  block_listed j low =
      let r = block_of (size - FILE_BYTES * 116) (next_number d) j (descriptors_at udf M size d) l.are (omega (arith, blocks_many, low)) in
      record {
        block = r.0;
        there = sym (block_there j low) ∙ r.1;
        is = same_block (size - FILE_BYTES * 116 - FILE_BYTES * (125 * j)) (size - FILE_BYTES * (ENTRY_DESCRIPTORS - 1 + (BLOCK_DESCRIPTORS - 1) * j)) (next_number d + j) (next_number d + j) r.0 (omega arith) refl r.2;
      }

  pub block_seen : (N : Medium) (first j bytes : ℕ) → N ≡ M → first ≡ next_number d → bytes ≡ size - FILE_BYTES * (ENTRY_DESCRIPTORS - 1 + (BLOCK_DESCRIPTORS - 1) * j) → j < descriptor_blocks size → HasDescriptorBlock N (first + j) bytes
  block_seen N first j bytes same from is low =
      let b = block_listed j low in
      record {
        block = b.block;
        there = ap (λ (L : Medium). slice_get L (first + j + PARTITION_START)) same ∙ ap (λ (n : ℕ). slice_get M (n + j + PARTITION_START)) from ∙ b.there;
        is = same_block (size - FILE_BYTES * (ENTRY_DESCRIPTORS - 1 + (BLOCK_DESCRIPTORS - 1) * j)) bytes (next_number d + j) (first + j) b.block (sym is) (omega (arith, from)) b.is;
      }

  pub listed_is : (first j bytes : ℕ) (block : List ℕ) → first ≡ next_number d → bytes ≡ size - FILE_BYTES * (ENTRY_DESCRIPTORS - 1 + (BLOCK_DESCRIPTORS - 1) * j) → j < descriptor_blocks size
      → slice_get M (first + j + PARTITION_START) ≡ Some block → IsDescriptorBlock bytes (first + j) block
  listed_is first j bytes block from is low there =
      same_read M (first + j) bytes block (block_seen M first j bytes refl from is low) there

  -- which has an extent's descriptor
  pub first_there : (k j first : ℕ) (block : List ℕ) → FILE_BYTES * k < size → listed ENTRY_DESCRIPTORS size ≤ k → j ≡ min ((k - listed ENTRY_DESCRIPTORS size) / (BLOCK_DESCRIPTORS - 1)) (descriptor_blocks size - 1)
      → slice_get M (next_number d + j + PARTITION_START) ≡ Some block → first ≡ u32_at (16 * (k - listed ENTRY_DESCRIPTORS size - (BLOCK_DESCRIPTORS - 1) * j) + 4) (descriptors_in block)
      → slice_get (firsts_at udf M size d) k ≡ Some first
  first_there k j first block begins high e there is =
      let blocks = descriptors_at udf M size d in
      let lt : k < extent_count size = omega (arith, begins) in
      let more : ENTRY_DESCRIPTORS < extent_count size = beyond_entry size k high lt in
      let count : listed ENTRY_DESCRIPTORS size ≡ 116 = listed_some ENTRY_DESCRIPTORS size more in
      let low : j < descriptor_blocks size = omega (arith, e, more) in
      let r = first_in_block size (next_number d) k j d blocks long l.are blocks_many high lt (e ∙ ap (λ (n : ℕ). min ((k - n) / 125) (descriptor_blocks size - 1)) count) in
      let same : r.0 ≡ block = same_Some r.0 block (sym r.1 ∙ block_there j low ∙ there) in
      first_is k first begins
      (r.2 ∙ ap (λ (x : List ℕ). u32_at (16 * (k - 116 - 125 * j) + 4) (descriptors_in x)) same
      ∙ ap (λ (n : ℕ). u32_at (16 * (k - n - 125 * j) + 4) (descriptors_in block)) (sym count) ∙ sym is)
