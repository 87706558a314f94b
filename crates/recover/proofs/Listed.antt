-- Descriptor blocks, read one after another.
use Rattle.std.proofs.Common.{◌≡◌, ℕ, zero, suc, ◌+◌, ◌-◌, ◌*◌, ◌/◌, ◌<◌, ◌≤◌, min, Bool, cond, inr, List, [], ◌∷◌, ◌++◌, length, take, drop, get_or, Option, Some, None, refl, sym, ap, ◌∙◌, subst, append-nil, length-append, length-drop, length-take, arith}
use Rattle.std.specs.Prelude.{IfSome, slice_get}
use Rattle.std.proofs.lemmas.Bool.{eq-eqb, ne_eqb}
use Rattle.std.proofs.lemmas.List.{drop-append-le, drop_more, get_or_append_left, length-take-le, nil_from_length, take-append-drop, take_all}
use Rattle.std.proofs.lemmas.Option.{get_or_from_slice_get, slice_get-get_or, none-some, same_Some, slice_get_past, slice_get_within}
use Rattle.limits.specs.declared.TheConstants.{BLOCK_BYTES, BLOCK_DESCRIPTORS, ENTRY_DESCRIPTORS, FILE_BYTES, PARTITION_BLOCKS, PARTITION_START}
use Rattle.ecma.specs.Numbers.{u32_at}
use Rattle.model.proofs.Lists.{get-take}
use Rattle.icb.specs.Extents.{AreDescriptorBlocks, AreEntryDescriptors, HaveDescriptors, IsDescriptorBlock, IsExtent, all_descriptors, descriptor_blocks, descriptors_in, extent_count, extent_size, listed, next_number, slots}
use Rattle.icb.proofs.DescriptorBlocks.{all_are, all_long, block_descriptors, block_long, leads_there}
use Rattle.icb.proofs.DescriptorParts.{listed_all, listed_some, listed_within}
use Rattle.durability.specs.Volume.{AreListed, descriptors_at, firsts_at, descriptor_blocks as blocks_for_size}
use Rattle.udf.specs.Udf.{all_firsts, firsts_in, udf}
use Rattle.udf.proofs.Extents.{firsts_many}
use Rattle.recover.specs.declared.directory.Extent.{Extent}
use Rattle.recover.specs.declared.fault.StoreFault.{StoreFault}
use Rattle.recover.specs.declared.fault.StoreFault.TheVariants.{Device, Damaged}
use Rattle.recover.specs.Extents.{IsBlockRefused}
use Rattle.recover.specs.ReadCache.{IsUnlisted}
use Rattle.recover.specs.Walk.{blocks_extent, last_listed, last_of, later_of}
use Rattle.recover.proofs.LastExtent.{AllExtents, FitsExtent, blocks_hold, extent_at, first_extents_fit}

-- ---- lists of descriptors

u32_left : (at : ℕ) (xs ys : List ℕ) → at + 4 ≤ length xs → u32_at at (xs ++ ys) ≡ u32_at at xs
u32_left at xs ys within =
    omega (
      arith,
      get_or_append_left xs ys 0 at (omega (arith, within)),
      get_or_append_left xs ys 0 (at + 1) (omega (arith, within)),
      get_or_append_left xs ys 0 (at + 2) (omega (arith, within)),
      get_or_append_left xs ys 0 (at + 2 + 1) (omega (arith, within)),
    )

firsts_append : (n m : ℕ) (xs ys : List ℕ) → length xs ≡ 16 * n → firsts_in (n + m) (xs ++ ys) ≡ firsts_in n xs ++ firsts_in m ys
firsts_append zero m xs ys long =
    ap (λ (k : ℕ). firsts_in k (xs ++ ys)) (let e : 0 + m ≡ m = omega arith in e)
    ∙ ap (λ (zs : List ℕ). firsts_in m (zs ++ ys)) (nil_from_length xs long)
firsts_append (suc n) m xs ys long =
    let first = u32_left 4 xs ys (omega (arith, long)) in
    let rest : firsts_in (n + m) (drop 16 (xs ++ ys)) ≡ firsts_in n (drop 16 xs) ++ firsts_in m ys =
    ap (firsts_in (n + m)) (drop-append-le 16 xs ys (omega (arith, long))) ∙ firsts_append n m (drop 16 xs) ys (omega (arith, long, length-drop 16 xs)) in
    ap (λ (k : ℕ). firsts_in k (xs ++ ys)) (let e : suc n + m ≡ suc (n + m) = omega arith in e)
    ∙ (λ i. first i ∷ rest i)

-- the block numbers of whole descriptors and of others after them
pub all_firsts_append : (n : ℕ) (xs ys : List ℕ) → length xs ≡ 16 * n → all_firsts (xs ++ ys) ≡ all_firsts xs ++ all_firsts ys
all_firsts_append n xs ys long =
    let all : length (xs ++ ys) / 16 ≡ n + length ys / 16 = omega (arith, long, length-append xs ys) in
    let here : n ≡ length xs / 16 = omega (arith, long) in
    ap (λ (k : ℕ). firsts_in k (xs ++ ys)) all
    ∙ firsts_append n (length ys / 16) xs ys long
    ∙ ap (λ (k : ℕ). firsts_in k xs ++ firsts_in (length ys / 16) ys) here

-- and of the first descriptors
pub all_firsts_take : (n : ℕ) (xs : List ℕ) → 16 * n ≤ length xs → all_firsts (take (16 * n) xs) ≡ firsts_in n xs
all_firsts_take n xs within =
    let long : length (take (16 * n) xs) ≡ 16 * n = length-take-le (16 * n) xs within in
    let count : length (take (16 * n) xs) / 16 ≡ n = omega (arith, long) in
    ap (λ (k : ℕ). firsts_in k (take (16 * n) xs)) count
    ∙ sym (append-nil (firsts_in n (take (16 * n) xs)))
    ∙ sym (firsts_append n 0 (take (16 * n) xs) (drop (16 * n) xs) long)
    ∙ ap (λ (k : ℕ). firsts_in k (take (16 * n) xs ++ drop (16 * n) xs)) (let e : n + 0 ≡ n = omega arith in e)
    ∙ ap (firsts_in n) (take-append-drop (16 * n) xs)

-- the one that ends last of some, and then of others
pub last_append : (last : Option Extent) (size : ℕ) (xs ys : List ℕ) → last_of last size (xs ++ ys) ≡ last_of (last_of last size xs) (size - FILE_BYTES * length xs) ys
last_append last size [] ys = ap (λ (m : ℕ). last_of last m ys) (let e : size ≡ size - FILE_BYTES * 0 = omega arith in e)
last_append last size (x ∷ xs) ys =
    let now : Option Extent = Some (later_of last (record { first = x; size = min size FILE_BYTES })) in
    last_append now (size - FILE_BYTES) xs ys
    ∙ ap (λ (m : ℕ). last_of (last_of now (size - FILE_BYTES) xs) m ys) (let e : size - FILE_BYTES - FILE_BYTES * length xs ≡ size - FILE_BYTES * suc (length xs) = omega arith in e)

-- ---- blocks of a medium

-- a block, and those after it
from_more : (M : List (List ℕ)) (start count i : ℕ) (block : List ℕ) → slice_get M (start + i) ≡ Some block → i < count
    → take (count - i) (drop (start + i) M) ≡ block ∷ take (count - (i + 1)) (drop (start + (i + 1)) M)
from_more M start count i block there lt =
    let here = get_or_from_slice_get M (start + i) block [] there in
    ap (take (count - i)) (drop_more M (start + i) [] (slice_get_within M (start + i) block there))
    ∙ (λ j. take (count - i) (here j ∷ drop (start + i + 1) M))
    ∙ ap (λ (n : ℕ). take n (block ∷ drop (start + i + 1) M)) (let e : count - i ≡ suc (count - (i + 1)) = omega (arith, lt) in e)
    ∙ ap (λ (n : ℕ). block ∷ take (count - (i + 1)) (drop n M)) (let e : start + i + 1 ≡ start + (i + 1) = omega arith in e)

-- those that are there end before the medium does
pub part_ends : (s c : ℕ) (M : List (List ℕ)) → 0 < c → length (take c (drop s M)) ≡ c → s + c ≤ length M
part_ends s c M some there = omega (arith, some, there, length-take c (drop s M), length-drop s M)

pub part_within : (s c : ℕ) (M : List (List ℕ)) → s + c ≤ length M → length (take c (drop s M)) ≡ c
part_within s c M within = length-take-le c (drop s M) (omega (arith, within, length-drop s M))

-- ---- the extents of a file of several

-- how many bytes are in the extents whose descriptors begin in a descriptor block
abbrev pub bytes_from : ℕ → ℕ → ℕ
bytes_from size i = size - FILE_BYTES * (ENTRY_DESCRIPTORS - 1 + (BLOCK_DESCRIPTORS - 1) * i)

-- as the formats count descriptor blocks
pub same_count : (size : ℕ) → blocks_for_size size ≡ descriptor_blocks size
same_count size = omega arith

-- a descriptor block has room for all that are left if it is the last
last_has_all : (size i : ℕ) → i < descriptor_blocks size → descriptor_blocks size - (i + 1) ≡ 0 → extent_count (bytes_from size i) ≤ BLOCK_DESCRIPTORS
last_has_all size i lt last = omega (arith, lt, last)

more_are_left : (size i : ℕ) → 0 < descriptor_blocks size - (i + 1) → BLOCK_DESCRIPTORS < extent_count (bytes_from size i)
more_are_left size i more = omega (arith, more)

-- the descriptors of the extents that begin in these blocks
abbrev pub remaining : List (List ℕ) → List ℕ
remaining [] = []
remaining (block ∷ blocks) = all_descriptors (descriptors_in block) blocks

-- those in one of them
abbrev pub list_of : ℕ → List ℕ → List ℕ
list_of size block = take (16 * listed BLOCK_DESCRIPTORS size) (descriptors_in block)

module _ (size number : ℕ) (block : List ℕ) (is : IsDescriptorBlock size number block) where
  list_long : length (list_of size block) ≡ 16 * listed BLOCK_DESCRIPTORS size
  list_long = length-take-le (16 * listed BLOCK_DESCRIPTORS size) (descriptors_in block) (omega (arith, block_long size number block is, listed_within BLOCK_DESCRIPTORS size))

  -- the extents of the descriptors in it end in the partition
  pub list_fits : AllExtents FitsExtent size (all_firsts (list_of size block))
  list_fits =
      let n = listed BLOCK_DESCRIPTORS size in
      let within : 16 * n ≤ length (descriptors_in block) = omega (arith, block_long size number block is, listed_within BLOCK_DESCRIPTORS size) in
      subst (AllExtents FitsExtent size) (sym (all_firsts_take n (descriptors_in block) within))
      (first_extents_fit n size (descriptors_in block) (omega (arith, listed_within BLOCK_DESCRIPTORS size))
      (λ k lt. subst (IsExtent (0 + 16 * k) (extent_size size k)) (sym (block_descriptors size number block is)) (is.are.extents k lt)))

  -- a block's extents come before those of the blocks after it
  remaining_more : (blocks : List (List ℕ)) → (length blocks ≡ 0 → extent_count size ≤ BLOCK_DESCRIPTORS) → (0 < length blocks → BLOCK_DESCRIPTORS < extent_count size)
      → all_firsts (remaining (block ∷ blocks)) ≡ all_firsts (list_of size block) ++ all_firsts (remaining blocks)
  remaining_more [] none some =
      let all : take (16 * listed BLOCK_DESCRIPTORS size) (descriptors_in block) ≡ descriptors_in block =
      take_all (16 * listed BLOCK_DESCRIPTORS size) (descriptors_in block) (omega (arith, block_long size number block is, listed_all BLOCK_DESCRIPTORS size (none refl))) in
      ap all_firsts (sym all) ∙ sym (append-nil (all_firsts (list_of size block)))
  remaining_more (b ∷ bs) none some =
      let more : BLOCK_DESCRIPTORS < extent_count size = some (omega arith) in
      let count : length (descriptors_in block) - 16 ≡ 16 * listed BLOCK_DESCRIPTORS size = omega (arith, block_long size number block is, listed_some BLOCK_DESCRIPTORS size more, more) in
      ap (λ (n : ℕ). all_firsts (take n (descriptors_in block) ++ all_descriptors (descriptors_in b) bs)) count
      ∙ all_firsts_append (listed BLOCK_DESCRIPTORS size) (list_of size block) (all_descriptors (descriptors_in b) bs) list_long

  -- and so of these the one that ends last
  last_more_blocks : (last : Option Extent) (blocks : List (List ℕ)) → (length blocks ≡ 0 → extent_count size ≤ BLOCK_DESCRIPTORS) → (0 < length blocks → BLOCK_DESCRIPTORS < extent_count size)
      → last_of last size (all_firsts (remaining (block ∷ blocks)))
      ≡ last_of (last_of last size (all_firsts (list_of size block))) (size - FILE_BYTES * (BLOCK_DESCRIPTORS - 1)) (all_firsts (remaining blocks))
  last_more_blocks last [] none some =
      ap (last_of last size) (remaining_more [] none some) ∙ last_append last size (all_firsts (list_of size block)) []
  last_more_blocks last (b ∷ bs) none some =
      let more : BLOCK_DESCRIPTORS < extent_count size = some (omega arith) in
      let here = all_firsts (list_of size block) in
      let many : length here ≡ BLOCK_DESCRIPTORS - 1 =
      firsts_many (length (list_of size block) / 16) (list_of size block) ∙ omega (arith, list_long, listed_some BLOCK_DESCRIPTORS size more) in
      ap (last_of last size) (remaining_more (b ∷ bs) none some)
      ∙ last_append last size here (all_firsts (remaining (b ∷ bs)))
      ∙ ap (λ (n : ℕ). last_of (last_of last size here) (size - FILE_BYTES * n) (all_firsts (remaining (b ∷ bs)))) many

-- the extents of which the entry has the descriptors, before the others
last_entry : (last : Option Extent) (size : ℕ) (descriptors : List ℕ) (blocks : List (List ℕ)) → length descriptors ≡ 16 * ENTRY_DESCRIPTORS → 0 < length blocks
    → last_of last size (all_firsts (all_descriptors descriptors blocks))
    ≡ last_of (last_of last size (all_firsts (take (16 * (ENTRY_DESCRIPTORS - 1)) descriptors))) (size - FILE_BYTES * (ENTRY_DESCRIPTORS - 1)) (all_firsts (remaining blocks))
last_entry last size descriptors [] long some = absurd (omega (arith, some))
last_entry last size descriptors (b ∷ bs) long some =
    let here = take (16 * (ENTRY_DESCRIPTORS - 1)) descriptors in
    let room : length here ≡ 16 * (ENTRY_DESCRIPTORS - 1) = length-take-le (16 * (ENTRY_DESCRIPTORS - 1)) descriptors (omega (arith, long)) in
    let many : length (all_firsts here) ≡ ENTRY_DESCRIPTORS - 1 = firsts_many (length here / 16) here ∙ omega (arith, room) in
    ap (λ (n : ℕ). last_of last size (all_firsts (take n descriptors ++ remaining (b ∷ bs)))) (let e : length descriptors - 16 ≡ 16 * (ENTRY_DESCRIPTORS - 1) = omega (arith, long) in e)
    ∙ ap (last_of last size) (all_firsts_append (ENTRY_DESCRIPTORS - 1) here (remaining (b ∷ bs)) room)
    ∙ last_append last size (all_firsts here) (all_firsts (remaining (b ∷ bs)))
    ∙ ap (λ (n : ℕ). last_of (last_of last size (all_firsts here)) (size - FILE_BYTES * n) (all_firsts (remaining (b ∷ bs)))) many

-- ---- what the descriptors of an entry say

module _ (size : ℕ) (descriptors : List ℕ) (long : length descriptors ≡ 16 * slots ENTRY_DESCRIPTORS size) (are : AreEntryDescriptors 0 size descriptors) where
  -- the descriptor blocks end in the partition
  pub blocks_end : 0 < descriptor_blocks size → next_number descriptors + descriptor_blocks size ≤ PARTITION_BLOCKS
  blocks_end some =
      let (next, within, parts) = are in
      let more : ENTRY_DESCRIPTORS < extent_count size = omega (arith, some) in
      let same = leads_there ENTRY_DESCRIPTORS size next descriptors (omega arith) more (omega (arith, within)) long parts in
      omega (arith, within, same)

  -- there are some, and they begin in it
  pub blocks_fit : IfSome (blocks_extent size descriptors) FitsExtent
  blocks_fit =
      blocks_hold FitsExtent size descriptors (λ some.
      let count = same_count size in
      let ends = blocks_end (omega (arith, some, count)) in
      (omega (arith, some), omega (arith, ends)))

  -- there are all extents
  module _ (M : List (List ℕ)) (listed : AreListed udf M size descriptors) where
    abbrev every : List ℕ
    every = all_descriptors descriptors (descriptors_at udf M size descriptors)

    every_long : length every ≡ 16 * extent_count size
    every_long = all_long size (next_number descriptors) descriptors (descriptors_at udf M size descriptors) long are (listed.there ∙ same_count size) listed.are

    pub firsts_number : length (firsts_at udf M size descriptors) ≡ extent_count size
    firsts_number = firsts_many (length every / 16) every ∙ omega (arith, every_long)

    pub firsts_fit : AllExtents FitsExtent size (firsts_at udf M size descriptors)
    firsts_fit =
        let are_extents = all_are size (next_number descriptors) descriptors (descriptors_at udf M size descriptors) long are (listed.there ∙ same_count size) listed.are in
        first_extents_fit (length every / 16) size every (omega (arith, every_long)) (λ k lt. are_extents k (omega (arith, every_long, lt)))

  -- those of the extents that the entry itself has
  entry_fits : (n : ℕ) → n ≤ listed ENTRY_DESCRIPTORS size → AllExtents FitsExtent size (firsts_in n descriptors)
  entry_fits n few = first_extents_fit n size descriptors (omega (arith, few, listed_within ENTRY_DESCRIPTORS size)) (λ k lt. are.2.extents k (omega (arith, lt, few)))

  pub all_fit : descriptor_blocks size ≡ 0 → AllExtents FitsExtent size (all_firsts descriptors)
  all_fit none =
      let few : extent_count size ≤ ENTRY_DESCRIPTORS = omega (arith, none) in
      entry_fits (length descriptors / 16) (omega (arith, long, listed_all ENTRY_DESCRIPTORS size few))

  pub first_fit : 0 < descriptor_blocks size → AllExtents FitsExtent size (all_firsts (take (16 * (ENTRY_DESCRIPTORS - 1)) descriptors))
  first_fit some =
      let more : ENTRY_DESCRIPTORS < extent_count size = omega (arith, some) in
      subst (AllExtents FitsExtent size) (sym (all_firsts_take (ENTRY_DESCRIPTORS - 1) descriptors (omega (arith, long, more))))
      (entry_fits (ENTRY_DESCRIPTORS - 1) (omega (arith, listed_some ENTRY_DESCRIPTORS size more)))

-- ---- no blocks

module _ (M : List (List ℕ)) (size : ℕ) (descriptors : List ℕ) (none : descriptor_blocks size ≡ 0) where
  none_at : descriptors_at udf M size descriptors ≡ []
  none_at = ap (λ (n : ℕ). take n (drop (next_number descriptors + PARTITION_START) M)) (same_count size ∙ none)

  pub none_listed : AreListed udf M size descriptors
  none_listed = record {
    there = ap (λ (bs : List (List ℕ)). length bs) none_at ∙ sym (same_count size ∙ none);
    are = subst (HaveDescriptors size (next_number descriptors)) (sym none_at) tt;
  }

  pub none_last : last_of None size (all_firsts descriptors) ≡ last_listed M size descriptors
  none_last =
      let no_extent : blocks_extent size descriptors ≡ None =
      ap (λ (b : Bool). cond b None (Some (extent_at (next_number descriptors) (BLOCK_BYTES * blocks_for_size size)))) (eq-eqb (blocks_for_size size) 0 (same_count size ∙ none)) in
      sym (ap (λ (bs : List (List ℕ)). last_of (blocks_extent size descriptors) size (all_firsts (all_descriptors descriptors bs))) none_at
      ∙ ap (λ (o : Option Extent). last_of o size (all_firsts descriptors)) no_extent)

-- ---- block by block

-- the address of the first
abbrev start : List ℕ → ℕ
start descriptors = next_number descriptors + PARTITION_START

module _ (M : List (List ℕ)) (size : ℕ) (descriptors : List ℕ) where
  -- the blocks from one on
  abbrev pub blocks_from : ℕ → List (List ℕ)
  blocks_from i = take (descriptor_blocks size - i) (drop (start descriptors + i) M)

  -- from there on they are as they should be
  abbrev pub AreFrom : ℕ → Type 0
  AreFrom i = AreDescriptorBlocks (bytes_from size i) (next_number descriptors + i) (blocks_from i)

  -- the one that ends last of one and those that are left
  abbrev pub last_from : Option Extent → ℕ → Option Extent
  last_from last i = last_of last (bytes_from size i) (all_firsts (remaining (blocks_from i)))

  from_none : blocks_from 0 ≡ descriptors_at udf M size descriptors
  from_none =
      ap (λ (n : ℕ). take n (drop (start descriptors + 0) M)) (let e : descriptor_blocks size - 0 ≡ blocks_for_size size = omega (arith, same_count size) in e)
      ∙ ap (λ (n : ℕ). take (blocks_for_size size) (drop n M)) (let e : start descriptors + 0 ≡ start descriptors = omega arith in e)

  -- where they are
  pub extent_is : 0 < descriptor_blocks size → blocks_extent size descriptors ≡ Some (extent_at (next_number descriptors) (BLOCK_BYTES * descriptor_blocks size))
  extent_is some =
      let count = same_count size in
      ap (λ (b : Bool). cond b None (Some (extent_at (next_number descriptors) (BLOCK_BYTES * blocks_for_size size)))) (ne_eqb (blocks_for_size size) 0 (λ none. omega (arith, none, some, count)))
      ∙ ap (λ (n : ℕ). Some (extent_at (next_number descriptors) (BLOCK_BYTES * n))) count

  -- all of them
  pub are_all : AreFrom 0 → HaveDescriptors size (next_number descriptors) (descriptors_at udf M size descriptors)
  are_all are =
      subst (HaveDescriptors size (next_number descriptors)) from_none
      (subst (λ (n : ℕ). AreDescriptorBlocks (size - FILE_BYTES * (ENTRY_DESCRIPTORS - 1)) n (blocks_from 0)) (let e : next_number descriptors + 0 ≡ next_number descriptors = omega arith in e) are)

  pub last_all : (last : Option Extent) → length descriptors ≡ 16 * ENTRY_DESCRIPTORS → 0 < descriptor_blocks size → start descriptors + descriptor_blocks size ≤ length M
      → last_from (last_of last size (all_firsts (take (16 * (ENTRY_DESCRIPTORS - 1)) descriptors))) 0 ≡ last_of last size (all_firsts (all_descriptors descriptors (descriptors_at udf M size descriptors)))
  last_all last long some within =
      let there : 0 < length (blocks_from 0) = omega (arith, some, part_within (start descriptors + 0) (descriptor_blocks size - 0) M (omega (arith, within))) in
      sym (last_entry last size descriptors (blocks_from 0) long there)
      ∙ ap (λ (blocks : List (List ℕ)). last_of last size (all_firsts (all_descriptors descriptors blocks))) from_none

  -- one block on
  module _ (i : ℕ) (lt : i < descriptor_blocks size) (block : List ℕ) (there : slice_get M (start descriptors + i) ≡ Some block) (is : IsDescriptorBlock (bytes_from size i) (next_number descriptors + i) block) where
    one_more : blocks_from i ≡ block ∷ blocks_from (i + 1)
    one_more = from_more M (start descriptors) (descriptor_blocks size) i block there lt

    left : bytes_from size i - FILE_BYTES * (BLOCK_DESCRIPTORS - 1) ≡ bytes_from size (i + 1)
    left = omega arith

    pub are_more : AreFrom (i + 1) → AreFrom i
    are_more are =
        subst (AreDescriptorBlocks (bytes_from size i) (next_number descriptors + i)) (sym one_more) (
          is,
          subst (λ (n : ℕ). AreDescriptorBlocks n (suc (next_number descriptors + i)) (blocks_from (i + 1))) (sym left)
              (subst (λ (n : ℕ). AreDescriptorBlocks (bytes_from size (i + 1)) n (blocks_from (i + 1))) (let e : next_number descriptors + (i + 1) ≡ suc (next_number descriptors + i) = omega arith in e) are),
        )

    pub last_on : (last now : Option Extent) → start descriptors + descriptor_blocks size ≤ length M → now ≡ last_of last (bytes_from size i) (all_firsts (list_of (bytes_from size i) block)) → last_from now (i + 1) ≡ last_from last i
    last_on last now within ends =
        let long = part_within (start descriptors + (i + 1)) (descriptor_blocks size - (i + 1)) M (omega (arith, within, lt)) in
        let s = bytes_from size i in
        let rest = all_firsts (remaining (blocks_from (i + 1))) in
        ap (λ (o : Option Extent). last_of o (bytes_from size (i + 1)) rest) ends
        ∙ ap (λ (n : ℕ). last_of (last_of last s (all_firsts (list_of s block))) n rest) (sym left)
        ∙ sym (last_more_blocks s (next_number descriptors + i) block is last (blocks_from (i + 1))
        (λ none. last_has_all size i lt (omega (arith, none, long))) (λ some. more_are_left size i (omega (arith, some, long))))
        ∙ ap (λ (blocks : List (List ℕ)). last_of last s (all_firsts (remaining blocks))) (sym one_more)

  -- none is left
  none_from : (i : ℕ) → descriptor_blocks size ≤ i → blocks_from i ≡ []
  none_from i le = ap (λ (n : ℕ). take n (drop (start descriptors + i) M)) (let e : descriptor_blocks size - i ≡ 0 = omega (arith, le) in e)

  pub are_none : (i : ℕ) → descriptor_blocks size ≤ i → AreFrom i
  are_none i le = subst (AreDescriptorBlocks (bytes_from size i) (next_number descriptors + i)) (sym (none_from i le)) tt

  pub last_none_left : (last : Option Extent) (i : ℕ) → descriptor_blocks size ≤ i → last_from last i ≡ last
  last_none_left last i le = ap (λ (blocks : List (List ℕ)). last_of last (bytes_from size i) (all_firsts (remaining blocks))) (none_from i le)

-- ---- a block that is refused

-- each of them is a descriptor block
block_at : (i size number : ℕ) (blocks : List (List ℕ)) (block : List ℕ) → AreDescriptorBlocks size number blocks → slice_get blocks i ≡ Some block
    → IsDescriptorBlock (size - FILE_BYTES * ((BLOCK_DESCRIPTORS - 1) * i)) (number + i) block
block_at i size number [] block are there = absurd (none-some block there)
block_at zero size number (b ∷ bs) block are there =
    subst (λ (n : ℕ). IsDescriptorBlock n (number + 0) block) (let e : size ≡ size - FILE_BYTES * ((BLOCK_DESCRIPTORS - 1) * 0) = omega arith in e)
    (subst (λ (n : ℕ). IsDescriptorBlock size n block) (let e : number ≡ number + 0 = omega arith in e)
    (subst (IsDescriptorBlock size number) (same_Some b block there) are.0))
block_at (suc i) size number (b ∷ bs) block are there =
    let step = BLOCK_DESCRIPTORS - 1 in
    subst (λ (n : ℕ). IsDescriptorBlock n (number + suc i) block) (let e : size - FILE_BYTES * step - FILE_BYTES * (step * i) ≡ size - FILE_BYTES * (step * suc i) = omega arith in e)
    (subst (λ (n : ℕ). IsDescriptorBlock (size - FILE_BYTES * step - FILE_BYTES * (step * i)) n block) (let e : suc number + i ≡ number + suc i = omega arith in e)
    (block_at i (size - FILE_BYTES * step) (suc number) bs block are.1 there))

-- a block of those that lie below an address
get_part : (s c i : ℕ) (M : List (List ℕ)) → i < c → slice_get (take c (drop s M)) i ≡ slice_get M (s + i)
get_part s c i M lt = get-take c (drop s M) i lt ∙ get-drop s M i
  where
    get-drop : (s : ℕ) (M : List (List ℕ)) (i : ℕ) → slice_get (drop s M) i ≡ slice_get M (s + i)
    get-drop zero M i = ap (slice_get M) (let e : i ≡ 0 + i = omega arith in e)
    get-drop (suc s) [] i = sym (slice_get_past [] (suc s + i) (omega arith))
    get-drop (suc s) (b ∷ bs) i = get-drop s bs i ∙ ap (slice_get (b ∷ bs)) (let e : suc (s + i) ≡ suc s + i = omega arith in e)

module _ (M : List (List ℕ)) (below entry_at size : ℕ) (descriptors : List ℕ) where
  -- the blocks do not end below
  pub too_far : 0 < descriptor_blocks size → (next_number descriptors + PARTITION_START + descriptor_blocks size ≤ below → ⊥) → AreListed udf (take below M) size descriptors → ⊥
  too_far some far listed =
      let count = same_count size in
      let ends = part_ends (start descriptors) (blocks_for_size size) (take below M) (omega (arith, some, count)) listed.there in
      far (omega (arith, ends, count, length-take below M))

  -- one is none
  not_listed : (i : ℕ) → i < descriptor_blocks size
      → ((block : List ℕ) → slice_get M (next_number descriptors + i + PARTITION_START) ≡ Some block → IsDescriptorBlock (bytes_from size i) (next_number descriptors + i) block → ⊥)
      → AreListed udf (take below M) size descriptors → ⊥
  not_listed i lt never listed =
      let count = same_count size in
      let first = start descriptors in
      let blocks = descriptors_at udf (take below M) size descriptors in
      let ends = part_ends first (blocks_for_size size) (take below M) (omega (arith, lt, count)) listed.there in
      let block = get_or blocks i [] in
      let there : slice_get blocks i ≡ Some block = slice_get-get_or blocks i [] (omega (arith, lt, count, listed.there)) in
      let is = block_at i (size - FILE_BYTES * (ENTRY_DESCRIPTORS - 1)) (next_number descriptors) blocks block listed.are there in
      let at_start : slice_get M (first + i) ≡ Some block =
      sym (get-take below M (first + i) (omega (arith, lt, count, ends, length-take below M))) ∙ sym (get_part first (blocks_for_size size) i (take below M) (omega (arith, lt, count))) ∙ there in
      never block (subst (λ (n : ℕ). slice_get M n ≡ Some block) (let e : first + i ≡ next_number descriptors + i + PARTITION_START = omega arith in e) at_start)
      (subst (λ (n : ℕ). IsDescriptorBlock n (next_number descriptors + i) block)
      (let e : size - FILE_BYTES * (ENTRY_DESCRIPTORS - 1) - FILE_BYTES * ((BLOCK_DESCRIPTORS - 1) * i) ≡ bytes_from size i = omega arith in e) is)

  block_refused : (i : ℕ) → i < descriptor_blocks size → (fault : StoreFault) → IsBlockRefused M (next_number descriptors + i) (bytes_from size i) fault → IsUnlisted M below entry_at size descriptors fault
  block_refused i lt Device refused = tt
  block_refused i lt (Damaged at cause) refused = (
    (let where_at = refused.0 in let count = same_count size in inr (omega (arith, where_at), omega (arith, where_at, lt, count))),
    not_listed i lt (λ block there. refused.1 block (subst (λ (n : ℕ). slice_get M n ≡ Some block) (sym refused.0) there)),
  )
  block_refused i lt _ refused = absurd refused

  -- as it was read
  pub read_refused : (i : ℕ) → i < descriptor_blocks size → (N : List (List ℕ)) (number bytes : ℕ) → N ≡ M → number ≡ next_number descriptors → bytes ≡ bytes_from size i
      → (fault : StoreFault) → IsBlockRefused N (number + i) bytes fault → IsUnlisted M below entry_at size descriptors fault
  read_refused i lt N number bytes medium first left fault refused =
      block_refused i lt fault
      (subst (λ (K : List (List ℕ)). IsBlockRefused K (next_number descriptors + i) (bytes_from size i) fault) medium
      (subst (λ (n : ℕ). IsBlockRefused N (n + i) (bytes_from size i) fault) first
      (subst (λ (n : ℕ). IsBlockRefused N (number + i) n fault) left refused)))
