-- The descriptor blocks of a file whose entry has no room for the descriptors of all its extents.
use Rattle.std.proofs.Common.{◌≡◌, ℕ, suc, ◌+◌, ◌-◌, ◌*◌, ◌/◌, ◌<◌, ◌≤◌, Bool, List, [], ◌∷◌, ◌++◌, cond, length, min, take, drop, refl, sym, ap, subst, ◌∙◌, arith}
use Rattle.std.specs.Prelude.{if◌then◌else◌, nat_le}
use Rattle.std.proofs.lemmas.Bool.{le-leb, lt-leb}
use Rattle.std.proofs.lemmas.List.{drop-drop, length-append, length-drop, length-take, take-append-drop, take_at}
use Rattle.limits.specs.declared.TheConstants.{BLOCK_DESCRIPTORS, ENTRY_DESCRIPTORS, FILE_BYTES, PARTITION_BLOCKS}
use Rattle.durability.specs.Volume as volume
use Rattle.ecma.specs.Field.{IsAt}
use Rattle.icb.specs.Extents.{AreDescriptorBlocks, AreDescriptors, AreEntryDescriptors, AreExtents, IsDescriptorBlock, IsExtent, all_descriptors, block_list, descriptor_blocks, descriptors_in, extent_count, extent_size, long_descriptor, next_descriptor, next_number, slots}
use Rattle.icb.proofs.DescriptorBlocks.{at_front, at_rest, leads_there}
use Rattle.icb.proofs.DescriptorParts.{listed_all, listed_some}

-- both count the descriptor blocks of so many bytes
pub blocks_same : (size : ℕ) → volume.descriptor_blocks size ≡ descriptor_blocks size
blocks_same size = omega arith

-- ---- the extents that are left

-- how many they are
pub count_left : (size m : ℕ) → extent_count (size - FILE_BYTES * m) ≡ extent_count size - m
count_left size m = omega arith

pub long_left : (size m : ℕ) (all : List ℕ) → length all ≡ 16 * extent_count size → length (drop (16 * m) all) ≡ 16 * extent_count (size - FILE_BYTES * m)
long_left size m all long = omega (arith, long, length-drop (16 * m) all, count_left size m)

-- each has the size that it has in the whole
size_left : (size m k : ℕ) → extent_size (size - FILE_BYTES * m) k ≡ extent_size size (m + k)
size_left size m k = ap (λ (n : ℕ). min n 1_048_576) (let same : size - 1_048_576 * m - 1_048_576 * k ≡ size - 1_048_576 * (m + k) = omega arith in same)

-- their descriptors are the last ones
pub are_left : (size m : ℕ) (all : List ℕ) → AreExtents 0 size all → AreExtents 0 (size - FILE_BYTES * m) (drop (16 * m) all)
are_left size m all are k lt =
    let e = are (m + k) (omega (arith, lt, count_left size m)) in
    let n = extent_size (size - FILE_BYTES * m) k in
    let same : extent_size size (m + k) ≡ n = sym (size_left size m k) in
    let there : IsExtent (0 + 16 * (m + k)) n all = subst (λ (n : ℕ). IsExtent (0 + 16 * (m + k)) n all) same e in
    let text : List ℕ = long_descriptor n there.0 in
    let place : 16 * m + (0 + 16 * k) ≡ 0 + 16 * (m + k) = omega arith in
    let inner : drop (0 + 16 * k) (drop (16 * m) all) ≡ drop (0 + 16 * (m + k)) all = drop-drop (0 + 16 * k) (16 * m) all ∙ ap (λ (i : ℕ). drop i all) place in
    (there.0, there.1, ap (take (length text)) inner ∙ there.2)

-- ---- blocks with the descriptors of the extents that are left, one after another from a block number on

abbrev pub AreListed : ℕ → ℕ → List ℕ → List (List ℕ) → Type 0
AreListed size number all [] = Unit {0}
AreListed size number all (block ∷ blocks) =
    IsDescriptorBlock size number block × (descriptors_in block ≡ block_list all number) × AreListed (size - FILE_BYTES * (BLOCK_DESCRIPTORS - 1)) (suc number) (drop (16 * (BLOCK_DESCRIPTORS - 1)) all) blocks

-- one block more
pub listed_push : (blocks : List (List ℕ)) (block : List ℕ) (size number : ℕ) (all : List ℕ) → AreListed size number all blocks
    → IsDescriptorBlock (size - FILE_BYTES * ((BLOCK_DESCRIPTORS - 1) * length blocks)) (number + length blocks) block
    → descriptors_in block ≡ block_list (drop (16 * ((BLOCK_DESCRIPTORS - 1) * length blocks)) all) (number + length blocks)
    → AreListed size number all (blocks ++ block ∷ [])
listed_push [] block size number all are is list =
    let here : number + 0 ≡ number = omega arith in
    let left : size - 1_048_576 * (125 * 0) ≡ size = omega arith in (
      subst (λ (n : ℕ). IsDescriptorBlock size n block) here (subst (λ (n : ℕ). IsDescriptorBlock n (number + 0) block) left is),
      list ∙ ap (block_list all) here,
      tt,
    )
listed_push (x ∷ blocks) block size number all are is list =
    let n = length blocks in
    let here : number + suc n ≡ suc number + n = omega arith in
    let left : size - 1_048_576 * (125 * suc n) ≡ size - 1_048_576 * 125 - 1_048_576 * (125 * n) = omega arith in
    let place : 16 * (125 * suc n) ≡ 16 * 125 + 16 * (125 * n) = omega arith in
    let rest : drop (16 * (125 * suc n)) all ≡ drop (16 * (125 * n)) (drop (16 * 125) all) = ap (λ (i : ℕ). drop i all) place ∙ sym (drop-drop (16 * (125 * n)) (16 * 125) all) in (
      are.0,
      are.1,
      listed_push blocks block (size - 1_048_576 * 125) (suc number) (drop (16 * 125) all) are.2
          (subst (λ (m : ℕ). IsDescriptorBlock (size - 1_048_576 * 125 - 1_048_576 * (125 * n)) m block) here (subst (λ (m : ℕ). IsDescriptorBlock m (number + suc n) block) left is))
          (list ∙ (λ i. block_list (rest i) (here i))),
    )

-- they are those blocks
pub listed_blocks : (blocks : List (List ℕ)) (size number : ℕ) (all : List ℕ) → AreListed size number all blocks → AreDescriptorBlocks size number blocks
listed_blocks [] size number all are = tt
listed_blocks (block ∷ blocks) size number all are = (are.0, listed_blocks blocks (size - 1_048_576 * 125) (suc number) (drop (16 * 125) all) are.2)

-- the descriptors in a place with room for so many: all, or all but the last, and one that leads to this block number
abbrev pub place_list : ℕ → List ℕ → ℕ → List ℕ
place_list room all next = if nat_le (length all) (16 * room) then all else take (16 * (room - 1)) all ++ next_descriptor next

place_all : (room : ℕ) (all : List ℕ) (next : ℕ) → length all ≤ 16 * room → place_list room all next ≡ all
place_all room all next few = ap (λ (b : Bool). cond b all (take (16 * (room - 1)) all ++ next_descriptor next)) (le-leb (length all) (16 * room) few)

pub place_some : (room : ℕ) (all : List ℕ) (next : ℕ) → 16 * room < length all → place_list room all next ≡ take (16 * (room - 1)) all ++ next_descriptor next
place_some room all next more = ap (λ (b : Bool). cond b all (take (16 * (room - 1)) all ++ next_descriptor next)) (lt-leb (length all) (16 * room) more)

-- with those in the blocks after it they are all
listed_whole : (blocks : List (List ℕ)) (room size number : ℕ) (all : List ℕ) → 0 < room → length all ≡ 16 * extent_count size
    → length blocks ≡ (extent_count size - room + (BLOCK_DESCRIPTORS - 2)) / (BLOCK_DESCRIPTORS - 1)
    → AreListed (size - FILE_BYTES * (room - 1)) number (drop (16 * (room - 1)) all) blocks → all_descriptors (place_list room all number) blocks ≡ all
listed_whole [] room size number all some long count are =
    place_all room all number (omega (arith, long, count))
listed_whole (block ∷ blocks) room size number all some long count are =
    let more : room < extent_count size = omega (arith, count) in
    let n = 16 * (room - 1) in
    let here : List ℕ = take n all ++ next_descriptor number in
    let is : place_list room all number ≡ here = place_some room all number (omega (arith, long, more)) in
    let front : length (take n all) ≡ n = omega (arith, length-take n all, long, more) in
    let cut : length here - 16 ≡ n = omega (arith, length-append (take n all) (next_descriptor number), front) in
    let left = size - FILE_BYTES * (room - 1) in
    let after = drop n all in
    let rest : all_descriptors (descriptors_in block) blocks ≡ after =
    ap (λ (d : List ℕ). all_descriptors d blocks) are.1
    ∙ listed_whole blocks 126 left (suc number) after (omega arith) (long_left size (room - 1) all long) (omega (arith, count, more, count_left size (room - 1))) are.2 in
    ap (λ (d : List ℕ). take (length d - 16) d ++ all_descriptors (descriptors_in block) blocks) is
    ∙ ap (λ (m : ℕ). take m here ++ all_descriptors (descriptors_in block) blocks) cut
    ∙ ap (λ (xs : List ℕ). xs ++ all_descriptors (descriptors_in block) blocks) (take_at (take n all) (next_descriptor number) n front)
    ∙ ap (λ (xs : List ℕ). take n all ++ xs) rest
    ∙ take-append-drop n all

-- ---- the descriptors in the entry

-- these and those in the blocks are the descriptors of all extents
pub whole_list : (size next : ℕ) (all : List ℕ) (blocks : List (List ℕ)) → length all ≡ 16 * extent_count size → 0 < descriptor_blocks size → length blocks ≡ descriptor_blocks size
    → AreListed (size - FILE_BYTES * (ENTRY_DESCRIPTORS - 1)) next (drop (16 * (ENTRY_DESCRIPTORS - 1)) all) blocks → all_descriptors (take (16 * (ENTRY_DESCRIPTORS - 1)) all ++ next_descriptor next) blocks ≡ all
whole_list size next all blocks long some count listed =
    ap (λ (d : List ℕ). all_descriptors d blocks) (sym (place_some 117 all next (omega (arith, long, some)))) ∙ listed_whole blocks 117 size next all (omega arith) long (omega (arith, count)) listed

-- an entry may have these descriptors, and they lead to this block number
pub record FitEntry (size next : ℕ) (here : List ℕ) : Type 0 where
  pub long : length here ≡ 16 * slots ENTRY_DESCRIPTORS size
  pub are : AreEntryDescriptors 0 size here
  pub leads : next_number here ≡ next

-- the first of all, where blocks follow from this block number on
pub long_fits : (size next : ℕ) (all : List ℕ) → length all ≡ 16 * extent_count size → AreExtents 0 size all → 0 < descriptor_blocks size → next + descriptor_blocks size ≤ PARTITION_BLOCKS
    → FitEntry size next (take (16 * (ENTRY_DESCRIPTORS - 1)) all ++ next_descriptor next)
long_fits size next all long are some room =
    let more : 117 < extent_count size = omega (arith, some) in
    let front : List ℕ = take (16 * 116) all in
    let here : List ℕ = front ++ next_descriptor next in
    let front-long : length front ≡ 16 * 116 = omega (arith, length-take (16 * 116) all, long, more) in
    let here-long : length here ≡ 16 * slots 117 size = omega (arith, length-append front (next_descriptor next), front-long, more) in
    let descriptors : AreDescriptors 117 0 size next here = record {
      extents = λ k lt.
          let low : k < 116 = omega (arith, lt, listed_some 117 size more) in
          let e = are k (omega (arith, low, more)) in
          (e.0, e.1, at_front (0 + 16 * k) (16 * 116) (long_descriptor (extent_size size k) e.0) all (next_descriptor next) (omega (arith, low)) (omega (arith, long, more)) e.2);
      leads = λ others.
          let text : List ℕ = next_descriptor next in
          let stands : IsAt 0 text text = refl in
          subst (λ (at : ℕ). IsAt at text here) (let at-is : 16 * 116 + 0 ≡ 0 + 16 * (117 - 1) = omega arith in at-is) (at_rest 0 (16 * 116) text front text front-long stands);
    } in
    record {
      long = here-long;
      are = (next, room, descriptors);
      leads = leads_there 117 size next here (omega arith) more (omega (arith, room)) here-long descriptors;
    }

-- all of them, where the entry has room
pub short_fits : (size : ℕ) (all : List ℕ) → length all ≡ 16 * extent_count size → AreExtents 0 size all → descriptor_blocks size ≡ 0 → FitEntry size (next_number all) all
short_fits size all long are none =
    let few : extent_count size ≤ 117 = omega (arith, none) in
    record {
      long = omega (arith, long, few);
      are = (
        0,
        omega (arith, none),
        record {
          extents = λ k lt. are k (omega (arith, lt, listed_all 117 size few));
          leads = λ more. absurd (omega (arith, more, few));
        },
      );
      leads = refl;
    }
