-- The bytes of a piece of a file, by the blocks that have them.
use Rattle.std.proofs.Common.{◌≡◌, ℕ, zero, suc, ◌+◌, ◌-◌, ◌*◌, ◌/◌, ◌%◌, ◌<◌, ◌≤◌, List, [], ◌∷◌, ◌++◌, length, take, drop, slice_get, Some, refl, sym, ap, subst, ◌∙◌, inl, inr, arith}
use Rattle.std.specs.Prelude.{min}
use Rattle.std.specs.Int.{div_ceil}
use Rattle.std.specs.List.{All, flat_map}
use Rattle.std.proofs.Math.Seq.{take-append-add, take-nil, drop-append-add, drop-append_seam, drop-nil}
use Rattle.std.proofs.lemmas.Grind.{div_ceil_times}
use Rattle.std.proofs.lemmas.List.{take-take, drop-drop, drop-take, drop-append-le, take-append-le, take_all, drop_all, length-append, length-take, length-drop}
use Rattle.std.proofs.lemmas.Bool.{cases_lt}
use Rattle.std.proofs.lemmas.Option.{same_Some}
use Rattle.std.proofs.Math.Nat.{min-eq_right}
use Rattle.std.proofs.lemmas.List.Concat.{flat_map-cons}
use Rattle.std.proofs.lemmas.List.Elements.{All-take, All-drop}
use Rattle.limits.specs.declared.TheConstants.{BLOCK_BYTES, FILE_BYTES, PARTITION_START}
use Rattle.durability.specs.Volume.{AreWithin, bytes_in_extents}
use Rattle.durability.proofs.Lists.{part-append}
use Rattle.icb.specs.Extents.{extent_size}
use Rattle.recover.specs.Blocks.{medium_bytes_at}

abbrev pub IsWholeBlock : List ℕ → Type 0
IsWholeBlock block = length block ≡ BLOCK_BYTES

whole_length : (bs : List (List ℕ)) → All IsWholeBlock bs → length (flat_map (λ (b : List ℕ). b) bs) ≡ BLOCK_BYTES * length bs
whole_length [] all = refl
whole_length (b ∷ bs) all =
    let first : length b ≡ BLOCK_BYTES = all 0 b (omega arith) in
    let rest = whole_length bs (λ k d lt. all (suc k) d (omega arith)) in
    omega (arith, length-append b (flat_map (λ (x : List ℕ). x) bs), first, rest)

pub extent_length : (M : List (List ℕ)) (at size : ℕ) → All IsWholeBlock M → at + div_ceil size BLOCK_BYTES ≤ length M → length (medium_bytes_at M at size) ≡ size
extent_length M at size all h =
    let bs = take (div_ceil size BLOCK_BYTES) (drop at M) in
    let some = whole_length bs (All-take IsWholeBlock (div_ceil size BLOCK_BYTES) (drop at M) (All-drop IsWholeBlock at M all)) in
    let count : length bs ≡ div_ceil size BLOCK_BYTES = omega (arith, length-take (div_ceil size BLOCK_BYTES) (drop at M), length-drop at M, h) in
    let enough = (div_ceil_times size BLOCK_BYTES (omega arith)).0 in
    omega (arith, length-take size (flat_map (λ (b : List ℕ). b) bs), some, count, enough)

-- the blocks' bytes, one block after the other
abbrev pub flat : List (List ℕ) → List ℕ
flat blocks = flat_map (λ (b : List ℕ). b) blocks

flat-take : (k : ℕ) (bs : List (List ℕ)) → All IsWholeBlock bs → flat (take k bs) ≡ take (BLOCK_BYTES * k) (flat bs)
flat-take zero bs all = refl
flat-take (suc k) [] all = sym (take-nil (BLOCK_BYTES * suc k))
flat-take (suc k) (b ∷ bs) all =
    let first : length b ≡ BLOCK_BYTES = all 0 b (omega arith) in
    let rest = flat-take k bs (λ i d lt. all (suc i) d (omega arith)) in
    let count : BLOCK_BYTES * suc k ≡ length b + BLOCK_BYTES * k = omega (arith, first) in
    flat_map-cons (λ (x : List ℕ). x) b (take k bs) ∙ ap (λ (r : List ℕ). b ++ r) rest
    ∙ sym (take-append-add b (flat bs) (BLOCK_BYTES * k)) ∙ ap (λ (n : ℕ). take n (b ++ flat bs)) (sym count)
    ∙ ap (take (BLOCK_BYTES * suc k)) (sym (flat_map-cons (λ (x : List ℕ). x) b bs))

flat-drop : (k : ℕ) (bs : List (List ℕ)) → All IsWholeBlock bs → flat (drop k bs) ≡ drop (BLOCK_BYTES * k) (flat bs)
flat-drop zero bs all = refl
flat-drop (suc k) [] all = sym (drop-nil (BLOCK_BYTES * suc k))
flat-drop (suc k) (b ∷ bs) all =
    let first : length b ≡ BLOCK_BYTES = all 0 b (omega arith) in
    let rest = flat-drop k bs (λ i d lt. all (suc i) d (omega arith)) in
    let count : BLOCK_BYTES * suc k ≡ length b + BLOCK_BYTES * k = omega (arith, first) in
    rest ∙ sym (drop-append-add b (flat bs) (BLOCK_BYTES * k)) ∙ ap (λ (n : ℕ). drop n (b ++ flat bs)) (sym count)
    ∙ ap (drop (BLOCK_BYTES * suc k)) (sym (flat_map-cons (λ (x : List ℕ). x) b bs))

-- what lies on a medium of whole blocks
pub there : (M : List (List ℕ)) (at size : ℕ) → All IsWholeBlock M → medium_bytes_at M at size ≡ take size (drop (BLOCK_BYTES * at) (flat M))
there M at size all =
    let count = div_ceil size BLOCK_BYTES in
    let enough = (div_ceil_times size BLOCK_BYTES (omega arith)).0 in
    ap (take size) (flat-take count (drop at M) (All-drop IsWholeBlock at M all))
    ∙ take-take size (BLOCK_BYTES * count) (flat (drop at M)) (omega (arith, enough))
    ∙ ap (take size) (flat-drop at M all)

-- a part of the first bytes
pub part_of_first : (count offset size : ℕ) (bytes : List ℕ) → offset + count ≤ size → take count (drop offset (take size bytes)) ≡ take count (drop offset bytes)
part_of_first count offset size bytes within =
    let parts : size ≡ offset + (size - offset) = omega arith in
    ap (λ (n : ℕ). take count (drop offset (take n bytes))) parts
    ∙ ap (take count) (drop-take offset (size - offset) bytes)
    ∙ take-take count (size - offset) (drop offset bytes) (omega arith)

-- a part of what lies there is read from the block on in which it begins
pub part_there : (M : List (List ℕ)) (at size offset count : ℕ) → All IsWholeBlock M → offset + count ≤ size
    → drop (offset % BLOCK_BYTES) (medium_bytes_at M (at + offset / BLOCK_BYTES) (offset % BLOCK_BYTES + count)) ≡ take count (drop offset (medium_bytes_at M at size))
part_there M at size offset count all within =
    let skip = offset % BLOCK_BYTES in
    let start = at + offset / BLOCK_BYTES in
    let place : BLOCK_BYTES * start + skip ≡ BLOCK_BYTES * at + offset = omega arith in
    let read : drop skip (medium_bytes_at M start (skip + count)) ≡ take count (drop (BLOCK_BYTES * start + skip) (flat M)) =
    ap (drop skip) (there M start (skip + count) all)
    ∙ drop-take skip count (drop (BLOCK_BYTES * start) (flat M))
    ∙ ap (take count) (drop-drop skip (BLOCK_BYTES * start) (flat M)) in
    let said : take count (drop offset (medium_bytes_at M at size)) ≡ take count (drop (BLOCK_BYTES * at + offset) (flat M)) =
    ap (λ (bytes : List ℕ). take count (drop offset bytes)) (there M at size all)
    ∙ part_of_first count offset size (drop (BLOCK_BYTES * at) (flat M)) within
    ∙ ap (take count) (drop-drop offset (BLOCK_BYTES * at) (flat M)) in
    read ∙ ap (λ (n : ℕ). take count (drop n (flat M))) place ∙ sym said

-- ---- several extents

-- the bytes of one of the extents of so many bytes
abbrev pub extent_bytes : List (List ℕ) → ℕ → ℕ → ℕ → List ℕ
extent_bytes M size k first = medium_bytes_at M (first + PARTITION_START) (extent_size size k)

-- the bytes from an extent on
record FromExtent (M : List (List ℕ)) (size k first : ℕ) (firsts : List ℕ) : Type 0 where
  some : 0 < size - FILE_BYTES * k
  within : first + PARTITION_START + div_ceil (extent_size size k) BLOCK_BYTES ≤ length M
  later : List ℕ
  bytes : drop (FILE_BYTES * k) (bytes_in_extents M size firsts) ≡ extent_bytes M size k first ++ later

first_length : (M : List (List ℕ)) (first size : ℕ) → All IsWholeBlock M → first + PARTITION_START + div_ceil size BLOCK_BYTES ≤ length M → length (medium_bytes_at M (first + PARTITION_START) size) ≡ size
first_length M first size all within = extent_length M (first + PARTITION_START) size all within

from_extent : (M : List (List ℕ)) → All IsWholeBlock M → (k size first : ℕ) (firsts : List ℕ) → AreWithin M size firsts → slice_get firsts k ≡ Some first → FromExtent M size k first firsts
from_extent M all zero size first [] h e = absurd cc
from_extent M all zero size first (one ∷ firsts) h e =
    let same : one ≡ first = same_Some one first e in
    let left : size ≡ size - FILE_BYTES * 0 = omega arith in
    record {
      some = subst (λ (n : ℕ). 0 < n) left h.0;
      within = subst (λ (n : ℕ). n + PARTITION_START + div_ceil (extent_size size 0) BLOCK_BYTES ≤ length M) same
          (subst (λ (n : ℕ). one + PARTITION_START + div_ceil (min n FILE_BYTES) BLOCK_BYTES ≤ length M) left h.1);
      later = bytes_in_extents M (size - FILE_BYTES) firsts;
      bytes = ap (λ (n : ℕ). medium_bytes_at M (n + PARTITION_START) (min size FILE_BYTES) ++ bytes_in_extents M (size - FILE_BYTES) firsts) same
          ∙ ap (λ (n : ℕ). medium_bytes_at M (first + PARTITION_START) (min n FILE_BYTES) ++ bytes_in_extents M (size - FILE_BYTES) firsts) left;
    }
from_extent M all (suc k) size first [] h e = absurd cc
from_extent M all (suc k) size first (one ∷ firsts) h e =
    let r = from_extent M all k (size - FILE_BYTES) first firsts h.2 e in
    let left : size - FILE_BYTES - FILE_BYTES * k ≡ size - FILE_BYTES * suc k = omega arith in
    let whole : min size FILE_BYTES ≡ FILE_BYTES = min-eq_right (omega (arith, r.some)) in
    let long : length (medium_bytes_at M (one + PARTITION_START) (min size FILE_BYTES)) ≡ FILE_BYTES = first_length M one (min size FILE_BYTES) all h.1 ∙ whole in
    let e0 = medium_bytes_at M (one + PARTITION_START) (min size FILE_BYTES) in
    let others = bytes_in_extents M (size - FILE_BYTES) firsts in
    let count : FILE_BYTES * suc k ≡ length e0 + FILE_BYTES * k = omega (arith, long) in
    record {
      some = subst (λ (n : ℕ). 0 < n) left r.some;
      within = subst (λ (n : ℕ). first + PARTITION_START + div_ceil (min n FILE_BYTES) BLOCK_BYTES ≤ length M) left r.within;
      later = r.later;
      bytes = ap (λ (n : ℕ). drop n (e0 ++ others)) count ∙ drop-append-add e0 others (FILE_BYTES * k) ∙ r.bytes
          ∙ ap (λ (n : ℕ). medium_bytes_at M (first + PARTITION_START) (min n FILE_BYTES) ++ r.later) left;
    }

-- so many bytes are in them
pub extents_long : (M : List (List ℕ)) → All IsWholeBlock M → (size : ℕ) (firsts : List ℕ) → AreWithin M size firsts → length (bytes_in_extents M size firsts) ≡ size
extents_long M all size [] h = sym h
extents_long M all size (one ∷ firsts) h =
    let e0 = medium_bytes_at M (one + PARTITION_START) (min size FILE_BYTES) in
    let others = bytes_in_extents M (size - FILE_BYTES) firsts in
    let first = first_length M one (min size FILE_BYTES) all h.1 in
    let rest = extents_long M all (size - FILE_BYTES) firsts h.2 in
    length-append e0 others ∙ omega (arith, first, rest)

pub extent_within : (M : List (List ℕ)) → All IsWholeBlock M → (k size first : ℕ) (firsts : List ℕ) → AreWithin M size firsts → slice_get firsts k ≡ Some first → first + PARTITION_START + div_ceil (extent_size size k) BLOCK_BYTES ≤ length M
extent_within M all k size first firsts h e = (from_extent M all k size first firsts h e).within

-- a piece that ends in the extent in which it begins
pub piece_in_one : (M : List (List ℕ)) → All IsWholeBlock M → (k size first offset count : ℕ) (firsts : List ℕ) → AreWithin M size firsts → slice_get firsts k ≡ Some first → offset + count ≤ extent_size size k
    → take count (drop (FILE_BYTES * k + offset) (bytes_in_extents M size firsts)) ≡ take count (drop offset (extent_bytes M size k first))
piece_in_one M all k size first offset count firsts h e within =
    let r = from_extent M all k size first firsts h e in
    let whole = bytes_in_extents M size firsts in
    let here = extent_bytes M size k first in
    let long : length here ≡ extent_size size k = first_length M first (extent_size size k) all r.within in
    ap (take count) (sym (drop-drop offset (FILE_BYTES * k) whole) ∙ ap (drop offset) r.bytes)
    ∙ part-append offset count here r.later (omega (arith, long, within))

-- a piece that goes on into the next one
pub piece_in_two : (M : List (List ℕ)) → All IsWholeBlock M → (k size first next offset count more : ℕ) (firsts : List ℕ) → AreWithin M size firsts → slice_get firsts k ≡ Some first → slice_get firsts (suc k) ≡ Some next
    → offset + count ≡ extent_size size k → more ≤ extent_size size (suc k)
    → take (count + more) (drop (FILE_BYTES * k + offset) (bytes_in_extents M size firsts)) ≡ take count (drop offset (extent_bytes M size k first)) ++ take more (extent_bytes M size (suc k) next)
piece_in_two M all k size first next offset count more firsts h e f ends within =
    let r = from_extent M all k size first firsts h e in
    let s = from_extent M all (suc k) size next firsts h f in
    let whole = bytes_in_extents M size firsts in
    let here = extent_bytes M size k first in
    let there = extent_bytes M size (suc k) next in
    let long : length here ≡ extent_size size k = first_length M first (extent_size size k) all r.within in
    let full : extent_size size k ≡ FILE_BYTES = min-eq_right (omega (arith, s.some)) in
    let later_long : length there ≡ extent_size size (suc k) = first_length M next (extent_size size (suc k)) all s.within in
    -- what is after this extent begins with the next one
    let after : r.later ≡ there ++ s.later =
    sym (drop-append_seam here r.later) ∙ ap (λ (n : ℕ). drop n (here ++ r.later)) (long ∙ full) ∙ ap (drop FILE_BYTES) (sym r.bytes)
    ∙ drop-drop FILE_BYTES (FILE_BYTES * k) whole ∙ ap (λ (n : ℕ). drop n whole) (the_next k) ∙ s.bytes in
    let cut : drop offset here ≡ take count (drop offset here) = sym (take_all count (drop offset here) (omega (arith, length-drop offset here, long, ends))) in
    let length_cut : length (drop offset here) ≡ count = omega (arith, length-drop offset here, long, ends) in
    ap (take (count + more)) (sym (drop-drop offset (FILE_BYTES * k) whole) ∙ ap (drop offset) r.bytes ∙ drop-append-le offset here r.later (omega (arith, long, ends)))
    ∙ ap (λ (n : ℕ). take (n + more) (drop offset here ++ r.later)) (sym length_cut)
    ∙ take-append-add (drop offset here) r.later more
    ∙ ap (λ (bytes : List ℕ). bytes ++ take more r.later) cut
    ∙ ap (λ (bytes : List ℕ). take count (drop offset here) ++ take more bytes) after
    ∙ ap (λ (bytes : List ℕ). take count (drop offset here) ++ bytes) (take-append-le more there s.later (omega (arith, later_long, within)))
  where
    the_next : (j : ℕ) → FILE_BYTES * j + FILE_BYTES ≡ FILE_BYTES * suc j
    the_next j = omega arith

-- no more than there are
pub cut_short : (count offset : ℕ) (bytes : List ℕ) → take (min count (length bytes - offset)) (drop offset bytes) ≡ take count (drop offset bytes)
cut_short count offset bytes =
    elim (cases_lt count (length bytes - offset)) [
      | inl lt ↦ ap (λ (n : ℕ). take n (drop offset bytes)) (least lt)
      | inr le ↦ take_all (min count (length bytes - offset)) (drop offset bytes) (omega (arith, le, length-drop offset bytes)) ∙ sym (take_all count (drop offset bytes) (omega (arith, le, length-drop offset bytes)))
    ]
  where
    least : count < length bytes - offset → min count (length bytes - offset) ≡ count
    least lt = omega (arith, lt)

-- nothing is there past the end
pub past_end : (count offset : ℕ) (bytes : List ℕ) → length bytes ≤ offset → take count (drop offset bytes) ≡ []
past_end count offset bytes le = ap (take count) (drop_all offset bytes le) ∙ take-nil count
