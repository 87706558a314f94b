-- How many bytes a file has, by its entry, where each block of the medium has all of its own.
use Rattle.std.proofs.Common.{◌≡◌, ℕ, suc, ◌+◌, ◌-◌, ◌*◌, ◌/◌, ◌%◌, ◌≤◌, List, [], ◌++◌, length, take, drop, slice_get, Some, refl, sym, ap, subst, ◌∙◌, arith}
use Rattle.std.specs.Prelude.{min}
use Rattle.std.specs.Int.{div_ceil}
use Rattle.std.specs.List.{All}
use Rattle.std.proofs.lemmas.List.Elements.{All-take}
use Rattle.limits.specs.declared.TheConstants.{BLOCK_BYTES, FILE_BYTES, PARTITION_START}
use Rattle.drive.specs.Journal.{Event, held, Once, AreWhole}
use Rattle.drive.proofs.Whole.{held-whole}
use Rattle.icb.specs.declared.entry.FileEntry.{FileEntry}
use Rattle.icb.specs.declared.entry.Kind.{Kind}
use Rattle.icb.specs.declared.entry.Place as source
use Rattle.icb.specs.declared.entry.Place.TheVariants as places
use Rattle.icb.specs.Entry as icb
use Rattle.model.specs.Graph.{Stored, Body}
use Rattle.model.specs.Graph.Body.{Bytes, Entries}
use Rattle.durability.specs.Formats.{NodeFields}
use Rattle.udf.specs.Words.{icb_fields}
use Rattle.icb.specs.Extents.{extent_size}
use Rattle.udf.specs.Udf.{udf}
use Rattle.durability.specs.Volume.{AreWithin, IsWithin, bytes_in_extents, firsts_at}
use Rattle.recover.specs.Blocks.{medium_bytes_at}
use Rattle.lookup.proofs.StoredNodes.{part_below}
use Rattle.lookup.proofs.FileBytes.{HasBytes, stored_nowhere, stored_inside, stored_extent, stored_extents}
use Rattle.lookup.proofs.Pieces.{IsWholeBlock, cut_short, extent_bytes, extent_length, extent_within, extents_long, flat, part_there, piece_in_one, piece_in_two}

abbrev bytes_of : Body → List ℕ
bytes_of (Bytes bytes) = bytes
bytes_of (Entries parent entries) = []

pub size_is : (at : ℕ) (J : List Event) (s : Stored) (fields : NodeFields) (read : FileEntry) (kind : Kind) → HasBytes (take at (held J)) s fields → icb.fields_of read ≡ icb_fields fields → icb.FitsPlace kind read.size (icb.place_of read.place)
    → Once J → AreWhole J → at ≤ length (held J) → (bytes : List ℕ) → s.body ≡ Bytes bytes → read.size ≡ length bytes
size_is at J s fields read kind h same fits once are_whole within bytes body = by read.place refl fits
  where
    all : All IsWholeBlock (held J)
    all = held-whole J once are_whole

    by : (p : source.Place) → read.place ≡ p → icb.FitsPlace kind read.size (icb.place_of p) → read.size ≡ length bytes
    by places.None e f = f.1 ∙ ap (λ (b : Body). length (bytes_of b)) (sym (stored_nowhere at J s fields read h same e) ∙ body)
    by (places.Inside inside) e f = sym f.3 ∙ ap (λ (b : Body). length (bytes_of b)) (sym (stored_inside at J s fields read h same inside e) ∙ body)
    by (places.Extents descriptors) e f =
        let b = stored_extents at J s fields read h same descriptors e in
        sym (extents_long (take at (held J)) (All-take IsWholeBlock at (held J) all) read.size (firsts_at udf (take at (held J)) read.size descriptors.now) b.1) ∙ ap (λ (y : Body). length (bytes_of y)) (sym b.2 ∙ body)
    by (places.Extent first) e f =
        let b = stored_extent at J s fields read h same first e in
        sym (extent_length (held J) (first + PARTITION_START) read.size all (omega (arith, b.0, within))) ∙ ap (λ (y : Body). length (bytes_of y)) (sym b.1 ∙ body)

-- ---- pieces

-- a piece that was cut off where the file ends
pub piece_is : (s : Stored) (bytes whole piece : List ℕ) (offset count size cut : ℕ) → s.body ≡ Bytes bytes → s.body ≡ Bytes whole → size ≡ length whole → cut ≡ min count (size - offset) → piece ≡ take cut (drop offset bytes) → piece ≡ take count (drop offset whole)
piece_is s bytes whole piece offset count size cut stored body long least is =
    let same : bytes ≡ whole = ap bytes_of (sym stored ∙ body) in
    let short : cut ≡ min count (length whole - offset) = least ∙ ap (λ (n : ℕ). min count (n - offset)) long in
    is ∙ ap (λ (b : List ℕ). take cut (drop offset b)) same ∙ ap (λ (n : ℕ). take n (drop offset whole)) short ∙ cut_short count offset whole

-- what is read of an extent that lies below the table
pub piece_read : (at : ℕ) (J : List Event) (first size offset count : ℕ) (read : List ℕ) → Once J → AreWhole J → IsWithin (take at (held J)) first size → offset + count ≤ size
    → read ≡ medium_bytes_at (held J) (first + PARTITION_START + offset / BLOCK_BYTES) (offset % BLOCK_BYTES + count)
    → drop (offset % BLOCK_BYTES) read ≡ take count (drop offset (medium_bytes_at (take at (held J)) (first + PARTITION_START) size))
piece_read at J first size offset count read once are_whole below within e =
    ap (drop (offset % BLOCK_BYTES)) e
    ∙ part_there (held J) (first + PARTITION_START) size offset count (held-whole J once are_whole) within
    ∙ ap (λ (blocks : List (List ℕ)). take count (drop offset (take size (flat blocks)))) (sym (part_below (held J) at (first + PARTITION_START) (div_ceil size BLOCK_BYTES) below))

-- what is read of several extents that lie below the table
module _ (at : ℕ) (J : List Event) (firsts : List ℕ) (size : ℕ) (once : Once J) (are_whole : AreWhole J) (h : AreWithin (take at (held J)) size firsts) where
  all_whole : All IsWholeBlock (take at (held J))
  all_whole = All-take IsWholeBlock at (held J) (held-whole J once are_whole)

  pub extent_there : (k first here : ℕ) → slice_get firsts k ≡ Some first → here ≡ extent_size size k → IsWithin (take at (held J)) first here
  extent_there k first here e is = subst (λ (n : ℕ). IsWithin (take at (held J)) first n) (sym is) (extent_within (take at (held J)) all_whole k size first firsts h e)

  pub read_in_one : (k first here offset skip count : ℕ) (read : List ℕ) → slice_get firsts k ≡ Some first → here ≡ extent_size size k → FILE_BYTES * k + skip ≡ offset → skip + count ≤ here
      → read ≡ take count (drop skip (medium_bytes_at (take at (held J)) (first + PARTITION_START) here))
      → read ≡ take count (drop offset (bytes_in_extents (take at (held J)) size firsts))
  read_in_one k first here offset skip count read e is place within r =
      r ∙ ap (λ (n : ℕ). take count (drop skip (medium_bytes_at (take at (held J)) (first + PARTITION_START) n))) is
      ∙ sym (piece_in_one (take at (held J)) all_whole k size first skip count firsts h e (omega (arith, within, is)))
      ∙ ap (λ (n : ℕ). take count (drop n (bytes_in_extents (take at (held J)) size firsts))) place

  pub read_in_two : (k first here next there offset skip count more all : ℕ) (read later : List ℕ) → slice_get firsts k ≡ Some first → here ≡ extent_size size k
      → slice_get firsts (suc k) ≡ Some next → there ≡ extent_size size (suc k) → FILE_BYTES * k + skip ≡ offset → skip + count ≡ here → more ≤ there → count + more ≡ all
      → read ≡ take count (drop skip (medium_bytes_at (take at (held J)) (first + PARTITION_START) here))
      → later ≡ take more (drop 0 (medium_bytes_at (take at (held J)) (next + PARTITION_START) there))
      → read ++ later ≡ take all (drop offset (bytes_in_extents (take at (held J)) size firsts))
  read_in_two k first here next there offset skip count more all read later e is f there_is place ends within sum r q =
      ap (λ (bytes : List ℕ). bytes ++ later) (r ∙ ap (λ (n : ℕ). take count (drop skip (medium_bytes_at (take at (held J)) (first + PARTITION_START) n))) is)
      ∙ ap (λ (bytes : List ℕ). take count (drop skip (extent_bytes (take at (held J)) size k first)) ++ bytes) (q ∙ ap (λ (n : ℕ). take more (medium_bytes_at (take at (held J)) (next + PARTITION_START) n)) there_is)
      ∙ sym (piece_in_two (take at (held J)) all_whole k size first next skip count more firsts h e f (ends ∙ is) (omega (arith, within, there_is)))
      ∙ ap (λ (n : ℕ). take n (drop (FILE_BYTES * k + skip) (bytes_in_extents (take at (held J)) size firsts))) sum
      ∙ ap (λ (n : ℕ). take all (drop n (bytes_in_extents (take at (held J)) size firsts))) place
