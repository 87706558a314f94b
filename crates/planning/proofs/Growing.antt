-- A file whose extents are full gets one more: what its entry says then.
use Rattle.std.proofs.Common.{◌≡◌, ℕ, zero, suc, ◌+◌, ◌-◌, ◌*◌, ◌/◌, ◌<◌, ◌≤◌, ◌^◌, Bool, false, List, [], ◌∷◌, ◌++◌, length, take, drop, refl, sym, ap, subst, ◌∙◌, arith, length-append, length-drop, inl, inr, ◌⊎◌}
use Rattle.std.specs.Prelude.{slice_index, if◌then◌else◌, IsTrue, ◌↔◌}
use Rattle.std.proofs.lemmas.Bool.{ne_eqb, true≢false}
use Rattle.std.proofs.lemmas.List.{drop_at, take_all, drop-append-le, get_or_append_left}
use Rattle.limits.specs.declared.TheConstants.{FILE_BYTES, PARTITION_BLOCKS}
use Rattle.ecma.specs.Blocks.{block_count}
use Rattle.ecma.specs.Field.{IsAt}
use Rattle.ecma.specs.Numbers.{u32_at}
use Rattle.icb.specs.declared.entry.Kind.TheVariants.{File}
use Rattle.icb.specs.Entry.{FitsPlace}
use Rattle.icb.specs.Extents.{AreExtents, HaveDescriptors, IsExtent, all_descriptors, descriptor_blocks, extent_count, extent_size, last_size, long_descriptor, next_number}
use Rattle.icb.specs.Entry.Place.{Extents}
use Rattle.icb.proofs.EntryLaws.{descriptor_first}
use Rattle.durability.specs.Formats.{Block}
use Rattle.durability.specs.Formats.Kind.{File as FileEntry}
use Rattle.durability.specs.Formats.NodePlace.{Extents as Spread}
use Rattle.durability.specs.Plan.{IsPlaced, WritesNode}
use Rattle.durability.specs.Plan.PlacesFile.{appended}
use Rattle.durability.specs.Volume as volume
use Rattle.durability.specs.Volume.{Medium}
use Rattle.durability.proofs.Lists.{part-append}
use Rattle.udf.specs.Udf.{all_firsts, firsts_in, udf}
use Rattle.udf.proofs.Extents.{firsts_many}
use Rattle.lookup.specs.Extents.{AreFull, full_size}
use Rattle.table_update.specs.Outside.{outside, outside_after}
use Rattle.planning.specs.Writings.{AreKeptOn, file_writing, kept_bytes}
use Rattle.planning.specs.declared.file.NewFile.{NewFile}
use Rattle.planning.proofs.Listing.{blocks_same, short_fits}

-- what stands in a text stands there in a longer one
at_front : (at : ℕ) (text d more : List ℕ) → at + length text ≤ length d → IsAt at text d → IsAt at text (d ++ more)
at_front at text d more room stands = part-append at (length text) d more room ∙ stands

at_back : (at : ℕ) (d text : List ℕ) → at ≡ length d → IsAt at text (d ++ text)
at_back at d text e =
    ap (λ (n : ℕ). take (length text) (drop n (d ++ text))) e ∙ ap (take (length text)) (drop_at d text (length d) refl) ∙ take_all (length text) text (omega arith)

-- how many extents so many bytes are in, and how many bytes are in the last
pub counts : (n len : ℕ) → 0 < len → len ≤ FILE_BYTES → (extent_count (FILE_BYTES * n + len) ≡ n + 1) × (extent_size (FILE_BYTES * n + len) n ≡ len) × (last_size (FILE_BYTES * n + len) ≡ len)
counts n len some few =
    let count : extent_count (FILE_BYTES * n + len) ≡ n + 1 = omega (arith, some, few) in
    let size : extent_size (FILE_BYTES * n + len) n ≡ len = omega (arith, few) in
    let last : extent_count (FILE_BYTES * n + len) - 1 ≡ n = omega (arith, count) in
    (count, size, ap (extent_size (FILE_BYTES * n + len)) last ∙ size)

-- each extent before is full
full_one : (n len k : ℕ) → k < n → extent_size (FILE_BYTES * n) k ≡ extent_size (FILE_BYTES * n + len) k
full_one n len k lt = omega (arith, lt)

pub are_grown : (n len first : ℕ) (d : List ℕ) → length d ≡ 16 * n → AreExtents 0 (FILE_BYTES * n) d → 0 < len → len ≤ FILE_BYTES → first + block_count len ≤ PARTITION_BLOCKS
    → AreExtents 0 (FILE_BYTES * n + len) (d ++ long_descriptor len first)
are_grown n len first d long all some few room k lt = go (split k n (omega (arith, lt, (counts n len some few).0)))
  where
    split : (k n : ℕ) → k ≤ n → (k < n) ⊎ (k ≡ n)
    split zero zero le = inr refl
    split zero (suc n) le = inl (omega arith)
    split (suc k) zero le = absurd (omega (arith, le))
    split (suc k) (suc n) le = elim (split k n (omega (arith, le))) [ inl less ↦ inl (omega (arith, less)) | inr same ↦ inr (ap suc same) ]

    go : (k < n) ⊎ (k ≡ n) → IsExtent (0 + 16 * k) (extent_size (FILE_BYTES * n + len) k) (d ++ long_descriptor len first)
    go (inl less) =
        let e = all k (omega (arith, less)) in
        subst (λ (m : ℕ). IsExtent (0 + 16 * k) m (d ++ long_descriptor len first)) (full_one n len k less)
        (e.0, e.1, at_front (0 + 16 * k) (long_descriptor (extent_size (FILE_BYTES * n) k) e.0) d (long_descriptor len first) (omega (arith, long, less)) e.2)
    go (inr same) =
        let size : len ≡ extent_size (FILE_BYTES * n + len) k = sym (ap (extent_size (FILE_BYTES * n + len)) same ∙ (counts n len some few).1) in
        subst (λ (m : ℕ). IsExtent (0 + 16 * k) m (d ++ long_descriptor len first)) size
        (first, room, at_back (0 + 16 * k) d (long_descriptor len first) (omega (arith, long, same)))

-- the descriptors of a file whose extents are full, with that of the new one
pub record AreGrown (size : ℕ) (all : List ℕ) : Type 0 where
  pub long : length all ≡ 16 * extent_count size
  pub are : AreExtents 0 size all

pub all_grown : (len first : ℕ) (d : List ℕ) → AreFull d → 0 < len → len ≤ FILE_BYTES → first + block_count len ≤ PARTITION_BLOCKS → AreGrown (full_size d + len) (d ++ long_descriptor len first)
all_grown len first d full more few room =
    let n = length d / 16 in
    let count = (counts n len more few).0 in
    record {
      long = omega (arith, length-append d (long_descriptor len first), full.long, count);
      are = are_grown n len first d full.long full.are more few room;
    }

-- where the entry of the longer file says that its bytes are, if it has room
pub grown_place : (len first : ℕ) (d : List ℕ) → AreFull d → 0 < full_size d → 0 < len → len ≤ FILE_BYTES → first + block_count len ≤ PARTITION_BLOCKS → descriptor_blocks (full_size d + len) ≡ 0
    → FitsPlace File (full_size d + len) (Extents (d ++ long_descriptor len first))
grown_place len first d full some more few room none =
    let n = length d / 16 in
    let all = all_grown len first d full more few room in
    let fit = short_fits (full_size d + len) (d ++ long_descriptor len first) all.long all.are none in
    (refl, omega (arith, some, more), fit.long, fit.are)

-- ---- what lies outside the entry

-- what is not empty has bytes
pub some_kept : (b : Bool) (n : ℕ) → IsTrue b ↔ (n ≡ 0) → b ≡ false → 0 < n
some_kept b zero is false_is = absurd (true≢false (sym (is.1 refl) ∙ false_is))
some_kept b (suc n) is false_is = omega arith

-- after bytes that stay all of them do
pub outside_kept : (kept : ℕ) (bytes : List ℕ) → 0 < kept → outside_after kept bytes ≡ bytes
outside_kept kept bytes some = ap (λ (b : Bool). if b then outside bytes else bytes) (ne_eqb kept 0 (λ e. absurd (omega (arith, e, some))))

-- else those of a whole file
pub outside_new : (kept : ℕ) (bytes : List ℕ) → kept ≡ 0 → outside_after kept bytes ≡ outside bytes
outside_new kept bytes none = ap (λ (n : ℕ). outside_after n bytes) none

-- ---- the block numbers

cell_front : (i : ℕ) (d more : List ℕ) → i < length d → slice_index (d ++ more) i ≡ slice_index d i
cell_front i d more lt = get_or_append_left d more 0 i lt

u32_front : (i : ℕ) (d more : List ℕ) → i + 4 ≤ length d → u32_at i (d ++ more) ≡ u32_at i d
u32_front i d more room =
    omega (
      arith,
      cell_front i d more (omega (arith, room)),
      cell_front (i + 1) d more (omega (arith, room)),
      cell_front (i + 2) d more (omega (arith, room)),
      cell_front (i + 2 + 1) d more (omega (arith, room)),
    )

firsts_more : (n : ℕ) (d more : List ℕ) (first : ℕ) → length d ≡ 16 * n → u32_at 4 more ≡ first → firsts_in (n + 1) (d ++ more) ≡ firsts_in n d ++ first ∷ []
firsts_more zero [] more first long is = ap (λ (x : ℕ). x ∷ []) is
firsts_more zero (x ∷ d) more first long is = absurd (omega (arith, long))
firsts_more (suc n) d more first long is =
    let next : suc n + 1 ≡ suc (n + 1) = omega arith in
    ap (λ (m : ℕ). firsts_in m (d ++ more)) next
    ∙ ap (λ (x : ℕ). x ∷ firsts_in (n + 1) (drop 16 (d ++ more))) (u32_front 4 d more (omega (arith, long)))
    ∙ ap (λ (xs : List ℕ). u32_at 4 d ∷ firsts_in (n + 1) xs) (drop-append-le 16 d more (omega (arith, long)))
    ∙ ap (λ (xs : List ℕ). u32_at 4 d ∷ xs) (firsts_more n (drop 16 d) more first (omega (arith, long, length-drop 16 d)) is)

-- those of the extents before, and then that of the new one
pub firsts_grown : (len first : ℕ) (d : List ℕ) → AreFull d → first < 2 ^ 32 → all_firsts (d ++ long_descriptor len first) ≡ all_firsts d ++ first ∷ []
firsts_grown len first d full fits =
    let n = length d / 16 in
    let count : length (d ++ long_descriptor len first) / 16 ≡ n + 1 = omega (arith, length-append d (long_descriptor len first), full.long) in
    ap (λ (m : ℕ). firsts_in m (d ++ long_descriptor len first)) count
    ∙ firsts_more n d (long_descriptor len first) first full.long (descriptor_first 0 len first (long_descriptor len first) fits refl)

-- ---- what is written

-- The file's new bytes are placed from a block number on, with descriptor blocks after them, if there are any. The entry's
-- descriptors and those in these blocks are the file's, with that of the new extent.
pub grown_node : (medium : Medium) (moment : ℕ) (f : NewFile) (from first : ℕ) (before placed listed : List Block) (descriptors : List ℕ) (entry : Block)
    → AreKeptOn medium f → 0 < full_size f.kept → AreFull f.kept → first < 2 ^ 32 → IsPlaced udf f.bytes.now from first placed → before ≡ placed ++ listed
    → length listed ≡ descriptor_blocks (full_size f.kept + length f.bytes.now) → (0 < length listed → next_number descriptors ≡ from + length placed)
    → HaveDescriptors (full_size f.kept + length f.bytes.now) (next_number descriptors) listed → all_descriptors descriptors listed ≡ f.kept ++ long_descriptor (length f.bytes.now) first
    → udf.IsEntry (record { kind = FileEntry; moment = moment; links = 1; identity = f.unique; size = full_size f.kept + length f.bytes.now; place = Spread descriptors }) entry f.address
    → WritesNode udf medium (file_writing medium moment f) from (before ++ entry ∷ []) (from + length before)
grown_node medium moment f from first before placed listed descriptors entry kept some full fits at_start before_is count leads have whole is =
    let front : List ℕ = kept_bytes medium f in
    let new : List ℕ = f.bytes.now in
    let size = full_size f.kept + length new in
    let long : length (front ++ new) ≡ size = length-append front new ∙ ap (λ (n : ℕ). n + length new) kept.size in
    let extents : full_size f.kept ≡ FILE_BYTES * length (all_firsts f.kept) = ap (λ (n : ℕ). FILE_BYTES * n) (sym (firsts_many (length f.kept / 16) f.kept)) in
    record {
      before = before;
      entry = entry;
      blocks_are = refl;
      number_is = refl;
      place = Spread descriptors;
      size = size;
      body = (
        sym long,
        appended front new refl kept.size some extents kept.within refl (f.some some) f.short first placed listed at_start before_is
            (count ∙ sym (blocks_same size) ∙ ap volume.descriptor_blocks (sym long)) descriptors leads
            (subst (λ (n : ℕ). HaveDescriptors n (next_number descriptors) listed) (sym long) have) (ap all_firsts whole ∙ firsts_grown (length new) first f.kept full fits) refl,
      );
      is = is;
    }
