-- The formats are exact, bounded, distinct and short.
use Rattle.std.proofs.Common.{◌≡◌, ℕ, zero, suc, ◌+◌, ◌*◌, ◌/◌, ◌-◌, ◌<◌, ◌≤◌, List, [], ◌∷◌, ◌++◌, length, map, replicate, refl, sym, ap, subst, ◌∙◌, inl, inr, arith}
use Rattle.std.specs.Prelude.{sum}
use Rattle.std.specs.List.{All, concat}
use Rattle.std.proofs.lemmas.Bool.{cases_lt}
use Rattle.std.proofs.lemmas.List.{get_or_append_left, get_or-append_right, length-map}
use Rattle.std.proofs.lemmas.List.Elements.{All-contains}
use Rattle.std.proofs.lemmas.List.Sums.{sum_by-cons}
use Rattle.limits.specs.declared.TheConstants.{FILE_BYTES, ENTRY_DESCRIPTORS, BLOCK_DESCRIPTORS}
use Rattle.ecma.specs.Numbers.{u16_at}
use Rattle.osta.specs.Compressed.{compressed}
use Rattle.model.specs.Tree.{Name}
use Rattle.model.specs.Graph.{Entry}
use Rattle.durability.specs.Formats.{Block, AreExact, AreBounded, AreDistinct, AreShort, identifier_size}
use Rattle.icb.specs.Entry.{Fields as IcbFields, IsEntry}
use Rattle.icb.specs.Extents.{AreDescriptorBlocks}
use Rattle.icb.proofs.VatIcbs.{one_entry}
use Rattle.ecma.proofs.Seals.{begins}
use Rattle.dir.specs.Identifier.{plain_size}
use Rattle.dir.specs.Size.{plain_sizes, name_sizes}
use Rattle.dir.specs.Split.{AreBytes}
use Rattle.dir.proofs.Begins.{blocks_begin}
use Rattle.dir.proofs.Once.{directory_once}
use Rattle.dir.proofs.Short.{directories_short}
use Rattle.vat.proofs.TableReads.{one_table, nodes_have_entries}
use Rattle.udf.specs.Words.{icb_fields, directory_entry, directory_entries, table_of}
use Rattle.udf.specs.Udf.{IsBlock, HoldsDirectory, udf, spelled_length}
use Rattle.udf.proofs.Words.{kind_one, fields_one, entries_one, table_one}

-- ---- blocks

bytes_append : (xs ys : List ℕ) → AreBytes xs → AreBytes ys → AreBytes (xs ++ ys)
bytes_append xs ys a b i = elim (cases_lt i (length xs)) [
  | inl lt ↦ subst (λ (v : ℕ). v < 256) (sym (get_or_append_left xs ys 0 i lt)) (a i)
  | inr ge ↦ subst (λ (v : ℕ). v < 256) (sym (get_or-append_right xs ys (length xs) i 0 refl ge)) (b (i - length xs))
]

bytes_joined : (blocks : List Block) → All IsBlock blocks → AreBytes (concat blocks)
bytes_joined [] all i = omega arith
bytes_joined (b ∷ blocks) all i = bytes_append b (concat blocks) (all 0 b (omega arith)).bytes (bytes_joined blocks (λ k d lt. all (suc k) d (omega arith))) i

sized : (blocks : List Block) → All IsBlock blocks → All (λ block. length block ≡ 2048) blocks
sized blocks all k d lt = (all k d lt).size

-- ---- exact

directory_one : (first size : ℕ) (blocks : List Block) (p q : ℕ) (es fs : List Entry) → HoldsDirectory p es first size blocks → HoldsDirectory q fs first size blocks → (p ≡ q) × (es ≡ fs)
directory_one first size blocks p q es fs a b =
    let one = directory_once first size p q (directory_entries es) (directory_entries fs) blocks a.low (bytes_joined blocks a.blocks_are) a.is b.is in
    (one.0, entries_one es fs one.1)

pub exact : AreExact udf
exact = record {
  entry = λ block location f g a b. fields_one f g (one_entry (icb_fields f) (icb_fields g) location location block a b).0;
  directory = λ first size blocks p q es fs a b. directory_one first size blocks p q es fs a b;
  table = λ icb bytes t u a b. table_one a.0 b.0 t u (one_table icb icb (table_of a.0 t) (table_of b.0 u) bytes a.1 b.1);
}

-- ---- bounded

pub bounded : AreBounded udf
bounded = record {
  names = λ parent first size entries blocks h. omega (arith, h.is.few, length-map entries directory_entry);
  nodes = λ table icb bytes h. nodes_have_entries (table_of h.0 table) h.1.table.fits;
  used = λ table icb bytes h. h.1.table.fits.used;
}

-- ---- distinct

pub entry_begins : (e : IcbFields) (location : ℕ) (block : Block) → IsEntry e location block → u16_at 0 block ≡ 261
entry_begins e location block is = begins 261 location _ block is.laid.whole

zeros_begin : (n : ℕ) → u16_at 0 (replicate n 0) ≡ 0
zeros_begin zero = refl
zeros_begin (suc zero) = refl
zeros_begin (suc (suc n)) = refl

zeros_none : (n location : ℕ) (e : IcbFields) → IsEntry e location (replicate n 0) → ⊥
zeros_none n location e is = omega (arith, zeros_begin n, entry_begins e location (replicate n 0) is)

directory_none : (parent first size : ℕ) (entries : List Entry) (blocks : List Block) → HoldsDirectory parent entries first size blocks → All (λ block. u16_at 0 block ≡ 257) blocks
directory_none parent first size entries blocks h = (blocks_begin parent first size (directory_entries entries) blocks (sized blocks h.blocks_are) h.is).1

descriptors_begin : (size first : ℕ) (blocks : List Block) → AreDescriptorBlocks size first blocks → All (λ block. u16_at 0 block ≡ 258) blocks
descriptors_begin size first [] all k d lt = absurd (omega (arith, lt))
descriptors_begin size first (block ∷ blocks) all zero d lt = begins 258 first _ block all.0.whole
descriptors_begin size first (block ∷ blocks) all (suc k) d lt = descriptors_begin (size - FILE_BYTES * (BLOCK_DESCRIPTORS - 1)) (suc first) blocks all.1 k d (omega (arith, lt))

pub distinct : AreDistinct udf
distinct = record {
  kind = λ block location other f g a b. kind_one f.kind g.kind (ap (λ (x : IcbFields). x.kind) (one_entry (icb_fields f) (icb_fields g) location other block a b).0);
  zeros = λ location fields is. zeros_none 2048 location (icb_fields fields) is;
  directory = λ parent first size entries blocks h block there location fields is.
      let tag : u16_at 0 block ≡ 257 = All-contains (λ (b : Block). u16_at 0 b ≡ 257) blocks block (directory_none parent first size entries blocks h) there in
      omega (arith, tag, entry_begins (icb_fields fields) location block is);
  descriptors = λ size first blocks h block there location fields is.
      let tag : u16_at 0 block ≡ 258 = All-contains (λ (b : Block). u16_at 0 b ≡ 258) blocks block (descriptors_begin (size - FILE_BYTES * (ENTRY_DESCRIPTORS - 1)) first blocks h) there in
      omega (arith, tag, entry_begins (icb_fields fields) location block is);
  set = λ label moment block h location fields is. omega (arith, begins 256 0 h.fields block h.whole, entry_begins (icb_fields fields) location block is);
}

-- ---- short

sizes_sum : (entries : List Entry) → plain_sizes (name_sizes (directory_entries entries)) ≡ sum (map (λ (name : Name). identifier_size (spelled_length name)) (map (λ (e : Entry). e.name) entries))
sizes_sum [] = refl
sizes_sum (e ∷ entries) =
    ap (λ (n : ℕ). plain_size (length (compressed e.name)) + n) (sizes_sum entries)
    ∙ sym (sum_by-cons (λ (n : ℕ). n) (identifier_size (spelled_length e.name)) (map (λ (name : Name). identifier_size (spelled_length name)) (map (λ (x : Entry). x.name) entries)))

pub short : AreShort udf spelled_length
short parent first size entries blocks h =
    subst (λ (n : ℕ). length blocks ≤ 1 + (40 + n) / 1720) (sizes_sum entries)
    (directories_short parent first size (directory_entries entries) blocks (sized blocks h.blocks_are) h.is)
